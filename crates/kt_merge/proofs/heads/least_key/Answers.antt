use Rattle.std.proofs.Common.{◌≡◌, ◌<◌, ◌+◌, ◌-◌, ◌∙◌, ℕ, ap, arith, drop, length}
use Rattle.std.specs.Option.{option_copied}
use Rattle.kt_merge.specs.Heads.{least_in, keys_next}
use Rattle.kt_merge.proofs.HeadsTaken.{least_more, none_least}
use Rattle.kt_merge.proofs.heads.least_key.Goals as goal

pub heads-init : goal.heads-init
heads-init c = record { within = omega arith; least = none_least c.args.heads.now (length c.args.heads.now) (omega arith) }

pub heads-preserved : goal.heads-preserved
heads-preserved c =
    let low : c.heads.at - 1 < length c.args.heads.now = omega arith in
    let back : c.heads.at ≡ c.heads.at - 1 + 1 = omega arith in
    record {
      within = omega arith;
      least = least_more c.args.heads.now (c.heads.at - 1) c.index-heads-at.result (option_copied c.next.result) (option_copied c.heads.least) (option_copied c.lesser-least.result) low c.index-heads-at.is c.next.ensures
          (c.heads.invariant.least ∙ ap (λ (k : ℕ). least_in (keys_next (drop k c.args.heads.now))) back) c.lesser-least.ensures;
    }
