use Rattle.std.proofs.Common.{◌≡◌, ◌<◌, ◌+◌, ◌-◌, ◌∙◌, ℕ, ap, arith, drop, length}
use Rattle.kt_rowfiles.specs.Reading.{steps_in}
use Rattle.kt_diskrowset.specs.Alive.{verdict_of}
use Rattle.kt_diskrowset.proofs.Verdicts.{record_next}
use Rattle.kt_diskrowset.proofs.alive.with_records.Goals as goal

pub records-preserved : goal.records-preserved
records-preserved c =
    let low : c.records.at - 1 < length c.args.records.now = omega arith in
    let back : c.records.at ≡ c.records.at - 1 + 1 = omega arith in
    record {
      within = omega arith;
      told = record_next c.args.records.now (c.records.at - 1) c.index-records-at.result c.args.behind c.records.verdict c.with_record-verdict.result low c.index-records-at.is
          (c.records.invariant.told ∙ ap (λ (k : ℕ). verdict_of (steps_in (drop k c.args.records.now)) c.args.behind) back) c.with_record-verdict.ensures;
    }
