use Rattle.std.proofs.Common.{◌≡◌, ◌-◌, ◌+◌, ◌*◌, ◌≤◌, ◌∙◌, ◌++◌, ◌∷◌, [], ℕ, length, get_or, ap, arith, inl, inr}
use Rattle.std.proofs.lemmas.List.{length_push, get_or_push, get_or_append_left}
use Rattle.std.proofs.lemmas.Bool.{cases_lt}
use Rattle.kt_front.specs.Walking.{IsBlock}
use Rattle.kt_front.proofs.Walk.{next_stretch, stretch_offset, block_whole}
use Rattle.kt_front.proofs.starts.Starts.of.Goals as goal

pub loop-init : goal.loop-init
loop-init c = record {
  count = ap length c.new-offsets.ensures.items;
  within = omega arith;
  each = λ items spelled q lt. absurd (omega arith);
  there = λ items spelled le. block_whole c.args.bytes.now items (record { fits = spelled.fits; parts = spelled.parts });
}

pub loop-preserved : goal.loop-preserved
loop-preserved c =
    let was = c.loop.offsets.items in
    let offset : ℕ = length c.args.bytes.now - length c.loop.rest.now in
    let pushed : c.push.new.self.items ≡ was ++ offset ∷ [] = c.in_ok-push.ensures.items in
    record {
      count = ap length pushed ∙ (length_push was offset ∙ ap (λ k. k + 1) c.loop.invariant.count);
      within = omega (arith, c.loop.invariant.within, c.behind-rest.ensures.within);
      each = λ items spelled q lt.
          let block : IsBlock c.args.bytes.now items = record { fits = spelled.fits; parts = spelled.parts } in
          let fits : 16 * c.loop.counter ≤ length items = omega (arith, c.loop-test.true, spelled.count) in
          elim (cases_lt q c.loop.counter) [
            | inl less ↦ ap (λ xs. get_or xs q 0) pushed ∙ (get_or_append_left was (offset ∷ []) 0 q (omega (arith, c.loop.invariant.count)) ∙ c.loop.invariant.each items spelled q less)
            | inr le ↦
                let at : q ≡ c.loop.counter = omega arith in
                rw at (ap (λ xs. get_or xs c.loop.counter 0) pushed ∙ (get_or_push was offset 0 c.loop.counter c.loop.invariant.count ∙ stretch_offset items c.loop.counter c.args.bytes.now c.loop.rest.now block fits (c.loop.invariant.there items spelled fits)))
          ];
      there = λ items spelled le. next_stretch items c.loop.counter c.loop.rest.now c.behind-rest.result.now (c.loop.invariant.there items spelled (omega arith)) le c.behind-rest.ensures.there;
    }
