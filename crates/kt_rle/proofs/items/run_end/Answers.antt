use Rattle.std.proofs.Common.{◌≡◌, ◌∙◌, sym, ap, arith, rules, get_or, inl, inr, ℕ, to_z, of_z}
use Rattle.std.specs.Prelude.{pos, FitsSigned}
use Rattle.std.specs.Int.{w64}
use Rattle.std.proofs.lemmas.Bool.{cases_lt}
use Rattle.std.proofs.lemmas.Int.{to_z-of_z}
use Rattle.std.proofs.lemmas.Option.{get_or_from_slice_get}
use Rattle.kt_rle.proofs.items.run_end.Goals as goal

pub returns-then-get-first-clause-stop : goal.returns-then-get-first-clause-stop
returns-then-get-first-clause-stop c = λ lt e.
    let here = get_or_from_slice_get c.args.numbers.now c.loop-i.i c.get.result (pos 0) c.get.ensures in
    let first = get_or_from_slice_get c.args.numbers.now c.args.from c.get-first.result (pos 0) c.get-first.ensures in
    c.if-get-first.true (ap (of_z w64) (sym here ∙ e ∙ first))

pub loop-i-preserved : goal.loop-i-preserved
loop-i-preserved c = λ k le lt.
    let here = get_or_from_slice_get c.args.numbers.now c.loop-i.i c.get.result (pos 0) c.get.ensures in
    let first = get_or_from_slice_get c.args.numbers.now c.args.from c.get-first.result (pos 0) c.get-first.ensures in
    let wide : FitsSigned w64 c.get.result = search rules in
    let first_wide : FitsSigned w64 c.get-first.result = search rules in
    let same : c.get.result ≡ c.get-first.result = sym (to_z-of_z w64 c.get.result wide) ∙ ap (to_z w64) c.if-get-first.false ∙ to_z-of_z w64 c.get-first.result first_wide in
    elim (cases_lt k c.loop-i.i) [
      | inl below ↦ c.loop-i.invariant k le below
      | inr ge ↦
          let at : k ≡ c.loop-i.i = omega arith in
          ap (λ (i : ℕ). get_or c.args.numbers.now i (pos 0)) at ∙ here ∙ same ∙ sym first
    ]
