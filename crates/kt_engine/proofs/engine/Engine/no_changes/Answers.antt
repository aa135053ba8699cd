use Rattle.std.proofs.Common.{◌≡◌, ◌<◌, ◌+◌, ◌++◌, ◌∷◌, [], ℕ, zero, suc, List, length, map, take, refl, sym, ap, ◌∙◌, arith}
use Rattle.kt_history.specs.declared.changes.KeyChange.{KeyChange}
use Rattle.kt_diskrowset.specs.Rowset.{HeldFiles}
use Rattle.kt_engine.proofs.engine.Engine.no_changes.Goals as goal

abbrev none : HeldFiles → List KeyChange
none h = []

none_next : (n : ℕ) (held : List HeldFiles) → n < length held → map none (take (suc n) held) ≡ map none (take n held) ++ [] ∷ []
none_next n [] lt = absurd (omega arith)
none_next zero (h ∷ held) lt = refl
none_next (suc n) (h ∷ held) lt = ap (λ (l : List (List KeyChange)). [] ∷ l) (none_next n held (omega arith))

pub outputs-preserved : goal.outputs-preserved
outputs-preserved g c = λ job at.
    let was = c.outputs.invariant job at in
    let k = c.outputs.counter in
    let more : k + 1 ≡ suc k = omega arith in (
      was.0,
      c.in_ok-push.ensures.items ∙ ap (λ (l : List KeyChange). c.outputs.lists.items ++ l ∷ []) c.new.ensures ∙ ap (λ (l : List (List KeyChange)). l ++ [] ∷ []) was.1
          ∙ sym (ap (λ (n : ℕ). map none (take n job.held)) more ∙ none_next k job.held (let lt = c.outputs-test.true in let e = was.0 in omega arith)),
    )
