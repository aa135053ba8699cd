-- What a job writes of a history that passes.
use Rattle.std.proofs.Common.{ℕ, [], ◌∷◌, Some, None, Option, subst, cond, true, false}
use Rattle.std.specs.Prelude.{nat_lt}
use Rattle.kt_history.specs.declared.change.Change.{Change}
use Rattle.kt_history.specs.declared.change.Change.TheVariants.{Ins, Upd, Del}
use Rattle.kt_history.specs.Rows.{Row, apply, undo}
use Rattle.kt_history.specs.Stores.{Steps}
use Rattle.kt_rowfiles.specs.Flushing.{after_all, undone}
use Rattle.kt_content.specs.Rules.{Rules, AreRules, RowPasses, ChangePasses, StepsPass}
use Rattle.kt_content.specs.WrittenRows.{a_written_row_passes}

module _ (rules : Rules) (are : AreRules rules) where
  undo_passes : (c : Change) (row : Option Row) → ChangePasses rules c → RowPasses rules row → ChangePasses rules (undo c row)
  undo_passes (Ins r) row c p = tt
  undo_passes (Upd cells) (Some old) c p = are.part cells old p
  undo_passes (Upd cells) None c p = tt
  undo_passes Del (Some old) c p = p
  undo_passes Del None c p = tt

  apply_passes : (c : Change) (row : Option Row) → ChangePasses rules c → RowPasses rules row → RowPasses rules (apply c row)
  apply_passes (Ins r) None c p = c
  apply_passes (Ins r) (Some old) c p = p
  apply_passes (Upd cells) None c p = tt
  apply_passes (Upd cells) (Some old) c p = are.changed cells old c p
  apply_passes Del row c p = tt

  after_passes : (steps : Steps) (row : Option Row) → StepsPass rules steps → RowPasses rules row → RowPasses rules (after_all steps row)
  after_passes [] row s p = p
  after_passes (c ∷ steps) row s p = after_passes steps (apply c.1 row) s.1 (apply_passes c.1 row s.0 p)

  undone_pass : (j : ℕ) (steps : Steps) (row : Option Row) (made : Steps) → StepsPass rules steps → RowPasses rules row → StepsPass rules made → StepsPass rules (undone j steps row made)
  undone_pass j [] row made s p m = m
  undone_pass j (c ∷ steps) row made s p m = elim (nat_lt j c.0) as (λ b. StepsPass rules (undone j steps (apply c.1 row) (cond b ((c.0, undo c.1 row) ∷ made) made))) [
    | true ↦ undone_pass j steps (apply c.1 row) ((c.0, undo c.1 row) ∷ made) s.1 (apply_passes c.1 row s.0 p) (undo_passes c.1 row s.0 p, m)
    | false ↦ undone_pass j steps (apply c.1 row) made s.1 (apply_passes c.1 row s.0 p) m
  ]

pub written_passes : a_written_row_passes
written_passes rules j h base are first steps is =
    (subst (RowPasses rules) is (after_passes rules are h.steps h.first steps first), undone_pass rules are j h.steps h.first [] steps first tt)
