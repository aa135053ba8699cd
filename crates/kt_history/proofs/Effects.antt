-- The outcome of an operation, apart from its change.
use Rattle.std.proofs.Common.{◌≡◌, ℕ, ◌+◌, ◌<◌, Some, None, [], ◌∷◌, ◌++◌, length, drop, get_or, true, false, cond, refl, sym, ap, ◌∙◌, append_assoc}
use Rattle.std.proofs.lemmas.List.{drop_more}
use Rattle.std.specs.Prelude.{is_some, ◌||◌}
use Rattle.std.specs.List.{list_any}
use Rattle.std.specs.Ordering.{nat_cmp, is_eq}
use Rattle.std.specs.FinMap.Entries.{find}
use Rattle.kt_base.specs.declared.cell.Cell.{Cell}
use Rattle.kt_history.specs.Rows.{Row, cells_under}
use Rattle.kt_history.specs.declared.operation.OpKind.TheVariants.{Insert, Upsert, Update, Delete, InsertIgnore, UpdateIgnore, DeleteIgnore}
use Rattle.kt_history.specs.Operations.{outcome_is_of_effect}

pub outcomes : outcome_is_of_effect
outcomes fill Insert cells None = refl
outcomes fill Insert cells (Some row) = refl
outcomes fill Upsert cells None = refl
outcomes fill Upsert cells (Some row) = refl
outcomes fill Update cells None = refl
outcomes fill Update cells (Some row) = refl
outcomes fill Delete cells None = refl
outcomes fill Delete cells (Some row) = refl
outcomes fill InsertIgnore cells None = refl
outcomes fill InsertIgnore cells (Some row) = refl
outcomes fill UpdateIgnore cells None = refl
outcomes fill UpdateIgnore cells (Some row) = refl
outcomes fill DeleteIgnore cells None = refl
outcomes fill DeleteIgnore cells (Some row) = refl

-- whether a column is among the cells
pub found_by_any : (id : ℕ) (cells : Row) → list_any (λ c. is_eq (nat_cmp id c.0)) cells ≡ is_some (find nat_cmp id cells)
found_by_any id [] = refl
found_by_any id (c ∷ cells) =
    elim (is_eq (nat_cmp id c.0)) as (λ b. (b || list_any (λ d. is_eq (nat_cmp id d.0)) cells) ≡ is_some (cond b (Some c.1) (find nat_cmp id cells))) [
      | true ↦ refl
      | false ↦ found_by_any id cells
    ]

-- the cells of a row under some columns, one cell and the others
pub under-append : (columns before row : Row) → cells_under columns (before ++ row) ≡ cells_under columns before ++ cells_under columns row
under-append columns [] row = refl
under-append columns (c ∷ before) row =
    elim (is_some (find nat_cmp c.0 columns)) as (λ b. cond b (c ∷ cells_under columns (before ++ row)) (cells_under columns (before ++ row)) ≡ cond b (c ∷ cells_under columns before) (cells_under columns before) ++ cells_under columns row) [
      | true ↦ ap (λ rest. c ∷ rest) (under-append columns before row)
      | false ↦ under-append columns before row
    ]

pub under_more : (columns under next row : Row) (c : ℕ × Cell) (at : ℕ) → at < length row → c ≡ get_or row at c → under ++ cells_under columns (drop at row) ≡ cells_under columns row → next ≡ under ++ cells_under columns (c ∷ []) → next ++ cells_under columns (drop (at + 1) row) ≡ cells_under columns row
under_more columns under next row c at below is so step =
    ap (λ l. l ++ cells_under columns (drop (at + 1) row)) step
    ∙ append_assoc under (cells_under columns (c ∷ [])) (cells_under columns (drop (at + 1) row))
    ∙ ap (λ l. under ++ l) (sym (under-append columns (c ∷ []) (drop (at + 1) row)) ∙ ap (cells_under columns) (ap (λ x. x ∷ drop (at + 1) row) is ∙ sym (drop_more row at c below)))
    ∙ so
