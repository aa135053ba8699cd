-- What a scan names: where it names no key column, the cells of the key do not matter.
use Rattle.std.proofs.Common.{◌≡◌, ℕ, ◌+◌, ◌<◌, ◌≤◌, ◌==◌, length, get_or, drop, List, [], ◌∷◌, ◌++◌, ◌||◌, ◌&&◌, Bool, true, false, cond, Option, Some, None, refl, sym, ap, ◌∙◌, map}
use Rattle.std.specs.Prelude.{unwrap_or}
use Rattle.std.specs.List.{list_any}
use Rattle.std.specs.Ordering.{nat_cmp, eq_by_cmp}
use Rattle.std.specs.FinMap.Entries.{find}
use Rattle.kt_base.specs.declared.cell.Cell.{Cell}
use Rattle.kt_base.specs.declared.cell.Cell.TheVariants.{Null}
use Rattle.kt_base.specs.Keys.{key_cells}
use Rattle.kt_schema.specs.declared.column.Column.{Column}
use Rattle.kt_schema.specs.Columns.{key_columns, key_kinds}
use Rattle.kt_history.specs.declared.scan.Scan.{Scan}
use Rattle.kt_history.specs.declared.scan.Pred.{Pred}
use Rattle.kt_history.specs.Rows.{Row}
use Rattle.kt_history.specs.Replies.{cell_of, passes, kept, selected}
use Rattle.kt_scan.specs.Encoded.{keys_of, ids_with}
use Rattle.kt_scan.specs.Lines.{cut, line_of}
use Rattle.kt_scan.specs.Whole.{has_id, shows_key, reads_key}
use Rattle.kt_base.specs.declared.cell_ref.CellRef.{CellRef}
use Rattle.kt_base.specs.declared.cell_ref.CellRef.TheVariants as ref
use Rattle.kt_base.specs.Borrowed.{cell_in}
use Rattle.std.specs.Option.{option_map}
use Rattle.std.specs.Cmp.{unsigned_tied}
use Rattle.std.proofs.Math.ListN.{drop_of_length-le}
use Rattle.std.proofs.lemmas.List.{drop_more}
use Rattle.std.proofs.lemmas.Bool.{eqb-true}
use Rattle.kt_scan.proofs.WholeRows.{whole_is, none_under}

-- ---- the first of two lists that has a column tells of it

pub found_first : {X : Type 0} (id : ℕ) (first others : List (ℕ × X)) (x d : X) → find nat_cmp id first ≡ Some x → unwrap_or (find nat_cmp id (first ++ others)) d ≡ x
found_first id [] others x d h = absurd cc
found_first {X = X} id (c ∷ first) others x d h =
    elim (eq_by_cmp nat_cmp id c.0) as (λ b. cond b (Some c.1) (find nat_cmp id first) ≡ Some x → unwrap_or (cond b (Some c.1) (find nat_cmp id (first ++ others))) d ≡ x) [
      | true ↦ λ here. cc
      | false ↦ λ later. found_first id first others x d later
    ] h

pub found_later : {X : Type 0} (id : ℕ) (first others : List (ℕ × X)) (d : X) → find nat_cmp id first ≡ None → unwrap_or (find nat_cmp id (first ++ others)) d ≡ unwrap_or (find nat_cmp id others) d
found_later id [] others d h = refl
found_later {X = X} id (c ∷ first) others d h =
    elim (eq_by_cmp nat_cmp id c.0) as (λ b. cond b (Some c.1) (find nat_cmp id first) ≡ None → unwrap_or (cond b (Some c.1) (find nat_cmp id (first ++ others))) d ≡ unwrap_or (find nat_cmp id others) d) [
      | true ↦ λ here. absurd cc
      | false ↦ λ later. found_later id first others d later
    ] h

-- ---- a column among those of a key

untied : (a b : ℕ) → (a ≡ b → ⊥) → eq_by_cmp nat_cmp a b ≡ false
untied a b other = unsigned_tied a b ∙ by (a == b) refl
  where
    by : (v : Bool) → (a == b) ≡ v → (a == b) ≡ false
    by true e = absurd (other (eqb-true a b e))
    by false e = e

-- where the first of them is another one, it is found among those behind
pub found_behind : (id at : ℕ) (key : List CellRef) (rest behind : List Column) (c : Column) → at < length key → rest ≡ c ∷ behind → (c.id ≡ id → ⊥)
    → find nat_cmp id (ids_with rest (map cell_in (drop at key))) ≡ find nat_cmp id (ids_with behind (map cell_in (drop (at + 1) key)))
found_behind id at key rest behind c lt is other =
    ap (λ (cs : List Column). find nat_cmp id (ids_with cs (map cell_in (drop at key)))) is
    ∙ ap (λ (cells : List CellRef). find nat_cmp id (ids_with (c ∷ behind) (map cell_in cells))) (drop_more key at ref.Null lt)
    ∙ ap (λ b. cond b (Some (cell_in (get_or key at ref.Null))) (find nat_cmp id (ids_with behind (map cell_in (drop (at + 1) key))))) (untied id c.id (λ e. other (sym e)))

pub found_nowhere : (id at : ℕ) (key : List CellRef) (rest : List Column) → length key ≤ at → find nat_cmp id (ids_with rest (map cell_in (drop at key))) ≡ None
found_nowhere id at key rest past = ap (λ (cells : List CellRef). find nat_cmp id (ids_with rest (map cell_in cells))) (drop_of_length-le key past) ∙ ap (find nat_cmp id) (none_under rest)

-- a borrowed cell, or null, is read as the cell, or null
pub read_or_null : (cell : Option CellRef) → cell_in (unwrap_or cell ref.Null) ≡ unwrap_or (option_map cell_in cell) Null
read_or_null None = refl
read_or_null (Some cell) = refl

-- ---- columns that are no key

or_parts : (a b : Bool) → (a || b) ≡ false → (a ≡ false) × (b ≡ false)
or_parts true b h = absurd cc
or_parts false b h = (refl, h)

pub not_among : (columns : List Column) (cells : List Cell) (id : ℕ) → has_id columns id ≡ false → find nat_cmp id (ids_with columns cells) ≡ None
not_among [] cells id h = refl
not_among (c ∷ columns) [] id h = refl
not_among (c ∷ columns) (cell ∷ cells) id h =
    elim (eq_by_cmp nat_cmp id c.id) as (λ b. (b || has_id columns id) ≡ false → cond b (Some cell) (find nat_cmp id (ids_with columns cells)) ≡ None) [
      | true ↦ λ here. absurd cc
      | false ↦ λ later. not_among columns cells id later
    ] h

module _ (columns : List Column) (cells : List Cell) (others : Row) where
  cell_without : (id : ℕ) → has_id columns id ≡ false → cell_of (ids_with columns cells ++ others) id ≡ cell_of others id
  cell_without id h = found_later id (ids_with columns cells) others Null (not_among columns cells id h)

  pub kept_without : (preds : List Pred) → list_any (λ p. has_id columns p.column) preds ≡ false → kept preds (ids_with columns cells ++ others) ≡ kept preds others
  kept_without [] h = refl
  kept_without (p ∷ preds) h =
      let parts = or_parts (has_id columns p.column) _ h in
      ap (λ (c : Cell). passes p.test c && kept preds (ids_with columns cells ++ others)) (cell_without p.column parts.0) ∙ ap (λ b. passes p.test (cell_of others p.column) && b) (kept_without preds parts.1)

  cells_without : (ids : List ℕ) → list_any (has_id columns) ids ≡ false → map (cell_of (ids_with columns cells ++ others)) ids ≡ map (cell_of others) ids
  cells_without [] h = refl
  cells_without (id ∷ ids) h =
      let parts = or_parts (has_id columns id) _ h in
      ap (λ (c : Cell). c ∷ map (cell_of (ids_with columns cells ++ others)) ids) (cell_without id parts.0) ∙ ap (λ (l : List Cell). cell_of others id ∷ l) (cells_without ids parts.1)

  selected_without : (selection : Option (List ℕ)) → shows_key columns selection ≡ false → selected selection (ids_with columns cells ++ others) ≡ selected selection others
  selected_without None h = absurd cc
  selected_without (Some ids) h = cells_without ids h

  cut_without : (scan : Scan) → reads_key columns scan ≡ false → cut scan (ids_with columns cells ++ others) ≡ cut scan others
  cut_without scan h =
      let parts = or_parts (list_any (λ p. has_id columns p.column) scan.preds) _ h in
      ap (λ b. cond b (Some (selected scan.columns (ids_with columns cells ++ others))) None) (kept_without scan.preds parts.0)
      ∙ ap (λ (l : List Cell). cond (kept scan.preds others) (Some l) None) (selected_without scan.columns parts.1)

-- ---- the line of a key whose cells are read, and of one whose cells do not matter

module _ (columns : List Column) (scan : Scan) (key : List ℕ) (cells : List Cell) (others : Row) where
  pub cut_read : cells ≡ key_cells (key_kinds columns) key → cut scan (ids_with (key_columns columns) cells ++ others) ≡ line_of (keys_of columns) scan key (Some others)
  cut_read is = ap (cut scan) (whole_is columns cells key others is)

  pub cut_unread : reads_key (key_columns columns) scan ≡ false → cut scan (ids_with (key_columns columns) cells ++ others) ≡ line_of (keys_of columns) scan key (Some others)
  cut_unread none =
      let read : List Cell = key_cells (key_kinds columns) key in
      cut_without (key_columns columns) cells others scan none
      ∙ sym (cut_without (key_columns columns) read others scan none)
      ∙ ap (cut scan) (whole_is columns read key others refl)
