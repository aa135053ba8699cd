-- Changes of one row, and the rows of a table under their encoded keys.
use Rattle.std.specs.Prelude.{◌≡◌, Bool, true, List, [], ◌∷◌, ℕ, Option, Some, None, not, is_some, IfSome, IsTrue}
use Rattle.std.specs.Ordering.{nat_cmp, eq_by_cmp}
use Rattle.std.specs.declared.cmp.Ordering.{Ordering}
use Rattle.std.specs.Cmp.Lexicographic.{slice_cmp}
use Rattle.std.specs.FinMap.Entries.{find, put, where_key, is_sorted}
use Rattle.std.specs.List.{list_all, list_any}
use Rattle.kt_base.specs.declared.cell.Cell.{Cell}
use Rattle.kt_history.specs.declared.change.Change.{Change}
use Rattle.kt_history.specs.declared.change.Change.TheVariants.{Ins, Upd, Del}

-- a row: its cells that are no key, by rising column id
abbrev pub Row : Type 0
Row = List (ℕ × Cell)

-- the row with these cells, in place of its own where it has them
abbrev pub with_cells : Row → Row → Row
with_cells [] row = row
with_cells (cell ∷ cells) row = put nat_cmp cell.0 cell.1 (with_cells cells row)

-- the row's cells in these columns
abbrev pub cells_under : Row → Row → Row
cells_under columns row = where_key nat_cmp (λ id. is_some (find nat_cmp id columns)) row

-- the row after a change. A change that does not fit leaves it
abbrev pub apply : Change → Option Row → Option Row
apply (Ins row) None = Some row
apply (Ins row) (Some old) = Some old
apply (Upd cells) None = None
apply (Upd cells) (Some old) = Some (with_cells cells old)
apply Del row = None

-- whether the change fits the row
abbrev pub fits : Change → Option Row → Bool
fits (Ins row) old = not (is_some old)
fits (Upd cells) old = is_some old
fits Del old = is_some old

-- what leads back over the change to the row before it
abbrev pub undo : Change → Option Row → Change
undo (Ins row) old = Del
undo (Upd cells) (Some old) = Upd (cells_under cells old)
undo (Upd cells) None = Del
undo Del (Some old) = Ins old
undo Del None = Del

-- each column once, by rising id
abbrev pub IsRow : Option Row → Type 0
IsRow old = IfSome old (λ row. IsTrue (is_sorted nat_cmp row))

-- an update is of columns that the row has
abbrev pub has_columns : Change → Option Row → Bool
has_columns (Upd cells) (Some old) = list_all (λ c. is_some (find nat_cmp c.0 old)) cells
has_columns _ old = true

-- what a change does to a row, its undo takes back
abbrev pub undo_leads_back : Type 0
undo_leads_back = (c : Change) (old : Option Row) → IsRow old → IsTrue (fits c old) → IsTrue (has_columns c old) → apply (undo c old) (apply c old) ≡ old

-- encoded keys compare by bytes
abbrev pub key_cmp : List ℕ → List ℕ → Ordering
key_cmp = slice_cmp nat_cmp

-- the rows of a table, by rising key
abbrev pub Rows : Type 0
Rows = List (List ℕ × Row)

-- the key has this row, or none
abbrev pub set_row : List ℕ → Option Row → Rows → Rows
set_row key None rows = where_key key_cmp (λ other. not (eq_by_cmp key_cmp key other)) rows
set_row key (Some row) rows = put key_cmp key row rows

-- changes of different keys
abbrev pub Changes : Type 0
Changes = List (List ℕ × Change)

-- no key twice
abbrev pub AreApart : Changes → Type 0
AreApart [] = Unit {0}
AreApart (c ∷ changes) = (find key_cmp c.0 changes ≡ None) × AreApart changes

-- the rows after these changes
abbrev pub changed : Changes → Rows → Rows
changed [] rows = rows
changed (c ∷ changes) rows = changed changes (set_row c.0 (apply c.1 (find key_cmp c.0 rows)) rows)

-- whether a column is one of these
abbrev pub is_among : List ℕ → ℕ → Bool
is_among ids id = list_any (eq_by_cmp nat_cmp id) ids

-- two rows have the same cells in these columns
abbrev pub AgreeIn : List ℕ → Row → Row → Type 0
AgreeIn ids a b = (id : ℕ) → is_among ids id ≡ true → find nat_cmp id a ≡ find nat_cmp id b

-- both rows are there and have so, or neither is
abbrev pub AgreeOn : List ℕ → Option Row → Option Row → Type 0
AgreeOn ids None None = Unit {0}
AgreeOn ids None (Some b) = ⊥
AgreeOn ids (Some a) None = ⊥
AgreeOn ids (Some a) (Some b) = AgreeIn ids a b
