-- Changes whose keys and cells stand as parts of one byte string.
use Rattle.std.specs.Prelude.{◌≡◌, ℕ, ◌+◌, ◌-◌, ◌<◌, Bool, ◌&&◌, List, [], length, map, get_or, take, drop, nat_le}
use Rattle.std.specs.List.{list_all}
use Rattle.kt_cells.specs.Reading.{cells_behind}
use Rattle.kt_history.specs.declared.change.Change.{Change}
use Rattle.kt_history.specs.declared.change.Change.TheVariants as change
use Rattle.kt_history.specs.declared.changes.KeyChange.{KeyChange}
use Rattle.kt_history.specs.declared.target.Kindly.{Kindly}
use Rattle.kt_history.specs.declared.target.Kindly.TheVariants.{Ins, Upd, Del}
use Rattle.kt_history.specs.declared.change_list.Part.{Part}
use Rattle.kt_history.specs.declared.change_list.Head.{Head}
use Rattle.kt_history.specs.declared.change_list.ChangeRef.{ChangeRef}
use Rattle.kt_cells.specs.Borrowed.{cells_in_ref}
use Rattle.kt_history.specs.Rows.{Row}

-- the change of a kind, with these cells
abbrev pub change_with : Kindly → Row → Change
change_with Ins cells = change.Ins cells
change_with Upd cells = change.Upd cells
change_with Del cells = change.Del

-- the bytes of a part
abbrev pub part_of : List ℕ → Part → List ℕ
part_of bytes p = take p.len (drop p.from bytes)

-- the change whose key and cells are these parts of the bytes
abbrev pub change_at : List ℕ → Head → KeyChange
change_at bytes h = record { key = part_of bytes h.key; ts = h.ts; change = change_with h.kind (cells_behind (part_of bytes h.cells)) }

abbrev pub changes_at : List ℕ → List Head → List KeyChange
changes_at bytes heads = map (change_at bytes) heads

-- a part ends among the first so many bytes
abbrev pub is_part : ℕ → Part → Bool
is_part n p = nat_le (p.from + p.len) n

-- so do both parts of a change
abbrev pub is_inside : ℕ → Head → Bool
is_inside n h = is_part n h.key && is_part n h.cells

abbrev pub are_inside : ℕ → List Head → Bool
are_inside n heads = list_all (is_inside n) heads

-- changes that stand one behind the other name one part for one key
abbrev pub AreTold : List ℕ → List Head → Type 0
AreTold bytes heads = (k : ℕ) (d : Head) → k + 1 < length heads → part_of bytes (get_or heads k d).key ≡ part_of bytes (get_or heads (k + 1) d).key → (get_or heads k d).key ≡ (get_or heads (k + 1) d).key

-- a part is the key of the last change, or other bytes than that
abbrev pub IsToldNext : List ℕ → List Head → Part → Type 0
IsToldNext bytes heads p = (d : Head) → 0 < length heads → part_of bytes (get_or heads (length heads - 1) d).key ≡ part_of bytes p → (get_or heads (length heads - 1) d).key ≡ p

-- the key of the last change, or nothing where there is none
abbrev pub last_key : List KeyChange → List ℕ
last_key changes = get_or (map (λ c. c.key) changes) (length changes - 1) []

-- a change that is read where it lies, and one of a list, without its key
abbrev pub step_in : ChangeRef → ℕ × Change
step_in c = (c.ts, change_with c.kind (cells_in_ref c.cells))

abbrev pub step_of : KeyChange → ℕ × Change
step_of c = (c.ts, c.change)
