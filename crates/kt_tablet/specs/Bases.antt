-- The insert on which the row of a key rests, and what later changes lay over it.
use Rattle.std.specs.Prelude.{◌≡◌, ℕ, ◌<◌, ◌≤◌, Bool, true, false, List, take, Option, Some, None, is_some, unwrap_or, slice_get}
use Rattle.std.specs.Option.{option_map}
use Rattle.kt_history.specs.declared.changes.KeyChange.{KeyChange}
use Rattle.kt_history.specs.declared.target.Kindly.{Kindly}
use Rattle.kt_history.specs.declared.target.Kindly.TheVariants.{Ins, Upd, Del}
use Rattle.kt_history.specs.Rows.{Row, with_cells}
use Rattle.kt_tablet.specs.Snaps.{row_in}

-- the row of a key at a time, told by the first so many changes
abbrev pub row_by : Row → List KeyChange → List ℕ → ℕ → ℕ → Option Row
row_by fill changes key t n = row_in fill (take n changes) key t

-- the row that the first changes up to an end tell rests on the change at this place: before it there was none, since then there is
-- one, and all changes since then are of the key
pub record IsBase (fill : Row) (changes : List KeyChange) (key : List ℕ) (t at end : ℕ) : Type 0 where
  pub before : row_by fill changes key t at ≡ None
  pub stays : (k : ℕ) → at < k → k ≤ end → is_some (row_by fill changes key t k) ≡ true
  pub own : (k : ℕ) → at ≤ k → k < end → option_map (λ c. c.key) (slice_get changes k) ≡ Some key
  pub inside : at < end

-- it rests on this change, or there is none
abbrev pub RestsOn : Row → List KeyChange → List ℕ → ℕ → Option ℕ → ℕ → Type 0
RestsOn fill changes key t None end = row_by fill changes key t end ≡ None
RestsOn fill changes key t (Some at) end = IsBase fill changes key t at end

-- the place of that change after a change of this kind at a place
abbrev pub base_by : Kindly → ℕ → Option ℕ → Option ℕ
base_by Ins at base = Some (unwrap_or base at)
base_by Upd at base = base
base_by Del at base = None

-- a row that stays, after a change that is done or is too late
abbrev pub updated : Bool → Kindly → Row → Row → Row
updated false kind cells row = row
updated true Ins cells row = row
updated true Upd cells row = with_cells cells row
updated true Del cells row = row
