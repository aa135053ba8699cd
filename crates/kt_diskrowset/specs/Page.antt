-- A page: the rows of a disk rowset at a time, for some keys in turn, cut to some columns.
use Rattle.std.specs.Prelude.{◌≡◌, ◌≤◌, ℕ, true, false, List, [], ◌∷◌, ◌++◌, length, map, Option}
use Rattle.std.specs.List.{filter, filter_map}
use Rattle.std.specs.Option.{option_map}
use Rattle.kt_baseset.specs.Asked.{cells_asked}
use Rattle.kt_history.specs.Rows.{Row, Rows}
use Rattle.kt_history.specs.Stores.{hist_in, row_of}
use Rattle.kt_history.specs.Views.{is_above}
use Rattle.kt_diskrowset.specs.declared.data.RowSetData.{RowSetData}
use Rattle.kt_diskrowset.specs.declared.page.Page.{Page}
use Rattle.kt_diskrowset.specs.Data.{store_in}

-- the row that a disk rowset tells of a key at a time
abbrev pub told_at : ℕ → RowSetData → List ℕ → Option Row
told_at t d key = row_of t (hist_in key (store_in d))

-- the same, as what is told of each key at each time
abbrev pub row_told : RowSetData → List ℕ → ℕ → Option Row
row_told d key t = told_at t d key

-- those of the keys that have a row, with it
abbrev pub rows_under : (List ℕ → Option Row) → List (List ℕ) → Rows
rows_under row keys = filter_map (λ key. option_map (λ r. (key, r)) (row key)) keys

-- the page has these rows, cut to these columns, each under its key
pub record Shows (columns : Row) (told : Rows) (page : Page) : Type 0 where
  pub keys : page.keys ≡ map (λ (r : List ℕ × Row). r.0) told
  pub rows : page.rows ≡ map (λ (r : List ℕ × Row). cells_asked columns r.1) told

-- this key is the last of some
pub record IsLast (key : List ℕ) (keys : List (List ℕ)) : Type 0 where
  pub before : List (List ℕ)
  pub are : keys ≡ before ++ key ∷ []

-- Of the keys above one, the page has the rows of the first so many, and tells whether keys are left. Then it names the last key
-- that it has gone over, which may have no row: from there the next page goes on
pub record IsPage (row : List ℕ → Option Row) (keys : List (List ℕ)) (after : Option (List ℕ)) (columns : Row) (page : Page) : Type 0 where
  pub front : List (List ℕ)
  pub rest : List (List ℕ)
  pub parts : filter (is_above after) keys ≡ front ++ rest
  pub shows : Shows columns (rows_under row front) page
  pub few : length front ≤ 1024
  pub ends : page.more ≡ false → rest ≡ []
  pub goes_on : page.more ≡ true → IsLast page.last front
