-- The rows of a table at one time, by rising key.
use Rattle.std.specs.Prelude.{◌≡◌, ℕ, List, Option}
use Rattle.std.specs.FinMap.Entries.{find}
use Rattle.kt_history.specs.Rows.{Row, Rows, key_cmp}
use Rattle.kt_views.specs.declared.table.Table.{Table}

-- its rows
abbrev pub rows_in : Table → Rows
rows_in table = table.rows.items

-- it has, of each key, the row that is told of it, and no others
abbrev pub HasRowsOf : (List ℕ → Option Row) → Table → Type 0
HasRowsOf told table = (key : List ℕ) → find key_cmp key (rows_in table) ≡ told key
