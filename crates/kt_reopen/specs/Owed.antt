-- The COMMITs that a log still owes: what becomes of each operation without one on the stores as they are opened.
use Rattle.std.specs.Prelude.{◌≡◌, ◌≢◌, ℕ, List, [], ◌∷◌, map, Option, Some, None, Result, Ok, Err}
use Rattle.kt_history.specs.declared.operation.RowOp.{RowOp}
use Rattle.kt_history.specs.declared.target.Target.{Target}
use Rattle.kt_history.specs.Rows.{Row}
use Rattle.kt_history.specs.Operations.{effect}
use Rattle.kt_records.specs.declared.entry.CommitRow.{CommitRow}
use Rattle.kt_records.specs.declared.entry.Entry.{Entry}
use Rattle.kt_records.specs.declared.entry.Entry.TheVariants.{Replicate, Commit}
use Rattle.kt_loglaws.specs.Replay.{commit_of}
use Rattle.kt_loglaws.specs.Fronts.{ops_of}
use Rattle.kt_content.specs.Places.{Super, Place, Standing, standing, live_in, places_of}
use Rattle.kt_content.specs.KeyOps.{to_live}
use Rattle.kt_content.specs.Opening.{Placed, held_of, moved_stores, write_opened}

-- the row of the store that has it live
abbrev pub row_found : Option (Place × Row) → Option Row
row_found None = None
row_found (Some at) = Some at.1

-- what a COMMIT tells of an operation on these rows, and under which name it tells each store
abbrev pub row_told : Row → (Place → Target) → Standing → RowOp → CommitRow
row_told fill name rows op = record { outcome = (effect fill op.kind op.cells (row_found (live_in rows))).1; targets = map name (places_of (to_live fill op (live_in rows))) }

-- and of the operations of a write, each of which goes to the store that has its key live
abbrev pub rows_told : Row → (Place → Target) → ℕ → List RowOp → Placed → List CommitRow
rows_told fill name ts [] stores = []
rows_told fill name ts (op ∷ ops) stores =
    row_told fill name (standing ts (held_of op.key stores)) op ∷ rows_told fill name ts ops (moved_stores ts op.key (to_live fill op (live_in (standing ts (held_of op.key stores)))) stores)

-- it is owed where there is none
abbrev pub unless_told : Option (List CommitRow) → Entry → List Entry → List Entry
unless_told None commit rest = commit ∷ rest
unless_told (Some rows) commit rest = rest

abbrev pub then_owed : (Placed → List Entry) → Result Placed ℕ → List Entry
then_owed more (Ok stores) = more stores
then_owed more (Err ts) = []

-- the COMMIT of each write among these records that has none in the log that holds all
abbrev pub owed : Row → Super → (Place → Target) → List Entry → Placed → List Entry → List Entry
owed fill super name all stores [] = []
owed fill super name all stores (Commit ts rows ∷ records) = owed fill super name all stores records
owed fill super name all stores (Replicate ts ops ∷ records) =
    unless_told (commit_of ts all) (Commit ts (rows_told fill name ts ops stores)) (then_owed (λ stores. owed fill super name all stores records) (write_opened fill super ts ops (commit_of ts all) stores))

-- each write of these records has its COMMIT
abbrev pub AllHaveCommits : List Entry → Type 0
AllHaveCommits records = (ts : ℕ) (ops : List RowOp) → ops_of ts records ≡ Some ops → commit_of ts records ≢ None
