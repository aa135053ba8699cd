-- What opening does: the operations of the log in their order, into stores.
use Rattle.std.specs.Prelude.{◌≡◌, ℕ, List, [], ◌∷◌, map, Option, Some, None, Result, Ok, Err, if◌then◌else◌}
use Rattle.std.specs.FinMap.Entries.{put}
use Rattle.kt_history.specs.declared.change.Change.{Change}
use Rattle.kt_history.specs.declared.operation.RowOp.{RowOp}
use Rattle.kt_history.specs.declared.target.Target.{Target}
use Rattle.kt_history.specs.Rows.{Row, key_cmp}
use Rattle.kt_history.specs.Operations.{DifferentKeys}
use Rattle.kt_records.specs.declared.entry.Entry.{Entry}
use Rattle.kt_records.specs.declared.entry.Entry.TheVariants.{Replicate, Commit}
use Rattle.kt_records.specs.declared.entry.CommitRow.{CommitRow}
use Rattle.kt_history.specs.Stores.{Store, hist_in, push}
use Rattle.kt_journal.specs.Log.{IsLog}
use Rattle.kt_loglaws.specs.Replay.{commit_of}
use Rattle.kt_content.specs.Places.{Super, Place, same_place, Held, Moves, standing}
use Rattle.kt_content.specs.KeyOps.{decided, seen, played}

-- stores with their places
abbrev pub Placed : Type 0
Placed = List (Place × Store)

-- what they have of a key
abbrev pub held_of : List ℕ → Placed → Held
held_of q stores = map (λ s. (s.0, hist_in q s.1)) stores

-- a change of a key joins one of them
abbrev pub joined_store : Place → ℕ → List ℕ → Change → Placed → Placed
joined_store p ts q c [] = []
joined_store p ts q c (s ∷ stores) = if same_place p s.0 then (s.0, put key_cmp q (push ts c (hist_in q s.1)) s.1) ∷ stores else s ∷ joined_store p ts q c stores

abbrev pub moved_stores : ℕ → List ℕ → Moves → Placed → Placed
moved_stores ts q [] stores = stores
moved_stores ts q (m ∷ moves) stores = moved_stores ts q moves (joined_store m.0 ts q m.1 stores)

abbrev pub if_it_fits : ℕ → (Moves → Result Placed ℕ) → Option Moves → Result Placed ℕ
if_it_fits ts more None = Err ts
if_it_fits ts more (Some moves) = more moves

-- the operations of a write, each with the names of its COMMIT
abbrev pub names_at : Option (List CommitRow) → Option (List Target)
names_at None = None
names_at (Some []) = None
names_at (Some (row ∷ rows)) = Some row.targets

abbrev pub rows_behind : Option (List CommitRow) → Option (List CommitRow)
rows_behind None = None
rows_behind (Some []) = None
rows_behind (Some (row ∷ rows)) = Some rows

abbrev pub write_opened : Row → Super → ℕ → List RowOp → Option (List CommitRow) → Placed → Result Placed ℕ
write_opened fill super ts [] told stores = Ok stores
write_opened fill super ts (op ∷ ops) told stores =
    if_it_fits ts (λ moves. write_opened fill super ts ops (rows_behind told) (moved_stores ts op.key moves stores)) (decided fill super (standing ts (held_of op.key stores)) op (names_at told))

abbrev pub then_opened : (Placed → Result Placed ℕ) → Result Placed ℕ → Result Placed ℕ
then_opened more (Ok stores) = more stores
then_opened more (Err ts) = Err ts

-- and the writes of a log
abbrev pub opened : Row → Super → List Entry → Placed → List Entry → Result Placed ℕ
opened fill super all stores [] = Ok stores
opened fill super all stores (Replicate ts ops ∷ records) = then_opened (λ stores. opened fill super all stores records) (write_opened fill super ts ops (commit_of ts all) stores)
opened fill super all stores (Commit ts rows ∷ records) = opened fill super all stores records

-- each write is on different keys, and its COMMIT has a row for each operation
abbrev pub HasRows : List RowOp → Option (List CommitRow) → Type 0
HasRows ops None = Unit {0}
HasRows [] (Some rows) = Unit {0}
HasRows (op ∷ ops) (Some []) = ⊥
HasRows (op ∷ ops) (Some (row ∷ rows)) = HasRows ops (Some rows)

abbrev pub AreWrites : List Entry → List Entry → Type 0
AreWrites all [] = Unit {0}
AreWrites all (Replicate ts ops ∷ records) = DifferentKeys ops × HasRows ops (commit_of ts all) × AreWrites all records
AreWrites all (Commit ts rows ∷ records) = AreWrites all records

-- opened stores have of each key what its content says
abbrev pub opened_stores_are_the_content : Type 0
opened_stores_are_the_content = (fill : Row) (super : Super) (all : List Entry) (stores final : Placed) (records : List Entry) → AreWrites all records
    → opened fill super all stores records ≡ Ok final
    → (q : List ℕ) → played fill super (held_of q stores) (seen q all records) ≡ Ok (held_of q final)

-- where the opening of a write stops, no key of it goes further: some key has no content, from this timestamp on
abbrev pub an_opening_that_stops_has_no_content : Type 0
an_opening_that_stops_has_no_content = (fill : Row) (super : Super) (all : List Entry) (stores : Placed) (records : List Entry) (ts : ℕ) → AreWrites all records
    → opened fill super all stores records ≡ Err ts
    → (q : List ℕ) × (played fill super (held_of q stores) (seen q all records) ≡ Err ts)

-- each log is of such writes
abbrev pub the_writes_of_a_log_have_rows : Type 0
the_writes_of_a_log_have_rows = (records : List Entry) → IsLog records → AreWrites records records
