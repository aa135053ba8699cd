-- A log as one key sees it, and what its stores make of that.
use Rattle.std.specs.Prelude.{ℕ, List, [], ◌∷◌, ◌++◌, Option, Some, None, Result, Ok, Err, if◌then◌else◌}
use Rattle.std.specs.Ordering.{eq_by_cmp}
use Rattle.kt_history.specs.declared.change.Change.{Change}
use Rattle.kt_history.specs.declared.change.Change.TheVariants.{Ins, Upd, Del}
use Rattle.kt_history.specs.declared.operation.RowOp.{RowOp}
use Rattle.kt_history.specs.declared.target.Target.{Target}
use Rattle.kt_history.specs.Rows.{Row, key_cmp}
use Rattle.kt_history.specs.Operations.{effect}
use Rattle.kt_records.specs.declared.entry.Entry.{Entry}
use Rattle.kt_records.specs.declared.entry.Entry.TheVariants.{Replicate, Commit}
use Rattle.kt_records.specs.declared.entry.CommitRow.{CommitRow}
use Rattle.kt_loglaws.specs.Replay.{commit_of}
use Rattle.kt_content.specs.Places.{Super, Place, memory, disk, Held, Standing, standing, row_there, live_in, Moves, moved, needed_in}

-- an operation on the key, and the stores that its COMMIT names, where there is one
pub record KeyOp : Type 0 where
  pub ts : ℕ
  pub op : RowOp
  pub told : Option (List Target)

-- the operation of a write on this key, if there is one
abbrev pub op_on : List ℕ → ℕ → List RowOp → Option (List CommitRow) → List KeyOp
op_on q ts [] told = []
op_on q ts (op ∷ ops) None = if eq_by_cmp key_cmp q op.key then record { ts = ts; op = op; told = None } ∷ [] else op_on q ts ops None
op_on q ts (op ∷ ops) (Some []) = []
op_on q ts (op ∷ ops) (Some (row ∷ rows)) = if eq_by_cmp key_cmp q op.key then record { ts = ts; op = op; told = Some row.targets } ∷ [] else op_on q ts ops (Some rows)

-- what these records of a log say of the key, in the log that holds all
abbrev pub seen : List ℕ → List Entry → List Entry → List KeyOp
seen q all [] = []
seen q all (Replicate ts ops ∷ records) = op_on q ts ops (commit_of ts all) ++ seen q all records
seen q all (Commit ts rows ∷ records) = seen q all records

-- the change, where the store may take it: a disk rowset takes no insert
abbrev pub may_join : Place → Option Change → Option Change
may_join p None = None
may_join memory (Some c) = Some c
may_join (disk r) (Some (Ins row)) = None
may_join (disk r) (Some (Upd cells)) = Some (Upd cells)
may_join (disk r) (Some Del) = Some Del

abbrev pub with_move : Place → Option Change → Option Moves → Option Moves
with_move p None moves = None
with_move p (Some c) None = None
with_move p (Some c) (Some moves) = Some ((p, c) ∷ moves)

-- an operation on the row of each of these stores; none where it does not fit one of them
abbrev pub to_each : Row → RowOp → Standing → List Place → Option Moves
to_each fill op rows [] = Some []
to_each fill op rows (p ∷ places) = with_move p (may_join p (effect fill op.kind op.cells (row_there p rows)).0) (to_each fill op rows places)

abbrev pub to_place : Place → Option Change → Moves
to_place p None = []
to_place p (Some c) = (p, c) ∷ []

-- an operation on the store that has the key live, or else on the MemRowSet
abbrev pub to_live : Row → RowOp → Option (Place × Row) → Moves
to_live fill op None = to_place memory (effect fill op.kind op.cells None).0
to_live fill op (Some at) = to_place at.0 (effect fill op.kind op.cells (Some at.1)).0

-- what becomes of an operation on rows that stand so: as its COMMIT says, or else by the rows of all stores
abbrev pub decided : Row → Super → Standing → RowOp → Option (List Target) → Option Moves
decided fill super rows op (Some targets) = to_each fill op rows (needed_in super targets)
decided fill super rows op None = Some (to_live fill op (live_in rows))

abbrev pub if_fits : ℕ → (Moves → Result Held ℕ) → Option Moves → Result Held ℕ
if_fits ts more None = Err ts
if_fits ts more (Some moves) = more moves

-- the stores after these operations, or the timestamp of the first that does not fit
abbrev pub played : Row → Super → Held → List KeyOp → Result Held ℕ
played fill super held [] = Ok held
played fill super held (x ∷ xs) = if_fits x.ts (λ moves. played fill super (moved x.ts moves held) xs) (decided fill super (standing x.ts held) x.op x.told)
