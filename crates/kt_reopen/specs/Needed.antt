-- Which operations of a log are replayed under a superblock, and what they need of the pool.
use Rattle.std.specs.Prelude.{ℕ, slice_get, ◌+◌, ◌≤◌, length, Bool, true, false, List, [], ◌∷◌, Option, Some, None, if◌then◌else◌}
use Rattle.std.specs.List.{AllByRecursion}
use Rattle.std.specs.Option.{option_map}
use Rattle.kt_history.specs.declared.operation.RowOp.{RowOp}
use Rattle.kt_history.specs.declared.target.Target.{Target}
use Rattle.kt_history.specs.Operations.{need}
use Rattle.kt_records.specs.declared.entry.CommitRow.{CommitRow}
use Rattle.kt_records.specs.declared.entry.Entry.{Entry}
use Rattle.kt_records.specs.declared.entry.Entry.TheVariants.{Replicate, Commit}
use Rattle.kt_loglaws.specs.Replay.{commit_of}
use Rattle.kt_content.specs.Places.{Super, Place, needed_in}
use Rattle.kt_content.specs.Opening.{names_at, rows_behind}

abbrev pub is_any : List Place → Bool
is_any [] = false
is_any (p ∷ places) = true

-- an operation is replayed where a store still needs it, or where no COMMIT tells
abbrev pub is_replayed : Super → Option (List Target) → Bool
is_replayed super None = true
is_replayed super (Some targets) = is_any (needed_in super targets)

-- the cells of the pool for an operation that is replayed
abbrev pub need_if : Bool → RowOp → ℕ
need_if true op = need (op ∷ [])
need_if false op = 0

-- what the COMMIT of a write tells of operation number `at`
abbrev pub told_of : ℕ → Option (List CommitRow) → Option (List Target)
told_of at None = None
told_of at (Some rows) = option_map (λ (row : CommitRow). row.targets) (slice_get rows at)

-- those of a write, of which the rows of its COMMIT tell
abbrev pub replayed : Super → List RowOp → Option (List CommitRow) → List RowOp
replayed super [] told = []
replayed super (op ∷ ops) told = if is_replayed super (names_at told) then op ∷ replayed super ops (rows_behind told) else replayed super ops (rows_behind told)

-- what the replayed operations of these records need, in the log that holds all
abbrev pub needs_of : Super → List Entry → List Entry → ℕ
needs_of super all [] = 0
needs_of super all (Replicate ts ops ∷ records) = need (replayed super ops (commit_of ts all)) + needs_of super all records
needs_of super all (Commit ts rows ∷ records) = needs_of super all records

-- a COMMIT's rows, if it is there, each name two stores at most
abbrev pub AreFew : Option (List CommitRow) → Type 0
AreFew None = Unit {0}
AreFew (Some rows) = AllByRecursion (λ (row : CommitRow). length row.targets ≤ 2) rows
