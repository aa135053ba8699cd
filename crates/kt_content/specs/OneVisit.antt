-- A job while nothing flies and every record is durable: its outputs have all that was done to its inputs, and no other change comes.
use Rattle.std.specs.Prelude.{◌≡◌, ◌≤◌, ◌⊎◌, ℕ, Bool, true, false, List, [], ◌∷◌, ◌++◌, Option, Some, None, Ok}
use Rattle.std.specs.List.{filter}
use Rattle.kt_history.specs.declared.target.Target.{Target}
use Rattle.kt_history.specs.History.{Past}
use Rattle.kt_history.specs.Rows.{Row}
use Rattle.kt_records.specs.declared.entry.Entry.{Entry}
use Rattle.kt_records.specs.declared.entry.Entry.TheVariants.{Replicate, Commit}
use Rattle.kt_records.specs.declared.entry.CommitRow.{CommitRow}
use Rattle.kt_journal.specs.Log.{IsLog}
use Rattle.kt_loglaws.specs.Replay.{commit_of}
use Rattle.kt_histlaws.specs.Fitting.{AreSound}
use Rattle.kt_histlaws.specs.Jobs.{AreAlike}
use Rattle.kt_content.specs.Rules.{Rules, RowsetsPass}
use Rattle.kt_content.specs.Places.{Super, Place, Held, held_in, at_first, needs, needed_in}
use Rattle.kt_content.specs.KeyOps.{KeyOp, seen, played}
use Rattle.kt_content.specs.Content.{NumbersDiffer, AboveFiles}
use Rattle.kt_content.specs.InMemory.{Stores, group, groups, hist_at}
use Rattle.kt_content.specs.Publishing.{kept, gone, CarriedOver}
use Rattle.kt_content.specs.Recovering.{Lends}
use Rattle.kt_content.specs.RunEvents.{NumbersAreFresh}
use Rattle.kt_content.specs.Recoverable.{Resident, SuperStands}
use Rattle.kt_content.specs.Successors.{Succeeds, place_named}

-- an operation goes over: under the new superblock its names make needed those of its stores that the job leaves, and no other
abbrev pub HandsOver : (Place → Bool) → Super → Super → Option (List Target) → Type 0
HandsOver keep old new None = ⊥
HandsOver keep old new (Some targets) = needed_in new targets ≡ filter keep (needed_in old targets)

abbrev pub AllHandOver : (Place → Bool) → Super → Super → List KeyOp → Type 0
AllHandOver keep old new [] = Unit {0}
AllHandOver keep old new (x ∷ xs) = HandsOver keep old new x.told × AllHandOver keep old new xs

-- The stores that a job leaves end as before, and its outputs have what their files have
abbrev pub operations_that_go_on_carry_over : Type 0
operations_that_go_on_carry_over = (fill : Row) (keep : Place → Bool) (old new : Super) (held final outputs : Held) (xs : List KeyOp)
    → AllHandOver keep old new xs → kept keep outputs ≡ kept keep held → played fill old held xs ≡ Ok final → CarriedOver fill keep new outputs final xs

-- a name is of a store that the job leaves, or of one that the new superblock needs no more
abbrev pub IsLeftOrDone : (Place → Bool) → Super → Target → Type 0
IsLeftOrDone keep new t = (keep (place_named t) ≡ true) ⊎ ((keep (place_named t) ≡ false) × (needs new t ≡ None))

abbrev pub AllLeftOrDone : (Place → Bool) → Super → List Target → Type 0
AllLeftOrDone keep new [] = Unit {0}
AllLeftOrDone keep new (t ∷ targets) = IsLeftOrDone keep new t × AllLeftOrDone keep new targets

abbrev pub RowsAre : (Place → Bool) → Super → List CommitRow → Type 0
RowsAre keep new [] = Unit {0}
RowsAre keep new (row ∷ rows) = AllLeftOrDone keep new row.targets × RowsAre keep new rows

abbrev pub IfTold : (Place → Bool) → Super → Option (List CommitRow) → Type 0
IfTold keep new None = ⊥
IfTold keep new (Some rows) = RowsAre keep new rows

-- each write among these records has a COMMIT in the log that holds all, and so are its names
abbrev pub CommitsHandOver : (Place → Bool) → Super → List Entry → List Entry → Type 0
CommitsHandOver keep new all [] = Unit {0}
CommitsHandOver keep new all (Replicate ts ops ∷ records) = IfTold keep new (commit_of ts all) × CommitsHandOver keep new all records
CommitsHandOver keep new all (Commit ts rows ∷ records) = CommitsHandOver keep new all records

abbrev pub each_operation_goes_on : Type 0
each_operation_goes_on = (keep : Place → Bool) (old new : Super) (q : List ℕ) (all records : List Entry) → Succeeds keep old new
    → CommitsHandOver keep new all records → AllHandOver keep old new (seen q all records)

-- and each change of a DeltaMemStore lies above the REDO files, where it did so before
abbrev pub what_goes_on_stays_above_the_files : Type 0
what_goes_on_stays_above_the_files = (fill : Row) (keep : Place → Bool) (old new : Super) (q : List ℕ) (held next : Held) (xs : List KeyOp)
    → Succeeds keep old new → AllHandOver keep old new xs → AboveFiles fill q old held xs → AboveFiles fill q new next xs

-- A job's superblock, beside the one before it and the stores in memory, the outputs among these. Of each key the outputs' files are alike to the inputs in
-- memory from the job's mark on, and sound; and what stands in memory for a place that the job does not leave is alike to what the files have there.
pub record PublishesAtRest (rules : Rules) (keep : Place → Bool) (old new : Super) (records : List Entry) (stores : List ℕ → Stores) (j : ℕ) : Type 0 where
  pub numbers : NumbersDiffer new.rowsets
  pub files : RowsetsPass rules new.rowsets
  pub succeeds : Succeeds keep old new
  pub names : CommitsHandOver keep new records records
  pub alike : (q : List ℕ) → AreAlike j (groups old (stores q) (gone keep (at_first q old))) (held_in (gone keep (at_first q new)))
  pub sound : (q : List ℕ) → AreSound new.a (held_in (gone keep (at_first q new)))
  pub outs : (q : List ℕ) (p : Place) → keep p ≡ false → AreAlike new.a (group new p (stores q)) (hist_at p (at_first q new) ∷ [])
  pub others : (q : List ℕ) (p : Place) → keep p ≡ true → group new p (stores q) ≡ group old p (stores q)

-- Where nothing flies and no record waits, the new superblock holds what the old one holds, and the same stores mirror it.
abbrev pub a_superblock_published_at_rest_stands : Type 0
a_superblock_published_at_rest_stands = (rules : Rules) (fill : Row) (keep : Place → Bool) (old new : Super) (durable : List Entry) (high j : ℕ) (past : Past)
    (live : Resident)
    → IsLog (durable ++ []) → SuperStands rules fill old durable [] past live → live.named ≡ []
    → PublishesAtRest rules keep old new (durable ++ []) live.stores j → Lends old new durable high j past → high ≤ live.last
    → NumbersAreFresh new (durable ++ []) live.names live.numbers
    → SuperStands rules fill new durable [] past live
