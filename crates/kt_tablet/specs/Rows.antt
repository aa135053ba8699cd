-- What is recorded of an operation and of a flying write.
use Rattle.std.specs.Prelude.{◌≡◌, ◌-◌, ◌==◌, ◌≤◌, false, List, [], ◌∷◌, length, take}
use Rattle.std.specs.List.{list_any, Contains}
use Rattle.std.specs.Option.{option_to_list}
use Rattle.kt_history.specs.declared.change.Outcome.{Outcome}
use Rattle.kt_history.specs.declared.change.Outcome.TheVariants.{Done, Present, Absent, Ignored}
use Rattle.kt_history.specs.declared.operation.OpKind.{OpKind}
use Rattle.kt_history.specs.declared.row_store.Taken.{Taken}
use Rattle.kt_history.specs.declared.target.Target.{Target}
use Rattle.kt_history.specs.Operations.{outcome_of, outcomes_on}
use Rattle.kt_history.specs.Rows.{Row}
use Rattle.kt_history.specs.History.{Past, rows_at}
use Rattle.kt_records.specs.declared.entry.CommitRow.{CommitRow}
use Rattle.kt_tablet.specs.declared.tablet.FlyingWrite.{FlyingWrite}

-- what is recorded of an operation: its outcome, and the store where it is done
abbrev pub targets_of : Target → Outcome → List Target
targets_of target Done = target ∷ []
targets_of target Present = []
targets_of target Absent = []
targets_of target Ignored = []

-- what is recorded of an operation of this kind that stores have taken
abbrev pub recorded : OpKind → Taken → CommitRow
recorded kind taken = record { outcome = outcome_of kind taken.there; targets = option_to_list taken.target }

abbrev pub commit_row : Target → Outcome → CommitRow
commit_row target o = record { outcome = o; targets = targets_of target o }

-- what a flying write has noted of the rows applied so far: their outcomes on the rows just before it
pub record IsNoted (fill : Row) (past : Past) (w : FlyingWrite) : Type 0 where
  pub outcomes : w.outcomes.items ≡ take w.applied (outcomes_on fill (rows_at past (w.ts - 1)) w.ops)

abbrev pub AreNoted : Row → Past → List FlyingWrite → Type 0
AreNoted fill past [] = Unit {0}
AreNoted fill past (w ∷ flights) = IsNoted fill past w × AreNoted fill past flights

-- what is recorded of an operation that went to one of the stores of these names
abbrev pub IsRecorded : List Target → Outcome → CommitRow → Type 0
IsRecorded names o row = (name : Target) × Contains names name × (row ≡ commit_row name o)

-- and of each in turn
abbrev pub AreRecorded : List Target → List Outcome → List CommitRow → Type 0
AreRecorded names [] [] = Unit {0}
AreRecorded names [] (row ∷ rows) = ⊥
AreRecorded names (o ∷ outcomes) [] = ⊥
AreRecorded names (o ∷ outcomes) (row ∷ rows) = IsRecorded names o row × AreRecorded names outcomes rows

-- what a flying write has written of its rows for the log
pub record HasWritten (names : List Target) (w : FlyingWrite) : Type 0 where
  pub few : w.applied ≤ length w.ops
  pub rows : AreRecorded names w.outcomes.items w.rows.items

abbrev pub AreWritten : List Target → List FlyingWrite → Type 0
AreWritten names [] = Unit {0}
AreWritten names (w ∷ flights) = HasWritten names w × AreWritten names flights

-- each flying write is of a session of its own
abbrev pub OneOfEach : List FlyingWrite → Type 0
OneOfEach [] = Unit {0}
OneOfEach (w ∷ flights) = (list_any (λ f. f.who == w.who) flights ≡ false) × OneOfEach flights
