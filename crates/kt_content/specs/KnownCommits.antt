-- A COMMIT among the records is known of each of its keys.
use Rattle.std.specs.Prelude.{◌≡◌, ◌<◌, ◌⊎◌, ℕ, Bool, List, [], ◌∷◌, ◌++◌, Some}
use Rattle.kt_history.specs.declared.operation.RowOp.{RowOp}
use Rattle.kt_history.specs.declared.target.Target.{Target}
use Rattle.kt_history.specs.Rows.{Row}
use Rattle.kt_history.specs.History.{Past}
use Rattle.kt_records.specs.declared.entry.Entry.{Entry}
use Rattle.kt_records.specs.declared.entry.Entry.TheVariants.{Replicate, Commit}
use Rattle.kt_records.specs.declared.entry.CommitRow.{CommitRow}
use Rattle.kt_history.specs.Stores.{Hist}
use Rattle.kt_journal.specs.Log.{IsLog}
use Rattle.kt_loglaws.specs.Replay.{commit_of}
use Rattle.kt_loglaws.specs.Fronts.{ops_of}
use Rattle.kt_content.specs.Rules.{Rules}
use Rattle.kt_content.specs.Places.{Super, Place, Held}
use Rattle.kt_content.specs.KeyOps.{KeyOp, seen}
use Rattle.kt_content.specs.MoreOps.{told}
use Rattle.kt_content.specs.InMemory.{Stores}
use Rattle.kt_content.specs.Lending.{Known, GoesOn, MayBeLent, NotEarly}

-- an operation with these names stands in what is known
pub record IsKnown (known : List KeyOp) (ts : ℕ) (op : RowOp) (targets : List Target) : Type 0 where
  pub front : List KeyOp
  pub behind : List KeyOp
  pub is : known ≡ front ++ told ts op targets ∷ behind

-- the row of an operation in its COMMIT
abbrev pub IsRowOf : RowOp → List Target → List RowOp → List CommitRow → Type 0
IsRowOf op targets [] rows = ⊥
IsRowOf op targets (o ∷ ops) [] = ⊥
IsRowOf op targets (o ∷ ops) (row ∷ rows) = ((op ≡ o) × (targets ≡ row.targets)) ⊎ IsRowOf op targets ops rows

-- so does each of a write whose COMMIT is among the records
abbrev pub a_commit_is_known : Type 0
a_commit_is_known = (fill : Row) (keep : Place → Bool) (old new : Super) (a b : ℕ) (stores : Stores) (held : Held) (shows whole : Hist) (records : List Entry) (known : List KeyOp)
    (ts : ℕ) (ops : List RowOp) (rows : List CommitRow) (op : RowOp) (targets : List Target)
    → IsLog records → ops_of ts records ≡ Some ops → commit_of ts records ≡ Some rows → IsRowOf op targets ops rows
    → Known fill keep old new a b stores held shows whole (seen op.key records records) known → IsKnown known ts op targets

-- Where the names of a write's rows go on, and it lies above the marks of its keys, the outputs do not rest on its COMMIT, wherever that stands among the
-- records.
module _ (rules : Rules) (fill : Row) (keep : Place → Bool) (old new : Super) (stores : List ℕ → Stores) (records : List Entry) (past : Past) (m : MayBeLent rules fill keep old new stores records past) where
  abbrev pub RowsGoOn : ℕ → List RowOp → List CommitRow → Type 0
  RowsGoOn ts [] [] = Unit {0}
  RowsGoOn ts [] (row ∷ rows) = ⊥
  RowsGoOn ts (op ∷ ops) [] = ⊥
  RowsGoOn ts (op ∷ ops) (row ∷ rows) = ((m.keys op.key).a < ts) × ((m.keys op.key).b < ts) × GoesOn keep old new (stores op.key) ((m.keys op.key).shows) ts row.targets × RowsGoOn ts ops rows

  -- Early's test: of each COMMIT that is not durable the names go on
  abbrev pub RunGoesOn : ℕ → List Entry → List Entry → Type 0
  RunGoesOn low log [] = Unit {0}
  RunGoesOn low log (Replicate ts ops ∷ run) = (low < ts) × RunGoesOn ts (log ++ Replicate ts ops ∷ []) run
  RunGoesOn low log (Commit ts rows ∷ run) = ((ops : List RowOp) × (ops_of ts log ≡ Some ops) × RowsGoOn ts ops rows) × RunGoesOn low (log ++ Commit ts rows ∷ []) run

abbrev pub a_run_that_goes_on_is_not_early : Type 0
a_run_that_goes_on_is_not_early = (rules : Rules) (fill : Row) (keep : Place → Bool) (old new : Super) (stores : List ℕ → Stores) (durable run : List Entry) (past : Past) (low : ℕ)
    → IsLog (durable ++ run) → (m : MayBeLent rules fill keep old new stores (durable ++ run) past)
    → RunGoesOn rules fill keep old new stores (durable ++ run) past m low durable run → NotEarly rules fill keep old new stores (durable ++ run) past m low durable run
