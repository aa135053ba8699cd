-- A job on the deltas of one rowset: a delta flush, a minor or a major compaction.
use Rattle.std.specs.Prelude.{◌≡◌, ◌⊎◌, ℕ, Bool, List, [], ◌∷◌}
use Rattle.kt_history.specs.Rows.{Row}
use Rattle.kt_history.specs.Stores.{Hist}
use Rattle.kt_histlaws.specs.Fitting.{AreSound}
use Rattle.kt_histlaws.specs.Jobs.{push_all}
use Rattle.kt_content.specs.Places.{Super, Place, Moves, at_first}
use Rattle.kt_content.specs.KeyOps.{KeyOp}
use Rattle.kt_content.specs.MoreOps.{PlacesDiffer}
use Rattle.kt_content.specs.Publishing.{gone}
use Rattle.kt_content.specs.InMemory.{Stores, group, hist_at}
use Rattle.kt_content.specs.StoreChanges.{steps_to}
use Rattle.kt_rowfiles.specs.Flushing.{cut, InOrderAt}
use Rattle.kt_content.specs.Lending.{AllFates, with_changes, GoesOver}

-- Of a key. One place is the job's, under both superblocks, and one store in memory stands for it. It has what the job read, which are the old files and
-- the changes of the DeltaMemStores that it froze, and behind that the changes since. The new files have the history that the job read, or, after a
-- major, that history cut at the job's mark.
pub record IsDeltaJob (fill : Row) (keep : Place → Bool) (old new : Super) (j : ℕ) (stores : Stores) (q : List ℕ) (xs : List KeyOp) (ms : List Moves) (p : Place) : Type 0 where
  pub moves : List Moves
  pub fates : AllFates fill keep old new j (with_changes q new xs moves) xs ms moves
  pub read : Hist
  pub live : Hist
  pub old_place : gone keep (at_first q old) ≡ (p, hist_at p (at_first q old)) ∷ []
  pub new_place : gone keep (at_first q new) ≡ (p, hist_at p (at_first q new)) ∷ []
  pub old_store : group old p stores ≡ live ∷ []
  pub new_store : group new p stores ≡ live ∷ []
  pub since : live ≡ push_all (steps_to p xs moves) read
  pub written : (hist_at p (at_first q new) ≡ read) ⊎ ((hist_at p (at_first q new) ≡ cut j read) × InOrderAt j read.steps)
  pub sound : AreSound j (live ∷ [])

abbrev pub a_delta_job_goes_over : Type 0
a_delta_job_goes_over = (fill : Row) (keep : Place → Bool) (old new : Super) (j : ℕ) (stores : Stores) (q : List ℕ) (xs : List KeyOp) (ms : List Moves) (p : Place)
    → PlacesDiffer (at_first q new) → IsDeltaJob fill keep old new j stores q xs ms p → GoesOver fill keep old new j stores q xs ms
