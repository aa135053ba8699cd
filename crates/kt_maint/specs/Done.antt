-- What a job that is done was handed out, and what it gave.
use Rattle.std.specs.Prelude.{◌≡◌, ◌≢◌, ◌++◌, ℕ, List, map, Option, Some, None}
use Rattle.std.specs.List.{AllByRecursion}
use Rattle.std.specs.FinMap.Entries.{find}
use Rattle.kt_history.specs.History.{Past}
use Rattle.kt_history.specs.Rows.{key_cmp}
use Rattle.kt_histlaws.specs.Jobs.{AreAlike}
use Rattle.kt_diskrowset.specs.declared.data.RowSetData.{RowSetData}
use Rattle.kt_diskrowset.specs.declared.inputs.Inputs.{Inputs}
use Rattle.kt_content.specs.Flushes.{AreFrom}
use Rattle.kt_diskrowset.specs.Data.{files_in, held_in, store_in}
use Rattle.kt_joblaws.specs.Late.{AllHaveLater, hists_now}
use Rattle.kt_merge.specs.Late.{AllTellChanges, AllTellLate, HasNoneAbove}
use Rattle.kt_merge.specs.Merge.{hists_of, hists_upto, hists_written, HaveEach, IsOfInput}
use Rattle.kt_merge.specs.Told.{told_by_all, AreOutputs}
use Rattle.kt_outputs.specs.Again.{AreAgain, AllAddLate}
use Rattle.kt_outputs.specs.Outputs.{meta_in, AreWritten}
use Rattle.kt_pick.specs.declared.rules.Want.{Want}
use Rattle.kt_pick.specs.declared.rules.Want.TheVariants as want
use Rattle.kt_tablet.specs.Views.{Opens}
use Rattle.kt_engine.specs.DeltaJobs.{HasShape, FilesStay}
use Rattle.kt_engine.specs.declared.again.MemsNow.{MemsNow}
use Rattle.kt_engine.specs.Jobs.{JobView, taken_by}
use Rattle.kt_engine.specs.Outside.{hists_read}
use Rattle.kt_engine.specs.Returning.{hists_in}
use Rattle.kt_engine.specs.Visits.{PartView, Root}

-- opening found this past, as each part of the engine tells
abbrev pub FoundBy : {L D C : Type 0} → Root L D C → Past → Type 0
FoundBy root first = Opens root.opening root.mark root.opened first

-- What merging makes of what a job was handed out: disk rowsets whose keys rise from one to the next, so that no key is in two of them. Where opening found a
-- past, each key has the one row that is written of it as of the mark, which forgets what lies at or below that, and from the mark on its history is the inputs'
pub record AreMerged (found : Past → Type 0) (job : JobView) (made : List RowSetData) : Type 0 where
  pub inputs : Inputs
  pub read : job.inputs ≡ Some inputs
  pub outputs : AreOutputs inputs.columns made
  pub keys : (q : List ℕ) → find key_cmp q (told_by_all made) ≢ None → IsOfInput q inputs
  pub rows : (first : Past) → found first → HaveEach (record { mark = job.mark; bound = job.bound }) inputs (told_by_all made)
  pub alike : (first : Past) → found first → (q : List ℕ) → AreAlike job.mark (hists_upto job.bound q inputs) (hists_written q made)

-- What came to the disk rowsets of a compaction while it wrote, as they were handed out when it came back. Where opening found a past they have behind what was read changes above its bound, and all of
-- these in memory. Each output has those of its own rows too, as REDO files more, and these were written
pub record HasPutLate (found : Past → Type 0) (bound : ℕ) (inputs : Inputs) (returned : Option (List RowSetData)) (out done : List RowSetData) : Type 0 where
  pub now : List RowSetData
  pub is : returned ≡ Some now
  pub later : (first : Past) → found first → (q : List ℕ) → AllHaveLater bound (hists_of q inputs) (hists_now q now)
  pub in_memory : (first : Past) → found first → AllByRecursion (HasNoneAbove bound) now
  pub late : List RowSetData
  pub tells : AllTellLate bound now out late
  pub adds : AllAddLate out late
  pub again : AreAgain late done

-- What the MemRowSets have that a flush took, as it was handed out when it came back. Where opening found a past, those that it took with it have behind what was read changes above its bound: each output has those of its own
-- rows too, as REDO files more, and these were written. What the others have is merged as what was read first was, and written behind
pub record HasPutSince (found : Past → Type 0) (job : JobView) (inputs : Inputs) (out done : List RowSetData) : Type 0 where
  pub mems : MemsNow
  pub is : job.again ≡ Some mems
  pub later : (first : Past) → found first → (q : List ℕ) → AllHaveLater job.bound (hists_read want.Flush inputs q) (hists_in q mems.now)
  pub late : List RowSetData
  pub tells : AllTellChanges job.bound mems.now out late
  pub adds : AllAddLate out late
  pub firsts : List RowSetData
  pub again : AreAgain late firsts
  pub made : List RowSetData
  pub merged : AreMerged found (record job { inputs = Some mems.since.inputs; bound = mems.since.bound; mark = mems.since.mark }) made
  pub number : ℕ
  pub more : List RowSetData
  pub written : AreWritten number made more
  pub both : done ≡ firsts ++ more

-- what a job that merges gives in the end, of what it wrote first: it has what came meanwhile
abbrev pub EndsWith : (Past → Type 0) → Want → JobView → Inputs → List RowSetData → List RowSetData → Type 0
EndsWith found want.Flush job inputs out done = HasPutSince found job inputs out done
EndsWith found (want.Compact taken) job inputs out done = HasPutLate found job.bound inputs job.returned out done
EndsWith found _ job inputs out done = ⊥

-- A flush or a compaction has taken what it is for. What it wrote first is what merging makes, under numbers that were given since it began, and it gives that with what came meanwhile
pub record GivesMerged (found : Past → Type 0) (job : JobView) : Type 0 where
  pub taken : job.taken ≡ taken_by job.want
  pub made : List RowSetData
  pub merged : AreMerged found job made
  pub first : ℕ
  pub out : List RowSetData
  pub written : AreWritten first made out
  pub done : List RowSetData
  pub ends : EndsWith found job.want job merged.inputs out done
  pub from : AreFrom job.first_rowset (map files_in done)
  pub metas : job.metas ≡ map (meta_in 0) done
  pub held : job.held ≡ map held_in done

-- A job on the files of one disk rowset has written it so that it tells what it told, in the shape of what it is for, with the files that this leaves
pub record GivesRewritten (job : JobView) : Type 0 where
  pub was : RowSetData
  pub read : job.read ≡ Some was
  pub now : RowSetData
  pub gave : job.output ≡ Some now
  pub same : store_in now ≡ store_in was
  pub shape : HasShape job.want now
  pub stay : FilesStay job.want (held_in was) (held_in now)

abbrev pub GivesFor : (Past → Type 0) → Want → JobView → Type 0
GivesFor found want.Flush job = GivesMerged found job
GivesFor found (want.Compact taken) job = GivesMerged found job
GivesFor found (want.FlushDeltas r) job = GivesRewritten job
GivesFor found (want.Minor r) job = GivesRewritten job
GivesFor found (want.Major r) job = GivesRewritten job

-- a job for this want has given what that asks for
pub record HasGiven (found : Past → Type 0) (w : Want) (job : JobView) : Type 0 where
  pub want_is : job.want ≡ w
  pub gives : GivesFor found w job

-- and it is the last one of the pass that was finished
pub record HasDoneJob {L D C : Type 0} (w : Want) (told : Option (PartView L D C)) : Type 0 where
  pub part : PartView L D C
  pub is : told ≡ Some part
  pub job : JobView
  pub done : part.pass.upkeep.done ≡ Some job
  pub given : HasGiven (FoundBy part.root) w job
