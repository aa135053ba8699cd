-- The superblock of a job lies within the bounds of the store, as the next one does.
use Rattle.std.proofs.Common.{◌≡◌, ◌≤◌, ◌<◌, ◌+◌, ℕ, Bool, true, false, cond, List, [], ◌∷◌, ◌++◌, arith}
use Rattle.std.specs.Prelude.{◌==◌, not}
use Rattle.std.specs.List.{AllByRecursion, list_any, filter}
use Rattle.kt_records.specs.declared.entry.Entry.{Entry}
use Rattle.kt_rowfiles.specs.Files.{DiskRowset}
use Rattle.kt_super.specs.declared.meta.MetaRowset.{MetaRowset}
use Rattle.kt_pick.specs.declared.rules.Want.{Want}
use Rattle.kt_pick.specs.declared.rules.Want.TheVariants as want
use Rattle.kt_diskrowset.specs.declared.data.RowSetData.{RowSetData}
use Rattle.kt_diskrowset.specs.Rowset.{HeldFiles}
use Rattle.kt_files.specs.Content.{rowsets_in}
use Rattle.kt_files.specs.Named.{AreNamed}
use Rattle.kt_outputs.specs.InPlace.{in_place}
use Rattle.kt_outputs.specs.Outputs.{meta_in}
use Rattle.kt_storeside.specs.Sides.{Most, IsWithin}
use Rattle.kt_stores.specs.Takes.{Takes, mems, rowsets}
use Rattle.kt_engine.specs.Engines.{EngineView}
use Rattle.kt_engine.specs.DeltaJobs.{delta_meta}
use Rattle.kt_engine.specs.JobMeta.{metas_left, last_by}
use Rattle.kt_engine.specs.Jobs.{JobView, takes_by, takes_of}
use Rattle.kt_engine.specs.JobSteps.{TakesBy, TakesInputs, outputs_of}
use Rattle.kt_engine.specs.Near.{AreNear, LeavesRoom, first_number, most_deltas}
use Rattle.kt_engine.specs.Stored.{next_super, job_meta}

-- no rowset has files that hold a later DeltaMemStore
abbrev pub AreLow : ℕ → List MetaRowset → Type 0
AreLow most metas = AllByRecursion (λ (r : MetaRowset). r.last_dms ≤ most) metas

low_both : (most : ℕ) (xs ys : List MetaRowset) → AreLow most xs → AreLow most ys → AreLow most (xs ++ ys)
low_both most [] ys own behind = behind
low_both most (x ∷ xs) ys own behind = (own.0, low_both most xs ys own.1 behind)

low_passing : (most : ℕ) (p : MetaRowset → Bool) (xs : List MetaRowset) → AreLow most xs → AreLow most (filter p xs)
low_passing most p [] all = tt
low_passing most p (x ∷ xs) all = elim (p x) as (λ b. AreLow most (cond b (x ∷ filter p xs) (filter p xs))) [
  | true ↦ (all.0, low_passing most p xs all.1)
  | false ↦ low_passing most p xs all.1
]

low_left : (most : ℕ) (t : Takes) (metas : List MetaRowset) → AreLow most metas → AreLow most (metas_left t metas)
low_left most (mems last) metas all = all
low_left most (rowsets taken) metas all = low_passing most (λ (m : MetaRowset). not (list_any (λ (s : ℕ). s == m.rowset) taken)) metas all

low_placed : (most : ℕ) (m : MetaRowset) (xs : List MetaRowset) → m.last_dms ≤ most → AreLow most xs → AreLow most (in_place m xs)
low_placed most m [] own all = tt
low_placed most m (x ∷ xs) own all = (
  elim (x.rowset == m.rowset) as (λ b. (cond b m x).last_dms ≤ most) [ true ↦ own | false ↦ all.0 ],
  low_placed most m xs own all.1,
)

-- outputs have none yet
low_outputs : (most : ℕ) (metas : List MetaRowset) (held : List HeldFiles) → AreNamed metas held → AllByRecursion (λ (d : DiskRowset). d.last_dms ≡ 0) (rowsets_in metas held) → AreLow most metas
low_outputs most [] held named first = tt
low_outputs most (m ∷ metas) [] named first = absurd named
low_outputs most (m ∷ metas) (h ∷ held) named first = ((let none = first.0 in omega (arith, none)), low_outputs most metas held named.1 first.1)

-- a job has frozen no later MemRowSet than the one that takes inserts
took_low : {L D C : Type 0} (v : EngineView L D C) (job : JobView) (w : Want) → TakesBy v job w → job.last_mem ≤ first_number v.tablet.names
took_low v job want.Flush takes = (let low = takes.first in omega (arith, low))
took_low v job (want.Compact taken) takes = takes.1.first
took_low v job (want.FlushDeltas r) takes = absurd takes
took_low v job (want.Minor r) takes = absurd takes
took_low v job (want.Major r) takes = absurd takes

last_low : (taken : List ℕ) (last was most : ℕ) → last ≤ most → was ≤ most → last_by (takes_by taken last) was ≤ most
last_low [] last was most one two = one
last_low (r ∷ taken) last was most one two = two

-- that of a job that merges
pub job_within : {L D C : Type 0} (v : EngineView L D C) (job : JobView) (run : List Entry) (most : Most) → LeavesRoom v.found v.first_rowset most → AreNear v.found v.tablet.names v.first_rowset v.store.next_rowset v.upkeep.begun run
    → TakesInputs v job → AreNamed job.metas job.held → AllByRecursion (λ (d : DiskRowset). d.last_dms ≡ 0) (outputs_of job) → IsWithin most (next_super v) → IsWithin most (job_meta v job)
job_within v job run most room near takes named first within =
    let low = took_low v job job.want takes.takes in
    let frozen = near.mems in
    let jobs = near.jobs in
    let most_mem = room.mems in
    record {
      number = within.number;
      last_mem = last_low job.taken job.last_mem v.store.meta.last_mem most.last_mem (omega (arith, low, frozen, jobs, most_mem)) within.last_mem;
      last_dms = low_both most.last_dms (metas_left (takes_of job) v.store.meta.rowsets) job.metas (low_left most.last_dms (takes_of job) v.store.meta.rowsets within.last_dms) (low_outputs most.last_dms job.metas job.held named first);
    }

-- and that of one on the files of a disk rowset
pub deltas_within : {L D C : Type 0} (v : EngineView L D C) (dms : ℕ) (d : RowSetData) (most : Most) → LeavesRoom v.found v.first_rowset most → dms < most_deltas v.first_rowset → IsWithin most (next_super v) → IsWithin most (delta_meta v dms d)
deltas_within v dms d most room low within =
    let most_dms = room.deltas in
    record {
      number = within.number;
      last_mem = within.last_mem;
      last_dms = low_placed most.last_dms (meta_in dms d) v.store.meta.rowsets (omega (arith, low, most_dms)) within.last_dms;
    }
