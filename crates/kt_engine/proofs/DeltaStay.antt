-- What the superblock of a job leaves of the files of its rowset.
use Rattle.std.proofs.Common.{◌≡◌, ◌≤◌, ◌⊎◌, ℕ, Bool, true, false, List, [], map, length, Some, Result, Ok, Err, inl, inr, refl, sym, ap, ◌∙◌, subst, cond}
use Rattle.std.specs.Prelude.{IfOk, OnOk}
use Rattle.std.proofs.lemmas.List.{length-map, map-append}
use Rattle.kt_deltafile.specs.File.{FileView}
use Rattle.kt_bytes.specs.declared.memory.NoMemory.{NoMemory}
use Rattle.kt_disk.specs.Disk.{Files}
use Rattle.kt_rowfiles.specs.Fitting.{undos_fit}
use Rattle.kt_super.specs.declared.meta.FileRef.{FileRef}
use Rattle.kt_super.specs.declared.meta.Meta.{Meta}
use Rattle.kt_super.specs.declared.meta.MetaRowset.{MetaRowset}
use Rattle.kt_diskrowset.specs.declared.data.RowSetData.{RowSetData}
use Rattle.kt_diskrowset.specs.Data.{held_in}
use Rattle.kt_diskrowset.specs.Held.{files_told, IsReadOf}
use Rattle.kt_diskrowset.specs.Rowset.{HeldFiles}
use Rattle.kt_files.specs.Named.{base_named, delta_named, deltas_named, Names}
use Rattle.kt_outputs.specs.Outputs.{base_ref, delta_ref, meta_in}
use Rattle.kt_pick.specs.declared.rules.Want.{Want}
use Rattle.kt_pick.specs.declared.rules.Want.TheVariants as want
use Rattle.kt_storeside.specs.declared.side.Lent.{Lent}
use Rattle.kt_engine.specs.Engines.{EngineView}
use Rattle.kt_engine.specs.DeltaJobs.{delta_meta, StayBut, FilesStay, StayIn, EntryStays, StayNamed}
use Rattle.kt_engine.specs.Files.{AreFiled}
use Rattle.kt_engine.specs.Jobs.{JobView, UpkeepsView, job_of}
use Rattle.kt_engine.specs.JobSteps.{IsLent}
use Rattle.kt_engine.proofs.Filed.{own_names, entry_own}

-- what was read: its base and REDO files are those that were named, and its UNDO files too, or there are none
pub read_base : (h read : HeldFiles) → IsReadOf h read → read.base ≡ h.base
read_base h read (inl same) = ap (λ (x : HeldFiles). x.base) same
read_base h read (inr some) = ap (λ (x : HeldFiles). x.base) some ∙ by (undos_fit (files_told h))
  where
    by : (b : Bool) → (cond b h (record h { undos = [] })).base ≡ h.base
    by true = refl
    by false = refl

pub read_redos : (h read : HeldFiles) → IsReadOf h read → read.redos ≡ h.redos
read_redos h read (inl same) = ap (λ (x : HeldFiles). x.redos) same
read_redos h read (inr some) = ap (λ (x : HeldFiles). x.redos) some ∙ by (undos_fit (files_told h))
  where
    by : (b : Bool) → (cond b h (record h { undos = [] })).redos ≡ h.redos
    by true = refl
    by false = refl

pub read_undos : (h read : HeldFiles) → IsReadOf h read → (read.undos ≡ h.undos) ⊎ (read.undos ≡ [])
read_undos h read (inl same) = inl (ap (λ (x : HeldFiles). x.undos) same)
read_undos h read (inr some) = subst (λ (l : List (ℕ × ℕ × FileView)). (l ≡ h.undos) ⊎ (l ≡ [])) (sym (ap (λ (x : HeldFiles). x.undos) some)) (by (undos_fit (files_told h)))
  where
    by : (b : Bool) → ((cond b h (record h { undos = [] })).undos ≡ h.undos) ⊎ ((cond b h (record h { undos = [] })).undos ≡ [])
    by true = inl refl
    by false = inr refl

-- files that stay are named as they were
named_but : (old new : List (ℕ × ℕ × FileView)) → StayBut old new → StayBut (deltas_named old) (deltas_named new)
named_but old new s = record {
  more = deltas_named s.more;
  are = ap deltas_named s.are ∙ map-append delta_named old s.more;
  few = subst (λ (n : ℕ). n ≤ 1) (sym (length-map s.more delta_named)) s.few;
}

module _ (entry : MetaRowset) (held was : HeldFiles) (dms : ℕ) (d : RowSetData) (names : Names entry held) (read : IsReadOf held was) where
  base_stays : (held_in d).base ≡ was.base → base_ref d.base ≡ entry.base
  base_stays same = ap base_named (same ∙ read_base held was read) ∙ ap (λ (m : MetaRowset). m.base) names

  undo_is : deltas_named (held_in d).undos ≡ map delta_ref d.undo
  undo_is = ap (λ (m : MetaRowset). m.undo) (own_names dms d)

  redo_is : deltas_named (held_in d).redos ≡ map delta_ref d.redo
  redo_is = ap (λ (m : MetaRowset). m.redo) (own_names dms d)

  undo_was : deltas_named held.undos ≡ entry.undo
  undo_was = ap (λ (m : MetaRowset). m.undo) names

  undo_stays : (held_in d).undos ≡ was.undos → (map delta_ref d.undo ≡ entry.undo) ⊎ (map delta_ref d.undo ≡ [])
  undo_stays same = elim (read_undos held was read) [
    | inl all ↦ inl (sym undo_is ∙ ap deltas_named (same ∙ all) ∙ undo_was)
    | inr none ↦ inr (sym undo_is ∙ ap deltas_named (same ∙ none))
  ]

  redo_stays : StayBut was.redos (held_in d).redos → StayBut entry.redo (map delta_ref d.redo)
  redo_stays s =
      subst (λ (l : List FileRef). StayBut l (map delta_ref d.redo)) (ap deltas_named (read_redos held was read) ∙ ap (λ (m : MetaRowset). m.redo) names)
      (subst (StayBut (deltas_named was.redos)) redo_is (named_but was.redos (held_in d).redos s))

  undo_more : StayBut was.undos (held_in d).undos → StayBut entry.undo (map delta_ref d.undo) ⊎ (length (map delta_ref d.undo) ≤ 1)
  undo_more s =
      let own : StayBut (deltas_named was.undos) (map delta_ref d.undo) = subst (StayBut (deltas_named was.undos)) undo_is (named_but was.undos (held_in d).undos s) in
      elim (read_undos held was read) [
        | inl all ↦ inl (subst (λ (l : List FileRef). StayBut l (map delta_ref d.undo)) (ap deltas_named all ∙ undo_was) own)
        | inr none ↦ inr (let one = subst (λ (l : List FileRef). StayBut l (map delta_ref d.undo)) (ap deltas_named none) own in subst (λ (l : List FileRef). length l ≤ 1) (sym one.are) one.few)
      ]

  pub entry_stays : (w : Want) → FilesStay w was (held_in d) → EntryStays w entry (meta_in dms d)
  entry_stays want.Flush s = tt
  entry_stays (want.FlushDeltas r) s = (base_stays s.0, undo_stays s.1, redo_stays s.2)
  entry_stays (want.Minor r) s = (base_stays s.0, undo_stays s.1)
  entry_stays (want.Major r) s = undo_more s
  entry_stays (want.Compact rs) s = tt

-- so it is of what goes out
pub stays_of : {L D C : Type 0} (tells : Bool) (seen : Files) (view : EngineView L D C) (n : ℕ) (job : JobView) (d : RowSetData) (meta : Meta) → job_of n view.upkeep ≡ Some job → job.output ≡ Some d → StayIn job.want view.tablet.files d
    → AreFiled tells seen view.store.meta.rowsets view.tablet.files → meta ≡ delta_meta view job.dms d → (r : Result (Lent D) NoMemory) → IfOk r (λ lent. lent.meta ≡ Some meta)
    → IfOk r (λ lent. (j : JobView) (x : RowSetData) (m : Meta) → job_of n view.upkeep ≡ Some j → j.output ≡ Some x → lent.meta ≡ Some m → StayNamed j.want x.number view.store.meta.rowsets m.rowsets)
stays_of tells seen view n job d meta has gave stay filed is (Ok lent) told = λ j x m h g e.
    let same : job ≡ j = cc in
    let out : meta ≡ m = cc in
    let one : d ≡ x = (let here : job.output ≡ Some x = ap (λ (k : JobView). k.output) same ∙ g in cc) in
    let was = filed d.number stay.was stay.there in
    let own : StayNamed job.want d.number view.store.meta.rowsets (delta_meta view job.dms d).rowsets = record {
      was = was.entry;
      there = was.there;
      is = meta_in job.dms d;
      now = entry_own d.number (meta_in job.dms d) was.entry view.store.meta.rowsets refl was.there;
      stays = entry_stays was.entry was.held stay.was job.dms d was.names was.is job.want stay.stay;
    } in
    subst (λ (k : JobView). StayNamed k.want x.number view.store.meta.rowsets m.rowsets) same
    (subst (λ (y : RowSetData). StayNamed job.want y.number view.store.meta.rowsets m.rowsets) one
    (subst (λ (o : Meta). StayNamed job.want d.number view.store.meta.rowsets o.rowsets) (sym is ∙ out) own))
stays_of tells seen view n job d meta has gave stay filed is (Err e) told = tt

-- and the job publishes under its number
pub lent_of : {D : Type 0} (old new : UpkeepsView) (n : ℕ) (meta : Meta) (r : Result (Lent D) NoMemory) → IfOk r (λ lent. lent.meta ≡ Some meta) → OnOk r ((job : JobView) → job_of n old ≡ Some job → IsLent n job meta.number old new)
    → IfOk r (λ lent. (job : JobView) (m : Meta) → lent.meta ≡ Some m → job_of n old ≡ Some job → IsLent n job m.number old new)
lent_of old new n meta (Ok lent) told goes = λ job m e had. let one : meta ≡ m = cc in subst (λ (x : Meta). IsLent n job x.number old new) one (goes job had)
lent_of old new n meta (Err e) told goes = tt
