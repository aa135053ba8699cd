-- What the superblock of a job names of its rowset, which is as its want leaves it.
use Rattle.std.proofs.Common.{◌≡◌, ◌≤◌, ℕ, Bool, true, false, List, [], ◌∷◌, map, length, Some, Result, Ok, Err, refl, sym, ap, ◌∙◌, subst, cond, arith}
use Rattle.std.specs.Prelude.{IfOk, ◌==◌}
use Rattle.std.proofs.lemmas.List.{length-map}
use Rattle.kt_bytes.specs.declared.memory.NoMemory.{NoMemory}
use Rattle.kt_diskrowset.specs.declared.data.RowSetData.{RowSetData}
use Rattle.kt_diskrowset.specs.declared.files.FileHeld.{FileHeld}
use Rattle.kt_outputs.specs.InPlace.{in_place}
use Rattle.kt_outputs.specs.Outputs.{delta_ref, meta_in}
use Rattle.kt_pick.specs.declared.rules.Want.{Want}
use Rattle.kt_pick.specs.declared.rules.Want.TheVariants as want
use Rattle.kt_storeside.specs.declared.side.Lent.{Lent}
use Rattle.kt_super.specs.declared.meta.Meta.{Meta}
use Rattle.kt_super.specs.declared.meta.MetaRowset.{MetaRowset}
use Rattle.kt_engine.specs.Engines.{EngineView}
use Rattle.kt_engine.specs.Jobs.{JobView, job_of}
use Rattle.kt_engine.specs.Stored.{next_super}
use Rattle.kt_engine.specs.DeltaJobs.{redo_files, delta_meta, HasShape, NamesAtMostOneRedo}

either_few : (b : Bool) (one other : ℕ) → one ≤ 1 → other ≤ 1 → cond b one other ≤ 1
either_few true one other few rest = few
either_few false one other few rest = rest

few_in_place : (r : ℕ) (m : MetaRowset) (rowsets : List MetaRowset) → m.rowset ≡ r → length m.redo ≤ 1 → redo_files r (in_place m rowsets) ≤ 1
few_in_place r m [] same few = omega arith
few_in_place r m (x ∷ rowsets) same few = elim (x.rowset == m.rowset) as (λ (b : Bool). (x.rowset == m.rowset) ≡ b → redo_files r (cond b m x ∷ in_place m rowsets) ≤ 1) [
  | true ↦ λ is. either_few (m.rowset == r) (length m.redo) (redo_files r (in_place m rowsets)) few (few_in_place r m rowsets same few)
  | false ↦ λ is. subst (λ (b : Bool). cond b (length x.redo) (redo_files r (in_place m rowsets)) ≤ 1) (sym (ap (λ (k : ℕ). x.rowset == k) (sym same) ∙ is)) (few_in_place r m rowsets same few)
] refl

few_refs : (files : List FileHeld) → length (map (λ (f : FileHeld). f.deltas.value.list) files) ≤ 1 → length (map delta_ref files) ≤ 1
few_refs files few = subst (λ (n : ℕ). n ≤ 1) (length-map files (λ (f : FileHeld). f.deltas.value.list) ∙ sym (length-map files delta_ref)) few

few_named : (w : Want) (dms : ℕ) (d : RowSetData) (rowsets : List MetaRowset) → HasShape w d → NamesAtMostOneRedo w (in_place (meta_in dms d) rowsets)
few_named want.Flush dms d rowsets shape = tt
few_named (want.FlushDeltas r) dms d rowsets shape = tt
few_named (want.Minor r) dms d rowsets shape = few_in_place r (meta_in dms d) rowsets (sym shape.on) (few_refs d.redo shape.redos)
few_named (want.Major r) dms d rowsets shape = few_in_place r (meta_in dms d) rowsets (sym shape.on) (few_refs d.redo shape.redos.one)
few_named (want.Compact rs) dms d rowsets shape = tt

-- what goes out names at most one
pub names_of : {L D C : Type 0} (view : EngineView L D C) (n : ℕ) (job : JobView) (d : RowSetData) (meta : Meta) → job_of n view.upkeep ≡ Some job → HasShape job.want d → meta ≡ delta_meta view job.dms d → (r : Result (Lent D) NoMemory) → IfOk r (λ lent. lent.meta ≡ Some meta)
    → IfOk r (λ lent. (j : JobView) (m : Meta) → job_of n view.upkeep ≡ Some j → lent.meta ≡ Some m → NamesAtMostOneRedo j.want m.rowsets)
names_of view n job d meta has shape is (Ok lent) told = λ j m h e.
    let same : job ≡ j = cc in
    let out : meta ≡ m = cc in
    subst (λ (x : JobView). NamesAtMostOneRedo x.want m.rowsets) same (subst (λ (x : Meta). NamesAtMostOneRedo job.want x.rowsets) (sym is ∙ out) (few_named job.want job.dms d (next_super view).rowsets shape))
names_of view n job d meta has shape is (Err e) told = tt
