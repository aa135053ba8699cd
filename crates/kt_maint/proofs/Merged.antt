-- What merging gives.
use Rattle.std.proofs.Common.{◌≡◌, Some, ℕ, List, [], ◌∷◌, map, refl, sym, ap, subst, ◌∙◌}
use Rattle.std.specs.List.{AllByRecursion}
use Rattle.kt_history.specs.History.{Past}
use Rattle.kt_history.specs.Stores.{Hist}
use Rattle.kt_histlaws.specs.Jobs.{AreAlike}
use Rattle.kt_rowfiles.specs.Files.{hist_in_files}
use Rattle.kt_baseset.specs.declared.schema.ColumnShape.{ColumnShape}
use Rattle.kt_deltafile.specs.declared.file.Way.{Way}
use Rattle.kt_diskrowset.specs.declared.files.FileHeld.{FileHeld}
use Rattle.kt_diskrowset.specs.declared.data.RowSetData.{RowSetData}
use Rattle.kt_diskrowset.specs.declared.inputs.Inputs.{Inputs}
use Rattle.kt_diskrowset.specs.Data.{files_in}
use Rattle.kt_joblaws.specs.Late.{AllHaveLater, hists_now}
use Rattle.kt_merge.specs.Late.{AllTellChanges, AllTellLate, HasNoneAbove}
use Rattle.kt_merge.specs.Merge.{hists_of, hists_upto, hists_written, HaveEach}
use Rattle.kt_merge.specs.Told.{AreFilesOver, IsOutput, told_by_all}
use Rattle.kt_outputs.specs.Outputs.{AreOfWay, AreWhole}
use Rattle.kt_pick.specs.declared.rules.Want.{Want}
use Rattle.kt_pick.specs.declared.rules.Want.TheVariants as want
use Rattle.kt_engine.specs.Jobs.{JobView}
use Rattle.kt_engine.specs.Engines.{EngineView, IsFound}
use Rattle.kt_engine.specs.JobSteps.{IsMerge}
use Rattle.kt_engine.specs.Outside.{hists_read}
use Rattle.kt_engine.specs.Returning.{hists_in}
use Rattle.kt_engine.specs.declared.upkeep.Stage.{Stage}
use Rattle.kt_engine.specs.Visits.{Root, root_of}
use Rattle.kt_maint.specs.Done.{FoundBy, AreMerged, EndsWith, GivesMerged, GivesFor}

-- ---- the outputs

of_way : (way : Way) (rows : ℕ) (files : List FileHeld) → AreFilesOver way rows files → AreOfWay way rows files
of_way way rows [] are = tt
of_way way rows (f ∷ files) are = (record { way_is = are.0.0; fits = are.0.1 }, of_way way rows files are.1)

pub whole : (columns : List ColumnShape) (outputs : List RowSetData) → AllByRecursion (IsOutput columns) outputs → AreWhole outputs
whole columns [] are = tt
whole columns (d ∷ outputs) are = (record { undo = of_way _ _ d.undo are.0.undo.1; redo = of_way _ _ d.redo are.0.redo.1 }, whole columns outputs are.1)

pub written_is : (q : List ℕ) (outputs : List RowSetData) → hists_written q outputs ≡ map (hist_in_files q) (map files_in outputs)
written_is q [] = refl
written_is q (d ∷ outputs) = ap (λ (l : List Hist). hist_in_files q (files_in d) ∷ l) (written_is q outputs)

-- ---- what was handed out, and what merging makes of it

-- the same of a job that was handed out the same
abbrev pub merged_same : (found other : Past → Type 0) → ((first : Past) → other first → found first) → (was job : JobView) → job.inputs ≡ was.inputs → job.bound ≡ was.bound → job.mark ≡ was.mark → (outputs : List RowSetData) → AreMerged found was outputs → AreMerged other job outputs
merged_same found other back was job inputs bound mark outputs m = record {
  inputs = m.inputs;
  read = inputs ∙ m.read;
  outputs = m.outputs;
  keys = m.keys;
  rows = λ first is. subst (λ (k : ℕ). HaveEach (record { mark = k; bound = job.bound }) m.inputs (told_by_all outputs)) (sym mark) (subst (λ (k : ℕ). HaveEach (record { mark = was.mark; bound = k }) m.inputs (told_by_all outputs)) (sym bound) (m.rows first (back first is)));
  alike = λ first is q. subst (λ (k : ℕ). AreAlike k (hists_upto job.bound q m.inputs) (hists_written q outputs)) (sym mark) (subst (λ (k : ℕ). AreAlike was.mark (hists_upto k q m.inputs) (hists_written q outputs)) (sym bound) (m.alike first (back first is) q));
}

-- what came meanwhile is told of no more pasts, and of a job that has come further
pub ends_as : (found other : Past → Type 0) → ((first : Past) → other first → found first) → (w : Want) (was job : JobView) → job.bound ≡ was.bound → job.returned ≡ was.returned → job.again ≡ was.again → (inputs : Inputs) (out done : List RowSetData)
    → EndsWith found w was inputs out done → EndsWith other w job inputs out done
ends_as found other back want.Flush was job bound returned again inputs out done e = record {
  mems = e.mems;
  is = again ∙ e.is;
  later = λ first is q. subst (λ (b : ℕ). AllHaveLater b (hists_read want.Flush inputs q) (hists_in q e.mems.now)) (sym bound) (e.later first (back first is) q);
  late = e.late;
  tells = subst (λ (b : ℕ). AllTellChanges b e.mems.now out e.late) (sym bound) e.tells;
  adds = e.adds;
  firsts = e.firsts;
  again = e.again;
  made = e.made;
  merged = merged_same found other back (record was { inputs = Some e.mems.since.inputs; bound = e.mems.since.bound; mark = e.mems.since.mark }) (record job { inputs = Some e.mems.since.inputs; bound = e.mems.since.bound; mark = e.mems.since.mark }) refl refl refl e.made e.merged;
  number = e.number;
  more = e.more;
  written = e.written;
  both = e.both;
}
ends_as found other back (want.Compact taken) was job bound returned again inputs out done e = record {
  now = e.now;
  is = returned ∙ e.is;
  later = λ first is q. subst (λ (b : ℕ). AllHaveLater b (hists_of q inputs) (hists_now q e.now)) (sym bound) (e.later first (back first is) q);
  in_memory = λ first is. subst (λ (b : ℕ). AllByRecursion (HasNoneAbove b) e.now) (sym bound) (e.in_memory first (back first is));
  late = e.late;
  tells = subst (λ (b : ℕ). AllTellLate b e.now out e.late) (sym bound) e.tells;
  adds = e.adds;
  again = e.again;
}
ends_as found other back (want.FlushDeltas r) was job bound returned again inputs out done e = absurd e
ends_as found other back (want.Minor r) was job bound returned again inputs out done e = absurd e
ends_as found other back (want.Major r) was job bound returned again inputs out done e = absurd e

-- and so they are once it is published, or over
pub gives_then : {L D C : Type 0} (c d : EngineView L D C) (job : JobView) (s : Stage) (number : ℕ) → root_of d ≡ root_of c → GivesMerged (IsFound c) job → GivesMerged (IsFound d) (record job { stage = s; super = number })
gives_then {L} {D} {C} c d job s number root g = record {
  taken = g.taken;
  made = g.made;
  merged = merged_same (IsFound c) (IsFound d) (λ past. subst (λ (r : Root L D C). FoundBy r past) root) job (record job { stage = s; super = number }) refl refl refl g.made g.merged;
  first = g.first;
  out = g.out;
  written = g.written;
  done = g.done;
  ends = ends_as (IsFound c) (IsFound d) (λ past. subst (λ (r : Root L D C). FoundBy r past) root) job.want job (record job { stage = s; super = number }) refl refl refl g.merged.inputs g.out g.done g.ends;
  from = g.from;
  metas = g.metas;
  held = g.held;
}

-- a want that merges gives so
pub merged_for : (found : Past → Type 0) (w : Want) (job : JobView) → IsMerge w → GivesMerged found job → GivesFor found w job
merged_for found want.Flush job merges g = g
merged_for found (want.Compact taken) job merges g = g
merged_for found (want.FlushDeltas r) job merges g = absurd merges
merged_for found (want.Minor r) job merges g = absurd merges
merged_for found (want.Major r) job merges g = absurd merges
