-- A job on the files of one disk rowset, step by step.
use Rattle.std.proofs.Common.{◌≡◌, ◌≤◌, ◌+◌, ℕ, Bool, true, false, cond, List, [], ◌∷◌, Option, Some, None, Result, Ok, Err, inl, refl, sym, ap, subst, ◌∙◌, arith}
use Rattle.std.specs.Prelude.{IsTrue, IfOk, OnOk, ◌==◌}
use Rattle.kt_disk.specs.Disk.{Files}
use Rattle.kt_history.specs.declared.target.Target.{Target}
use Rattle.kt_history.specs.declared.target.Target.TheVariants.{Mem, Delta}
use Rattle.kt_history.specs.History.{Past}
use Rattle.kt_history.specs.Stores.{Store}
use Rattle.kt_rowfiles.specs.Files.{DiskRowset, records_for}
use Rattle.kt_rowfiles.specs.Fitting.{undos_fit}
use Rattle.kt_super.specs.declared.meta.Meta.{Meta}
use Rattle.kt_super.specs.declared.meta.MetaRowset.{MetaRowset}
use Rattle.kt_super.specs.Rowsets.{is_small, AreRowsets}
use Rattle.kt_diskrowset.specs.declared.data.RowSetData.{RowSetData}
use Rattle.kt_diskrowset.specs.Data.{files_in, held_in, store_in}
use Rattle.kt_diskrowset.specs.declared.inputs.Inputs.{Inputs}
use Rattle.kt_diskrowset.specs.Rows.{UndosLeadBack, store_with}
use Rattle.kt_diskrowset.proofs.UndosFit.{fit_lead_back}
use Rattle.kt_files.specs.Reading.{HoldsRowset}
use Rattle.kt_outputs.specs.Outputs.{meta_in, IsWhole}
use Rattle.kt_outputs.specs.Rewriting.{KeptStand}
use Rattle.kt_outputs.specs.InPlace.{entry_of, KeepsRowset, a_rewritten_rowset_comes_in_place, a_rewritten_rowset_stands_in_place}
use Rattle.kt_merge.specs.Rewriting.{IsRewritten, AddsFile, AddsRedo, MergesRedos, FoldsRedos}
use Rattle.kt_deltafile.specs.File.{FileView}
use Rattle.kt_diskrowset.specs.Rowset.{HeldFiles}
use Rattle.kt_storeside.specs.Sides.{StoreView, MayBeLent, IsWithin, IsSide}
use Rattle.kt_storeside.proofs.Named.{first_file}
use Rattle.kt_pick.specs.declared.rules.Want.{Want}
use Rattle.kt_pick.specs.declared.rules.Want.TheVariants as want
use Rattle.kt_tablet.specs.Views.{View}
use Rattle.kt_tablet.specs.Jobs.{dms_in, store_in_names, next_dms, files_of}
use Rattle.kt_engine.specs.declared.upkeep.Stage.{Stage}
use Rattle.kt_engine.specs.declared.upkeep.Stage.TheVariants as stage
use Rattle.kt_engine.specs.Engines.{EngineView, IsFound}
use Rattle.kt_engine.specs.Stored.{IsStored, next_super}
use Rattle.kt_engine.specs.Files.{IsFiled, AreFiled}
use Rattle.kt_engine.specs.Jobs.{JobView, UpkeepView, UpkeepsView, job_of, IsUnpublished}
use Rattle.kt_engine.specs.JobSteps.{HasInput, AtNewStage}
use Rattle.kt_engine.specs.declared.job.MaintNo.{MaintNo}
use Rattle.kt_engine.specs.JobCalls.{ByWant, HasReadRowset, GivesOne, MayEndBy, MayGoOut}
use Rattle.kt_engine.specs.DeltaJobs.{IsOn, IsRead, RedosAs, HasShape, FilesStay, StayIn, delta_meta, MayPublishDeltas, MayFinishDeltas}
use Rattle.kt_engine.proofs.Filed.{entry_number}
use Rattle.kt_engine.proofs.JobCalls.{by_rowset, as_rowset}
use Rattle.kt_engine.proofs.Stored.{filed_now}
use Rattle.kt_maint.specs.Done.{GivesRewritten, GivesFor}
use Rattle.kt_maint.specs.Runs.{IsQuiet, IsReady, MayAbandon, IsPublished, going_out}
use Rattle.kt_maint.specs.DeltaRuns.{DeltasAt, Leaves, IsMade, HasReadOne, HasRewritten, MayHandOne}
use Rattle.kt_maint.specs.Outside.{KeepsRead}
use Rattle.kt_maint.specs.JobRuns.{HasHandedIn, HasHandedOne, HandsIn, OneIsWritten, MayEnd}
use Rattle.kt_maint.proofs.Stages.{some_is}
use Rattle.kt_maint.proofs.Kept.{IsOfSuper, entry_rules, keeps_rowset, files_stay, kept_stand}

-- ---- what is written again

pub rewritten_then : (a b c : RowSetData) → IsRewritten a b → IsRewritten b c → IsRewritten a c
rewritten_then a b c f g = record { number = g.number ∙ f.number; store = g.store ∙ f.store; fresh = g.fresh; lead = λ l. g.lead (f.lead l) }

-- changes in memory are a REDO file, and then all are one, or are folded
pub leaves_minor : {E : Type 0} (w : Want) (r : ℕ) → w ≡ want.Minor r → (read : HeldFiles) (flushed : RowSetData) (result : Result RowSetData E) → AddsRedo read (held_in flushed) → IfOk result (λ d. MergesRedos (held_in flushed) (held_in d)) → IfOk result (λ d. Leaves w read (held_in d))
leaves_minor w r is read flushed (Ok d) adds merges = subst (λ (x : Want). Leaves x read (held_in d)) (sym is) (record { base = merges.base ∙ adds.base; undos = merges.undos ∙ adds.undos; redos = merges.redos })
leaves_minor w r is read flushed (Err lost) adds merges = tt

pub leaves_major : {E : Type 0} (w : Want) (r : ℕ) → w ≡ want.Major r → (read : HeldFiles) (flushed : RowSetData) (result : Result RowSetData E) → AddsRedo read (held_in flushed) → IfOk result (λ d. FoldsRedos (held_in flushed) (held_in d)) → IfOk result (λ d. Leaves w read (held_in d))
leaves_major w r is read flushed (Ok d) adds folds =
    subst (λ (x : Want). Leaves x read (held_in d)) (sym is) (record { base = folds.base; undos = subst (λ (old : List (ℕ × ℕ × FileView)). AddsFile old (held_in d).undos) adds.undos folds.undos; redos = folds.redos })
leaves_major w r is read flushed (Err lost) adds folds = tt

-- without changes in memory what the files tell is all
pub files_tell : (a b : RowSetData) → files_in b ≡ files_in a → a.fresh ≡ [] → b.fresh ≡ [] → store_in b ≡ store_in a
files_tell a b same here there = (λ k. store_with (same k) (λ n. records_for n (there k))) ∙ (λ k. store_with (files_in a) (λ n. records_for n (sym here k)))

-- what was written has the shape of what was made
pub shape_kept : (w : Want) (a b : RowSetData) → files_in b ≡ files_in a → b.fresh ≡ [] → HasShape w a → HasShape w b
shape_kept w a b same none shape = record {
  on = subst (λ (f : DiskRowset). IsOn f.rowset w) (sym same) shape.on;
  fresh = none;
  redos = subst (RedosAs w) (sym same) shape.redos;
}

-- a list of one
pub one_is : (x y : RowSetData) → x ∷ [] ≡ y ∷ [] → x ≡ y
one_is x y e = cc

module _ {L D C : Type 0} (n : ℕ) (w : Want) where
  -- ---- the job comes further

  abbrev pub at_then : {s : Stage} (a b : EngineView L D C) (at : DeltasAt a n w s) (t : Stage) (job : JobView) → job.stage ≡ t → job.want ≡ at.job.want → job.rowset ≡ at.job.rowset → AtNewStage n job a b → DeltasAt b n w t
  at_then a b at t job stage want rowset h = record {
    job = job;
    has = ap (λ (u : UpkeepView). u.job) h.upkeep.own;
    at = stage;
    want = want ∙ at.want;
    on = subst (λ (r : ℕ). IsOn r w) (sym rowset) at.on;
    free = h.begun.1 ∙ at.free;
    begun = λ e. at.begun (sym h.begun.0 ∙ e);
  }

  pub may_abandon : {s : Stage} (v : EngineView L D C) → DeltasAt v n w s → IsUnpublished s → MayAbandon v n
  may_abandon v at early = record { job = at.job; has = at.has; early = subst IsUnpublished (sym at.at) early; free = at.free }

  -- its disk rowset was handed out, alone
  pub reads_one : (tells : Bool) (seen : D → Files) (a b : EngineView L D C) (at : DeltasAt a n w stage.Begun) (inputs : Inputs) (bound mark : ℕ)
      → ByWant at.job.want (HasInput a.tablet at.job.taken inputs bound mark × AtNewStage n (record at.job { stage = stage.Read; bound = bound; mark = mark; inputs = Some inputs }) a b) (λ r. HasReadRowset tells seen n at.job inputs bound mark a b)
      → HasReadRowset tells seen n at.job inputs bound mark a b
  reads_one tells seen a b at inputs bound mark read =
      by_rowset (HasInput a.tablet at.job.taken inputs bound mark × AtNewStage n (record at.job { stage = stage.Read; bound = bound; mark = mark; inputs = Some inputs }) a b) (λ r. HasReadRowset tells seen n at.job inputs bound mark a b) at.job.want at.job.rowset (subst (IsOn at.job.rowset) (sym at.want) at.on) read

  pub read_one : (tells : Bool) (seen : D → Files) (a b : EngineView L D C) (at : DeltasAt a n w stage.Begun) (inputs : Inputs) (bound mark : ℕ) (d : RowSetData) → inputs.rowsets ≡ d ∷ [] → HasReadRowset tells seen n at.job inputs bound mark a b → HasReadOne b n w d
  read_one tells seen a b at inputs bound mark d alone h =
      let one : h.d ≡ d = one_is h.d d (sym h.alone.1 ∙ alone) in
      let tablet : b.tablet ≡ a.tablet = ap (λ (v : EngineView L D C). v.tablet) h.later.beside in
      subst (HasReadOne b n w) one (record {
        at = at_then a b at stage.Read (record at.job { stage = stage.Read; bound = bound; mark = mark; inputs = Some inputs; dms = h.dms; read = Some h.d }) refl refl refl h.later;
        read = refl;
        is = subst (λ (t : View C). IsRead t at.job.rowset h.dms h.d) (sym tablet) h.is;
        held = subst (λ (t : View C). files_of h.d.number t.files ≡ Some (held_in h.d)) (sym tablet) h.held;
      })

  -- what is made of what was read is as it is to be
  pub made : (v : EngineView L D C) (read d : RowSetData) → HasReadOne v n w read → IsRewritten read d → HasShape w d → IsWhole d → Leaves w (held_in read) (held_in d) → IsMade v n w d
  made v read d h rewritten shape whole leaves =
      let is = h.is in
      let number : d.number ≡ h.at.job.rowset = rewritten.number ∙ is.number in
      record {
        at = h.at;
        all = record {
          name = ap (λ (r : ℕ). dms_in r v.tablet.names) number ∙ is.name;
          store = rewritten.store ∙ is.store ∙ ap (λ (r : ℕ). store_in_names r v.tablet.names v.tablet.core.stores) (sym number);
          fresh = rewritten.fresh;
        };
        shape = shape;
        was = held_in read;
        there = ap (λ (r : ℕ). files_of r v.tablet.files) rewritten.number ∙ h.held;
        leaves = leaves;
        read = read;
        has_read = (h.read, refl);
        same = rewritten.store;
        lead = rewritten.lead is.lead;
        whole = whole;
      }

-- what memory has of files while no job publishes is what the published superblock names
pub filed_free : {L D C : Type 0} {log_tells tells : Bool} {log_seen : L → Files} {seen : D → Files} {faults : D → ℕ} (e : EngineView L D C) → e.upkeep.publishing ≡ None → IsStored log_tells log_seen tells seen faults e → AreFiled tells (seen e.store.known) e.store.meta.rowsets e.tablet.files
filed_free {log_tells = log_tells} {tells = tells} {log_seen = log_seen} {seen = seen} {faults = faults} e free stored = filed_now log_tells log_seen tells seen faults e stored free e.store.meta (inl refl)

-- its want is on a disk rowset
no_flush : (w : Want) (r : ℕ) → IsOn r w → w ≡ want.Flush → ⊥
no_flush w r on is = subst (IsOn r) is on

no_compaction : (w : Want) (r : ℕ) → IsOn r w → (rs : List ℕ) → w ≡ want.Compact rs → ⊥
no_compaction w r on rs is = subst (IsOn r) is on

-- what was handed in is the one that was written
handed_as : {L D C : Type 0} (n : ℕ) (job : JobView) (outputs : List RowSetData) (out : RowSetData) (a b : EngineView L D C) → outputs ≡ out ∷ [] → HasHandedOne n job outputs a b
    → ((undos_fit (files_in out) ≡ true) × UndosLeadBack (files_in out)) × AtNewStage n (record job { stage = stage.Written; output = Some out }) a b
handed_as n job outputs out a b alone h =
    subst (λ (d : RowSetData). ((undos_fit (files_in d) ≡ true) × UndosLeadBack (files_in d)) × AtNewStage n (record job { stage = stage.Written; output = Some d }) a b) (one_is h.d out (sym h.alone ∙ alone)) (h.fits, h.later)

-- ---- its superblock

module _ {L D C : Type 0} (tells : Bool) (seen : D → Files) (now : D → ℕ) (leaves : D → ℕ → Files → Type 0) (faults : D → ℕ) where
  module _ (v : EngineView L D C) (d out : RowSetData) (dms : ℕ) (side : IsSide tells seen now leaves faults v.store) (files : HasRewritten tells seen now leaves v.store d out)
      (old_entry : MetaRowset) (there : entry_of out.number v.store.meta.rowsets ≡ Some old_entry) (keeps : KeepsRowset files.first v.store.next_file old_entry (meta_in dms out)) where
    in_place_lent : a_rewritten_rowset_comes_in_place → a_rewritten_rowset_stands_in_place → MayBeLent tells seen now leaves v.store (next_super v) → is_small dms ≡ true → IsWithin v.store.first.most (delta_meta v dms out) → MayBeLent tells seen now leaves v.store (delta_meta v dms out)
    in_place_lent comes stands may small within =
        let low : 3 ≤ files.first = (let x = first_file v.store.meta side.rules in let y = files.low in omega arith) in
        record {
          next = record {
            rules = record {
              number = may.next.rules.number;
              a = may.next.rules.a;
              c = may.next.rules.c;
              need = may.next.rules.need;
              last_mem = may.next.rules.last_mem;
              next_rowset = may.next.rules.next_rowset;
              next_file = may.next.rules.next_file;
              next_column = may.next.rules.next_column;
              count = may.next.rules.count;
              columns = may.next.rules.columns;
              schema = may.next.rules.schema;
              rowsets = comes v.store.meta.rowsets v.store.meta.next_rowset v.store.meta.next_file files.first v.store.next_rowset v.store.next_file old_entry (meta_in dms out) side.rules.rowsets may.next.rules.rowsets files.low low there keeps small;
            };
            number = may.next.number;
            rowsets = may.next.rowsets;
            files = may.next.files;
          };
          within = within;
          files = λ told image left. stands v.store.meta.rowsets files.first v.store.next_file old_entry (meta_in dms out) (seen v.store.known) image there keeps (files.stable told image left) (may.files told image left);
        }

  -- what was written beside the files that stay
  module _ (n : ℕ) (w : Want) (v : EngineView L D C) (out : RowSetData) (side : IsSide tells seen now leaves faults v.store) (may : MayHandOne tells seen now leaves v n w out) (filed : AreFiled tells (seen v.store.known) v.store.meta.rowsets v.tablet.files) where
    abbrev d : RowSetData
    d = may.d

    abbrev is : IsMade v n w may.d
    is = may.made

    its_files : IsFiled tells (seen v.store.known) v.store.meta.rowsets d.number is.was
    its_files = filed d.number is.was is.there

    its_rules : IsOfSuper v.store.meta.next_rowset v.store.meta.next_file its_files.entry
    its_rules = entry_rules v.store.meta.next_rowset v.store.meta.next_file 0 d.number [] v.store.meta.rowsets its_files.entry side.rules.rowsets its_files.there

    its_number : out.number ≡ d.number
    its_number = ap (λ (f : DiskRowset). f.rowset) may.files.same

    named_number : out.number ≡ its_files.entry.rowset
    named_number = its_number ∙ sym (entry_number d.number its_files.entry v.store.meta.rowsets its_files.there)

    keeps : (dms : ℕ) → KeepsRowset may.files.first v.store.next_file its_files.entry (meta_in dms out)
    keeps dms = keeps_rowset v.store.meta.next_rowset v.store.meta.next_file its_files.entry its_files.held is.was its_files.names its_files.is its_rules may.files.first v.store.next_file dms d out may.files.numbered named_number w is.leaves
        (no_flush w d.number is.shape.on) (no_compaction w d.number is.shape.on)

    stays : StayIn w v.tablet.files out
    stays = record {
      was = is.was;
      there = ap (λ (r : ℕ). files_of r v.tablet.files) its_number ∙ is.there;
      stay = files_stay v.store.meta.next_rowset v.store.meta.next_file its_files.entry its_files.held is.was its_files.names its_files.is its_rules may.files.first v.store.next_file 0 d out may.files.numbered named_number w is.leaves;
    }

    stand : IsTrue tells → KeptStand (seen v.store.known) d
    stand told = kept_stand (seen v.store.known) its_files.entry its_files.held is.was d its_files.names its_files.is (its_files.holds told) is.whole w is.leaves (no_flush w d.number is.shape.on) (no_compaction w d.number is.shape.on)

    pub swap_gives : (outputs : List RowSetData) → outputs ≡ out ∷ [] → (j : JobView) → job_of n v.upkeep ≡ Some j → ByWant j.want (Unit {0}) (λ r. GivesOne j.want v.tablet.files outputs)
    swap_gives outputs alone j has =
        let one : is.at.job ≡ j = some_is is.at.job j (sym is.at.has ∙ has) in
        let wants : w ≡ j.want = sym is.at.want ∙ ap (λ (x : JobView). x.want) one in
        let shape : HasShape j.want out = subst (λ (x : Want). HasShape x out) wants (shape_kept w d out may.files.same may.files.fresh is.shape) in
        as_rowset (Unit {0}) (λ r. GivesOne j.want v.tablet.files outputs) j.want out.number shape.on (record { d = out; alone = alone; shape = shape; stay = subst (λ (x : Want). StayIn x v.tablet.files out) wants stays })

  -- the job whose rowset is written and was handed in
  pub one_written : (n : ℕ) (w : Want) (v e : EngineView L D C) (out : RowSetData) → a_rewritten_rowset_comes_in_place → a_rewritten_rowset_stands_in_place → IsSide tells seen now leaves faults v.store → IsReady v → MayHandOne tells seen now leaves v n w out
      → (outputs : List RowSetData) → outputs ≡ out ∷ [] → ((j : JobView) → job_of n v.upkeep ≡ Some j → HandsIn n j outputs v e) → AreFiled tells (seen v.store.known) v.store.meta.rowsets v.tablet.files → OneIsWritten tells seen now leaves e n w
  unfolding stays
  one_written n w v e out comes stands side ready may_hand outputs alone hands filed =
      let is = may_hand.made in
      let d = may_hand.d in
      let files = may_hand.files in
      let job = is.at.job in
      let handed = handed_as n job outputs out v e alone (by_rowset (HasHandedIn n job outputs v e) (λ r. HasHandedOne n job outputs v e) job.want job.rowset (subst (IsOn job.rowset) (sym is.at.want) is.at.on) (hands job is.at.has)) in
      let h = handed.1 in
      let store3 : e.store ≡ v.store = ap (λ (x : EngineView L D C). x.store) h.beside in
      let tablet : e.tablet ≡ v.tablet = ap (λ (x : EngineView L D C). x.tablet) h.beside in
      let number : out.number ≡ d.number = ap (λ (f : DiskRowset). f.rowset) files.same in
      let entry : MetaRowset = (its_files n w v out side may_hand filed).entry in
      let at3 = at_then n w v e is.at stage.Written (record job { stage = stage.Written; output = Some out }) refl refl refl h in
      let lent = subst (λ (x : EngineView L D C). MayBeLent tells seen now leaves x.store (next_super x) → is_small job.dms ≡ true → IsWithin x.store.first.most (delta_meta x job.dms out) → MayBeLent tells seen now leaves x.store (delta_meta x job.dms out)) (sym h.beside)
      (in_place_lent (record v { upkeep = e.upkeep }) d out job.dms side (record { same = files.same; fresh = files.fresh; first = files.first; low = files.low; numbered = files.numbered; holds = files.holds; stable = files.stable }) entry
      (ap (λ (r : ℕ). entry_of r v.store.meta.rowsets) number ∙ (its_files n w v out side may_hand filed).there) (keeps n w v out side may_hand filed job.dms) comes stands) in
      record {
        d = out;
        at = at3;
        may = record {
          at = refl;
          output = refl;
          shape = subst (λ (x : Want). HasShape x out) (sym is.at.want) (shape_kept w d out files.same files.fresh is.shape);
          stay = subst (λ (x : Want). StayIn x e.tablet.files out) (sym is.at.want) (subst (λ (t : View C). StayIn w t.files out) (sym tablet) (stays n w v out side may_hand filed));
          calm = ap (λ (t : View C). t.core.aloft) tablet ∙ ready.calm;
          all = record {
            name = subst (λ (t : View C). dms_in out.number t.names ≡ Some job.dms) (sym tablet) (ap (λ (r : ℕ). dms_in r v.tablet.names) number ∙ is.all.name);
            store = subst (λ (t : View C). store_in out ≡ store_in_names out.number t.names t.core.stores) (sym tablet)
                (files_tell d out files.same is.all.fresh files.fresh ∙ is.all.store ∙ ap (λ (r : ℕ). store_in_names r v.tablet.names v.tablet.core.stores) (sym number));
            fresh = files.fresh;
          };
          fits = handed.0.0;
          begun = at3.begun;
          hold = λ told. subst (λ (s : StoreView D). HoldsRowset (seen s.known) (meta_in job.dms out) (held_in out)) (sym store3) (files.holds told (stand n w v out side may_hand filed told) job.dms);
          lent = lent;
        };
        gives = record {
          was = is.read;
          read = is.has_read.0;
          now = out;
          gave = refl;
          same = files_tell d out files.same is.all.fresh files.fresh ∙ is.same;
          shape = subst (λ (x : Want). HasShape x out) (sym is.at.want) (shape_kept w d out files.same files.fresh is.shape);
          stay = subst (λ (x : Want). FilesStay x (held_in is.read) (held_in out)) (sym is.at.want) (subst (λ (h : HeldFiles). FilesStay w h (held_in out)) is.has_read.1 (stays n w v out side may_hand filed).stay);
        };
      }

-- ---- the next DeltaMemStore takes changes

pub next_is : (number dms : ℕ) (names : List Target) → dms_in number names ≡ Some dms → dms_in number (next_dms number names) ≡ Some (dms + 1)
next_is number dms [] e = absurd cc
next_is number dms (Mem m ∷ names) e = next_is number dms names e
next_is number dms (Delta r k ∷ names) e = elim (r == number) as (λ (b : Bool). (r == number) ≡ b → cond b (Some k) (dms_in number names) ≡ Some dms → dms_in number (cond b (Delta r (k + 1) ∷ names) (Delta r k ∷ next_dms number names)) ≡ Some (dms + 1)) [
  | true ↦ λ is h. (let same : k ≡ dms = cc in ap (λ (b : Bool). cond b (Some (k + 1)) (dms_in number names)) is ∙ ap (λ (x : ℕ). Some (x + 1)) same)
  | false ↦ λ is h. ap (λ (b : Bool). cond b (Some k) (dms_in number (next_dms number names))) is ∙ next_is number dms names h
] refl e

pub next_store : (number : ℕ) (names : List Target) (stores : List Store) → store_in_names number (next_dms number names) stores ≡ store_in_names number names stores
next_store number [] stores = refl
next_store number (Mem m ∷ names) [] = refl
next_store number (Mem m ∷ names) (s ∷ stores) = next_store number names stores
next_store number (Delta r k ∷ names) [] = elim (r == number) as (λ (b : Bool). store_in_names number (cond b (Delta r (k + 1) ∷ names) (Delta r k ∷ next_dms number names)) [] ≡ []) [
  | true ↦ refl
  | false ↦ refl
]
next_store number (Delta r k ∷ names) (s ∷ stores) = elim (r == number) as (λ (b : Bool). (r == number) ≡ b
    → store_in_names number (cond b (Delta r (k + 1) ∷ names) (Delta r k ∷ next_dms number names)) (s ∷ stores) ≡ cond b s (store_in_names number names stores)) [
      | true ↦ λ is. ap (λ (b : Bool). cond b s (store_in_names number names stores)) is
      | false ↦ λ is. ap (λ (b : Bool). cond b s (store_in_names number (next_dms number names) stores)) is ∙ next_store number names stores
    ] refl

-- ---- it ends

-- what it gave
gives_published : (job : JobView) (number : ℕ) → GivesRewritten job → GivesRewritten (record job { stage = stage.Published; super = number })
gives_published job number g = record { was = g.was; read = g.read; now = g.now; gave = g.gave; same = g.same; shape = g.shape; stay = g.stay }

pub rewritten_for : (found : Past → Type 0) (w : Want) (r : ℕ) (job : JobView) → IsOn r w → GivesRewritten job → GivesFor found w job
rewritten_for found want.Flush r job on g = absurd on
rewritten_for found (want.Compact taken) r job on g = absurd on
rewritten_for found (want.FlushDeltas s) r job on g = g
rewritten_for found (want.Minor s) r job on g = g
rewritten_for found (want.Major s) r job on g = g

module _ {L D C : Type 0} (tells : Bool) (seen : D → Files) (now : D → ℕ) (leaves : D → ℕ → Files → Type 0) (n : ℕ) (c d : EngineView L D C) where
  -- once its superblock is published it may finish
  may_finish : (job : JobView) (x : RowSetData) → MayPublishDeltas tells seen now leaves c job x → (p : IsPublished n job c d) → MayFinishDeltas d n (record job { stage = stage.Published; super = p.number }) x
  may_finish job x may p =
      let tablet : d.tablet ≡ record c.tablet { names = next_dms x.number c.tablet.names } = p.tablet ∙ ap (λ (o : Option RowSetData). going_out o c.tablet) may.output in
      record {
        at = refl;
        output = may.output;
        published = p.own;
        there = (job.dms + 1, subst (λ (t : View C). dms_in x.number t.names ≡ Some (job.dms + 1)) (sym tablet) (next_is x.number job.dms c.tablet.names may.all.name));
        store = subst (λ (t : View C). store_in x ≡ store_in_names x.number t.names t.core.stores) (sym tablet) (may.all.store ∙ sym (next_store x.number c.tablet.names c.tablet.core.stores));
        fresh = may.all.fresh;
        lead = fit_lead_back (files_in x) may.fits;
      }

  -- and has given what its want asks for
  pub one_ends : (w : Want) → OneIsWritten tells seen now leaves c n w → ((j : JobView) → job_of n c.upkeep ≡ Some j → IsPublished n j c d) → MayEnd d n w
  one_ends w x published =
      let job = x.at.job in
      let p = published job x.at.has in
      let later : JobView = record job { stage = stage.Published; super = p.number } in
      record {
        job = later;
        has = p.has;
        may = subst (MayEndBy d n later) (sym x.may.output) (may_finish job x.d x.may p);
        given = record { want_is = x.at.want; gives = rewritten_for (IsFound d) w job.rowset later x.at.on (gives_published job p.number x.gives) };
      }

-- its superblock may go out
pub one_to_go : {L D C : Type 0} (tells : Bool) (seen : D → Files) (now : D → ℕ) (leaves : D → ℕ → Files → Type 0) (v : EngineView L D C) (n : ℕ) (w : Want) → OneIsWritten tells seen now leaves v n w → (job : JobView) × ((job_of n v.upkeep ≡ Some job) × MayGoOut tells seen now leaves v job job.output)
one_to_go tells seen now leaves v n w x = (x.at.job, (x.at.has, subst (MayGoOut tells seen now leaves v x.at.job) (sym x.may.output) x.may))

-- and where it came home published the job may end
pub one_may_end : {L D C : Type 0} (tells : Bool) (seen : D → Files) (now : D → ℕ) (leaves : D → ℕ → Files → Type 0) (n : ℕ) (c d : EngineView L D C) (w : Want) → OneIsWritten tells seen now leaves c n w → (r : Result (Unit {0}) MaintNo)
    → ((j : JobView) → job_of n c.upkeep ≡ Some j → OnOk r (IsPublished n j c d)) → OnOk r (MayEnd d n w)
one_may_end tells seen now leaves n c d w x (Ok done) published = one_ends tells seen now leaves n c d w x published
one_may_end tells seen now leaves n c d w x (Err e) published = tt

-- with what was read of it
pub one_read : {L D C : Type 0} (n : ℕ) (w : Want) {s : Stage} {v : EngineView L D C} (at : DeltasAt v n w s) (outputs : List RowSetData) (a b c : EngineView L D C) (r : Result (Unit {0}) MaintNo) → HandsIn n at.job outputs a b
    → ((j : JobView) → job_of n b.upkeep ≡ Some j → OnOk r (IsPublished n j b c)) → job_of n a.upkeep ≡ Some at.job → OnOk r (KeepsRead n a.upkeep c.upkeep)
one_read n w at outputs a b c (Err e) hands published had = tt
one_read n w at outputs a b c (Ok done) hands published had =
    let h = by_rowset (HasHandedIn n at.job outputs a b) (λ r. HasHandedOne n at.job outputs a b) at.job.want at.job.rowset (subst (IsOn at.job.rowset) (sym at.want) at.on) hands in
    let written : JobView = record at.job { stage = stage.Written; output = Some h.d } in
    let p = published written (ap (λ (u : UpkeepView). u.job) h.later.upkeep.own) in
    record { its = at.job; had = had; job = record written { stage = stage.Published; super = p.number }; has = p.has; same = record { inputs = refl; times = (refl, refl) } }
