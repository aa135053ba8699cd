-- The superblock of a job on the files of a disk rowset goes out: it stands over the stores in memory, whose DeltaMemStore of that rowset is frozen.
use Rattle.std.proofs.Common.{◌≡◌, ◌≢◌, ℕ, suc, ◌<◌, ◌≤◌, ◌+◌, ◌^◌, Bool, false, List, [], ◌++◌, length, map, Option, Some, None, refl, sym, ap, ◌∙◌, subst, arith, inl, inr}
use Rattle.std.specs.Prelude.{◌-◌, IsTrue}
use Rattle.std.proofs.lemmas.List.{append-nil, length-map}
use Rattle.kt_disk.specs.Disk.{Files}
use Rattle.kt_history.specs.declared.target.Target.{Target}
use Rattle.kt_history.specs.History.{Past}
use Rattle.kt_history.specs.Stores.{Hist, hist_in}
use Rattle.kt_history.specs.Views.{AreRising}
use Rattle.kt_records.specs.declared.entry.Entry.{Entry}
use Rattle.kt_records.specs.declared.entry.CommitRow.{CommitRow}
use Rattle.kt_journal.specs.Log.{IsLog}
use Rattle.kt_loglaws.specs.Fronts.{with_records}
use Rattle.kt_histlaws.specs.Core.{Core, Stands}
use Rattle.kt_histlaws.specs.Fitting.{AreSound}
use Rattle.kt_histlaws.specs.Histories.{hists}
use Rattle.kt_histlaws.specs.Pending.{Aloft}
use Rattle.kt_baseset.specs.Rows.{keys_in}
use Rattle.kt_deltafile.specs.declared.file.Way.TheVariants.{Undo, Redo}
use Rattle.kt_rowfiles.specs.Files.{DiskRowset, hist_in_files}
use Rattle.kt_super.specs.declared.meta.Meta.{Meta}
use Rattle.kt_super.specs.declared.meta.MetaRowset.{MetaRowset}
use Rattle.kt_diskrowset.specs.declared.data.RowSetData.{RowSetData}
use Rattle.kt_diskrowset.specs.Data.{held_in}
use Rattle.kt_diskrowset.specs.Rowset.{HeldFiles}
use Rattle.kt_files.specs.Content.{rowsets_in}
use Rattle.kt_files.specs.Reading.{HoldAll}
use Rattle.kt_files.proofs.OneHolding.{all_one}
use Rattle.kt_outputs.specs.Outputs.{meta_in}
use Rattle.kt_content.specs.DeltaFlushes.{DeltasUpTo, replaced, with_deltas}
use Rattle.kt_content.specs.InMemory.{Name}
use Rattle.kt_content.specs.Keeping.{with_stores}
use Rattle.kt_content.specs.Places.{Super}
use Rattle.kt_content.specs.Recoverable.{Resident, SuperStands}
use Rattle.kt_content.specs.Recovering.{IsRecovered, Lends}
use Rattle.kt_content.specs.Rules.{Rules, HistPasses, RowsetPasses}
use Rattle.kt_content.specs.RunEvents.{Numbers, RecordsBelow, StoresBelow}
use Rattle.kt_joblaws.specs.DeltaJobs.{IsAlone, RewritesRowset, without_deltas}
use Rattle.kt_joblaws.proofs.PassingHistories.{rowset_passes}
use Rattle.kt_joblaws.proofs.Rewritten.{rewritten_stands}
use Rattle.kt_joblaws.proofs.Standing.{stand_apart}
use Rattle.kt_reopen.specs.Both.{super_in}
use Rattle.kt_storeside.specs.Sides.{StoreView}
use Rattle.kt_tablet.specs.Jobs.{dms_in, store_in_names, next_dms, with_files}
use Rattle.kt_tablet.specs.Views.{View}
use Rattle.kt_engine.specs.Memory.{name_of, by_name, named_writes, resident}
use Rattle.kt_engine.specs.Logged.{PlanPasses, LogStands, UntoldFly, KeepsSince}
use Rattle.kt_engine.specs.Outside.{is_at_outside}
use Rattle.kt_engine.specs.Over.{over_at}
use Rattle.kt_engine.specs.Engines.{EngineView, IsContent, IsFound, IsEngine, core_from}
use Rattle.kt_engine.specs.declared.upkeep.Stage.TheVariants.{Publishing}
use Rattle.kt_engine.specs.Files.{AreFiled, publisher, publisher_by, job_at, files_by, files_over}
use Rattle.kt_engine.specs.Jobs.{JobView, UpkeepView, UpkeepsView, JobOn, job_of, over_for, over_of, over_by, over_in, takes_of}
use Rattle.kt_engine.specs.JobSteps.{IsLent}
use Rattle.kt_engine.specs.DeltaJobs.{MayPublishDeltas, delta_meta, lent_deltas}
use Rattle.kt_engine.specs.Near.{AreNear, first_number, most_deltas}
use Rattle.kt_engine.specs.Stored.{IsOneOf, IsMarkOf, IsSuperOf, IsStored, over, core_at, names_at, numbers_of, next_given}
use Rattle.kt_engine.proofs.Devices.{store_keeps}
use Rattle.kt_engine.proofs.DeltaFiles.{held_in_place, hold_in_place, rowsets_in_place, told_with, tells_it, hist_told, told_fits, told_rises, told_fit}
use Rattle.kt_engine.proofs.DeltaNames.{names_same, stores_same, first_same, shelved_same, spelled_next, named_next, later_named, rowset_named, deltas_next, deltas_at, alone_there, there_passes, near_next, rowset_below}
use Rattle.kt_engine.proofs.Filed.{filed_in_place, before_job, own_job}
use Rattle.kt_engine.proofs.Flushed.{each_told, hists_named}
use Rattle.kt_engine.proofs.Marks.{of_each}
use Rattle.kt_engine.proofs.Rising.{given_same}
use Rattle.kt_engine.proofs.StoreEvents.{past_is, stands_now, ends}
use Rattle.kt_engine.proofs.Outsiders.{NoneOutside, none_kept}
use Rattle.kt_engine.proofs.Stored.{to_plain, of_plain, plain, filed_now}
use Rattle.kt_engine.proofs.Upkeeps.{jobs_kept, upkeep_keeps}

-- ---- the same stores under other names

residents_same : (core : Core) (names : List Target) (notes : List (List CommitRow)) (numbers : Numbers) (r : ℕ) → resident core (next_dms r names) notes numbers ≡ resident core names notes numbers
residents_same core names notes numbers r = λ i. record {
  last = core.c;
  named = named_writes core.aloft notes;
  stores = λ q. stores_same r names (hists q core.stores) i;
  names = names_same r names i;
  numbers = numbers;
}

-- a superblock that goes on stands over them
pub next_names_since : (rules : Rules) (core : Core) (super : Super) (names : List Target) (notes : List (List CommitRow)) (records run : List Entry) (durable r n : ℕ) → dms_in r names ≡ Some n → n + 1 < 2 ^ 64
    → KeepsSince rules core super names notes records run durable → KeepsSince rules core super (next_dms r names) notes records run durable
next_names_since rules core super names notes records run durable r n at fits k = record {
  since = k.since;
  rest = k.rest;
  parts = k.parts;
  made = k.made;
  opened = k.opened;
  low = k.low;
  from = k.from;
  up = k.up;
  last = k.last;
  mark = k.mark;
  clock = k.clock;
  named = named_next super r n names at fits k.named;
  deltas = deltas_next r names (records ++ run) k.deltas;
  passes = k.passes;
  keeps = record {
    recovered = k.keeps.recovered;
    writes = k.keeps.writes;
    numbers = k.keeps.numbers;
    stands = subst (λ (live : Resident). SuperStands rules core.work.fill super (records ++ k.since) k.rest (with_records core.work.fill core.first k.since) live) (sym (residents_same core names notes k.keeps.numbers r)) k.keeps.stands;
  };
}

-- ---- the superblock with the files that were written

module _ (rules : Rules) (core : Core) (super : Super) (names : List Target) (notes : List (List CommitRow)) (records run : List Entry) (places : List (ℕ × ℕ)) (durable : ℕ) (log : LogStands core records places run) (st : Stands core)
    (k : KeepsSince rules core super names notes records run durable) (all : durable ≡ length (records ++ run)) (calm : core.aloft ≡ []) (long : length names ≡ length core.stores)
    (d : DiskRowset) (at : dms_in d.rowset names ≡ Some d.last_dms) (fits : d.last_dms + 1 < 2 ^ 64) (tells : (q : List ℕ) → hist_in q (store_in_names d.rowset names core.stores) ≡ hist_in_files q d)
    (pass : ((q : List ℕ) → HistPasses rules q (hist_in_files q d)) → RowsetPasses rules d) where
  abbrev base : List Entry
  base = records ++ run

  abbrev pub new_super : Super
  new_super = with_deltas super core.a core.c durable d

  abbrev live : Resident
  live = resident core names notes k.keeps.numbers

  lends : Lends super new_super base core.c 0 (with_records core.work.fill core.first run)
  lends = record { enough = omega (arith, all); mark = k.mark; job = omega arith; last = k.clock; up = omega arith; marked = st.flown.marked; ends = ends rules core super names notes records run places durable log st k all }

  as_many : (q : List ℕ) → length names ≡ length (hists q core.stores)
  as_many q = long ∙ sym (length-map core.stores (hist_in q))

  rewrites : RewritesRowset rules super core.a d (base ++ []) live.stores
  rewrites = record {
    there = rowset_named super d.rowset d.last_dms names at k.named.each;
    names = subst (DeltasUpTo d.rowset d.last_dms) (sym (append-nil base)) (deltas_at d.rowset d.last_dms names base at k.deltas);
    told = each_told (base ++ []) [] (base ++ []) refl (subst (λ (l : List Entry). UntoldFly l []) (sym (append-nil base)) (subst (λ (w : List Aloft). UntoldFly base w) calm log.untold));
    pass = pass (λ q. subst (HistPasses rules q) (tells q) (there_passes rules d.rowset names core.stores k.passes q));
    tells = λ q. subst (λ (h : Hist). IsAlone d.rowset h (by_name names (hists q core.stores))) (tells q) (alone_there q d.rowset d.last_dms names core.stores long k.named.differ at);
    sound = λ q. subst (AreSound core.a) (sym (hists_named names (hists q core.stores) (as_many q))) (stand_apart core q st).0.sound;
  }

  calm_names : named_writes core.aloft notes ≡ []
  calm_names = ap (λ (w : List Aloft). named_writes w notes) calm

  stands : IsRecovered rules core.work.fill new_super base [] core.c (with_records core.work.fill core.first run)
      × SuperStands rules core.work.fill new_super base [] (with_records core.work.fill core.first run) (with_stores live.stores live.names (without_deltas live.numbers) live)
  stands = rewritten_stands rules core.work.fill super core.a core.c durable d base core.c (with_records core.work.fill core.first run) live (subst (λ (l : List Entry). IsLog l) (sym (append-nil base)) log.log)
      (stands_now rules core super names notes records run places durable log st k all) calm_names rewrites lends (omega arith)

  pub rewritten_since : KeepsSince rules core new_super (next_dms d.rowset names) notes records run durable
  rewritten_since = record {
    since = run;
    rest = [];
    parts = sym (append-nil run);
    made = omega (arith, all);
    opened = (let s = log.since in omega arith);
    low = core.c;
    from = log.since;
    up = omega arith;
    last = log.last;
    mark = omega arith;
    clock = omega arith;
    named = later_named d super core.a core.c durable names at fits k.named;
    deltas = deltas_next d.rowset names base k.deltas;
    passes = k.passes;
    keeps = record {
      recovered = stands.0;
      writes = sym (past_is rules core super names notes records run places durable log st k all) ∙ k.keeps.writes;
      numbers = without_deltas k.keeps.numbers;
      stands = subst (λ (r : Resident). SuperStands rules core.work.fill new_super base [] (with_records core.work.fill core.first run) r) (sym (residents_same core names notes (without_deltas k.keeps.numbers) d.rowset)) stands.1;
    };
  }

-- ---- it goes out

module _ {L D C : Type 0} (log_tells : Bool) (log_seen : L → Files) (tells : Bool) (seen : D → Files) (now : D → ℕ) (leaves : D → ℕ → Files → Type 0) (faults : D → ℕ) (view : EngineView L D C) (is : IsStored log_tells log_seen tells seen faults view)
    (n : ℕ) (job : JobView) (d : RowSetData) (may : MayPublishDeltas tells seen now leaves view job d) (rise : AreRising (keys_in d.base.set.value.rows)) (few : job.dms < most_deltas view.first_rowset) (fits : job.dms + 1 < 2 ^ 64)
    (not_last : view.store.next_rowset ≢ 2 ^ 64 - 1) (settled : (view.log.out ≡ []) × (view.log.queued ≡ [])) (none : view.upkeep.publishing ≡ None) (inside : NoneOutside view.upkeep) (stands : (first : Past) → IsFound view first → Stands (core_from view first))
    (long : length view.tablet.names ≡ length view.tablet.core.stores) (upkeep : UpkeepsView) (had : job_of n view.upkeep ≡ Some job) (goes : IsLent n job (view.store.meta.number + 1) view.upkeep upkeep) where
  abbrev meta : Meta
  meta = delta_meta view job.dms d

  abbrev lent_job : JobView
  lent_job = record job { stage = Publishing; super = view.store.meta.number + 1 }

  abbrev entry : MetaRowset
  entry = meta_in job.dms d

  abbrev told : DiskRowset
  told = told_with job.dms d

  abbrev names : List Target
  names = view.tablet.names

  abbrev later : List Target
  later = next_dms d.number names

  abbrev went : EngineView L D C
  went = lent_deltas view n d.number meta upkeep

  -- it publishes from now on, and has no output of its own: the stores stay
  published_by : publisher upkeep ≡ Some lent_job
  published_by = ap (λ (p : Option ℕ). publisher_by p upkeep) goes.begun.1 ∙ ap (λ (u : UpkeepView). u.job) goes.upkeep.own

  none_over : over_in upkeep ≡ None
  none_over = ap (λ (p : Option ℕ). over_by p upkeep) goes.begun.1 ∙ ap over_of (ap (λ (u : UpkeepView). u.job) goes.upkeep.own) ∙ ap (λ (o : Option RowSetData). over_for o lent_job) may.output

  all : view.log.known.count ≡ length (view.records ++ is.run)
  all = let k = is.count in let o = ap (λ (l : List Entry). length (l ++ view.log.queued)) settled.0 in let p = ap (λ (l : List Entry). length l) settled.1 in omega arith

  tells_same : (q : List ℕ) → hist_in q (store_in_names d.number names view.tablet.core.stores) ≡ hist_in_files q told
  tells_same q = ap (hist_in q) (sym may.all.store) ∙ hist_told q job.dms d may.all.fresh

  module _ (rules : Rules) (first : Past) (content : IsContent rules view first) (plan : PlanPasses rules view.tablet.core.work) (t : IsTrue tells) where
    abbrev core : Core
    core = core_from view first

    abbrev held : List HeldFiles
    held = (is.holds t view.store.meta (inl refl)).0

    hold : HoldAll (seen view.store.known) view.store.meta.rowsets held
    hold = (is.holds t view.store.meta (inl refl)).1

    abbrev old : Super
    old = super_in view.store.meta held

    abbrev new : Super
    new = with_deltas old core.a core.c view.log.known.count told

    kept : (super : Super) (m : Meta) (one : IsOneOf view.store m) (files : List HeldFiles) → HoldAll (seen view.store.known) m.rowsets files → super ≡ super_in m files → KeepsSince rules core super names view.tablet.notes view.records is.run view.log.known.count
    kept super m one files hold same = to_plain rules core super names view.tablet.notes view.records is.run view.log.known.count view.tablet.frozen (over_at m.number (over view)) (plain view none m)
        (is.keeps rules first (record { closed = content.closed; opens = content.opens; holds = content.holds }) plan t super (record { meta = m; one = one; held = files; hold = hold; is = same }))

    pass : ((q : List ℕ) → HistPasses rules q (hist_in_files q told)) → RowsetPasses rules told
    pass each = rowset_passes rules told content.closed each (told_rises job.dms d rise) (told_fits job.dms d may.fits)
        (told_fit (seen view.store.known) Undo entry.undo d d.undo (may.hold t).undos) (told_fit (seen view.store.known) Redo entry.redo d d.redo (may.hold t).redos)

    rewritten : KeepsSince rules core new later view.tablet.notes view.records is.run view.log.known.count
    rewritten = rewritten_since rules core old names view.tablet.notes view.records is.run view.tablet.places view.log.known.count
        (record { log = is.stands.log; since = is.stands.since; last = is.stands.last; flying = is.stands.flying; untold = is.stands.untold }) (stands first content.opens) (kept old view.store.meta (inl refl) held hold refl) all may.calm long told may.all.name fits tells_same pass

    -- what its files tell is what it says
    says : (other : List HeldFiles) → HoldAll (seen view.store.known) meta.rowsets other → super_in meta other ≡ new
    says other its =
        let both = hold_in_place (seen view.store.known) entry (held_in d) view.store.meta.rowsets held (may.hold t) hold in
        ap (super_in meta) (all_one (seen view.store.known) meta.rowsets other (held_in_place entry (held_in d) view.store.meta.rowsets held) its both)
        ∙ ap (λ (rs : List DiskRowset). let s : Super = record { a = core.a; c = core.c; need = view.log.known.count; last_mem = view.store.meta.last_mem; rowsets = rs } in s)
        (rowsets_in_place (seen view.store.known) entry (held_in d) view.store.meta.rowsets held (may.hold t).number hold ∙ ap (λ (x : DiskRowset). replaced d.number x (rowsets_in view.store.meta.rowsets held)) (tells_it job.dms d))

    went_keeps : (super : Super) → (one : IsSuperOf seen went.store super) → KeepsSince rules (core_at went one.meta core) super (names_at went one.meta) view.tablet.notes view.records is.run view.log.known.count
    went_keeps super one =
        of_plain rules core super later view.tablet.notes view.records is.run view.log.known.count view.tablet.frozen (over_at one.meta.number (over went)) (ap (over_at one.meta.number) none_over) (
        elim one.one [
          | inl was ↦ next_names_since rules core super names view.tablet.notes view.records is.run view.log.known.count d.number job.dms may.all.name fits (kept super one.meta (inl was) one.held one.hold one.is)
          | inr lent ↦ (
              let same : one.meta ≡ meta = (let e : Some meta ≡ Some one.meta = lent in cc) in
              let its = subst (λ (m : Meta). HoldAll (seen view.store.known) m.rowsets one.held) same one.hold in
              subst (λ (s : Super). KeepsSince rules core s later view.tablet.notes view.records is.run view.log.known.count) (sym (one.is ∙ ap (λ (m : Meta). super_in m one.held) same ∙ says one.held its)) rewritten
              )
        ]
        )

  active_same : first_number later ≡ first_number names
  active_same = first_same d.number names

  pub deltas_lent : IsStored log_tells log_seen tells seen faults went
  deltas_lent = record {
    run = is.run;
    all = is.all;
    count = is.count;
    stands = record { log = is.stands.log; since = is.stands.since; last = is.stands.last; flying = is.stands.flying; untold = is.stands.untold };
    keeps = λ rules first content plan t super one. went_keeps rules first (record { closed = content.closed; opens = content.opens; holds = content.holds }) plan t super one;
    below = subst (λ (a : ℕ). RecordsBelow (record { next = next_given view.store.next_rowset; active = a; deltas = [] }) (view.records ++ is.run)) (sym active_same) is.below;
    names_below = subst (λ (a : ℕ). StoresBelow (record { next = next_given view.store.next_rowset; active = a; deltas = [] }) (map name_of later)) (sym active_same)
        (subst (λ (l : List Name). StoresBelow (numbers_of view) l) (sym (names_same d.number names)) is.names_below);
    near = subst (λ (k : ℕ). AreNear view.found later view.first_rowset view.store.next_rowset k is.run) (sym goes.begun.0)
        (near_next view.found view.first_rowset view.store.next_rowset view.upkeep.begun d.number job.dms names is.run may.all.name
        (let low = rowset_below (numbers_of view) d.number job.dms names may.all.name is.names_below in let same = given_same view.store.next_rowset not_last in omega arith) few is.near);
    files_near = is.files_near;
    room = is.room;
    rests = inr may.calm;
    jobs = jobs_kept (view.records ++ is.run) n _ view.upkeep upkeep goes.upkeep (λ own same. still_on own same) is.jobs;
    outside = λ k j at out. absurd (none_kept n _ view.upkeep upkeep goes.upkeep its_stage inside k j at out);
    holds = λ t m one. elim one [
      | inl was ↦ is.holds t m (inl was)
      | inr lent ↦ (
          let same : m ≡ meta = (let e : Some meta ≡ Some m = lent in cc) in
          let found = is.holds t view.store.meta (inl refl) in
          subst (λ (o : Meta). (other : List HeldFiles) × HoldAll (seen view.store.known) o.rowsets other) (sym same)
          (held_in_place entry (held_in d) view.store.meta.rowsets found.0, hold_in_place (seen view.store.known) entry (held_in d) view.store.meta.rowsets found.0 (may.hold t) found.1)
          )
    ];
    files = λ m one. subst (AreFiled tells (seen view.store.known) m.rowsets) (sym (ap (λ (o : Option JobView). files_over (job_at m.number o) view.tablet.files) published_by)) (files_told m one);
    columns = λ m lent. let same : m ≡ meta = (let e : Some meta ≡ Some m = lent in cc) in ap (λ (o : Meta). o.schema) same;
    mark = is.mark;
    marked = of_each (λ (o : Meta). IsMarkOf view.tablet.mark view.tablet.core.trail o.a) went.store (is.marked view.store.meta (inl refl)) (λ m lent. let same : m ≡ meta = (let e : Some meta ≡ Some m = lent in cc) in subst (λ (o : Meta). IsMarkOf view.tablet.mark view.tablet.core.trail o.a) (sym same) is.mark);
    clock = of_each (λ (o : Meta). o.c ≤ view.tablet.core.c) went.store (is.clock view.store.meta (inl refl)) (λ m lent. let same : m ≡ meta = (let e : Some meta ≡ Some m = lent in cc) in subst (λ (o : Meta). o.c ≤ view.tablet.core.c) (sym same) (omega arith));
    low = of_each (λ (o : Meta). o.a ≤ view.tablet.core.a) went.store (is.low view.store.meta (inl refl)) (λ m lent. let same : m ≡ meta = (let e : Some meta ≡ Some m = lent in cc) in subst (λ (o : Meta). o.a ≤ view.tablet.core.a) (sym same) (omega arith));
    later = is.later;
    home = λ disk at. absurd (let no : None ≡ Some disk = at in cc);
  }
    where
      -- the published superblock is told of the files that memory has, and its own of those that were written
      files_told : (m : Meta) → IsOneOf went.store m → AreFiled tells (seen view.store.known) m.rowsets (files_over (job_at m.number (Some lent_job)) view.tablet.files)
      files_told m (inl was) =
          let lower : m.number < view.store.meta.number + 1 = (let e = ap (λ (o : Meta). o.number) was in omega arith) in
          subst (AreFiled tells (seen view.store.known) m.rowsets) (sym (ap (λ (o : Option JobView). files_over o view.tablet.files) (before_job m.number lent_job lower)))
          (filed_now log_tells log_seen tells seen faults view is none m (inl was))
      files_told m (inr lent) =
          let same : m ≡ meta = (let e : Some meta ≡ Some m = lent in cc) in
          let up : view.store.meta.number + 1 ≤ m.number = (let e = ap (λ (o : Meta). o.number) same in omega arith) in
          let now : AreFiled tells (seen view.store.known) meta.rowsets (with_files (held_in d) view.tablet.files) =
          filed_in_place tells (seen view.store.known) view.store.meta.rowsets view.tablet.files job.dms d may.hold (filed_now log_tells log_seen tells seen faults view is none view.store.meta (inl refl)) in
          subst (AreFiled tells (seen view.store.known) m.rowsets)
          (sym (ap (λ (o : Option JobView). files_over o view.tablet.files) (own_job m.number lent_job up) ∙ ap (λ (o : Option RowSetData). files_by o (takes_of job) job.held view.tablet.files) may.output))
          (subst (λ (o : Meta). AreFiled tells (seen view.store.known) o.rowsets (with_files (held_in d) view.tablet.files)) (sym same) now)

      its_stage : (own : JobView) → Some lent_job ≡ Some own → is_at_outside own.stage ≡ false
      its_stage own same = let e : lent_job ≡ own = cc in sym (ap (λ (j : JobView). is_at_outside j.stage) e)

      -- its job is on as it was
      still_on : (own : JobView) → Some lent_job ≡ Some own → JobOn (view.records ++ is.run) own
      still_on own same =
          let on = is.jobs n job had in
          let e : lent_job ≡ own = cc in
          subst (λ (j : JobView). JobOn (view.records ++ is.run) j) e (record { many = on.many; names = on.names })

-- ---- the engine with its other names

pub next_names_keeps : {L D C : Type 0} (tells : Bool) (seen : L → Files) (now : L → ℕ) (leaves : L → ℕ → Files → Type 0) (faults : L → ℕ) (view : EngineView L D C) (r n : ℕ) → view.upkeep.begun ≢ 0 → dms_in r view.tablet.names ≡ Some n → n + 1 < 2 ^ 64
    → IsEngine tells seen now leaves faults view → IsEngine tells seen now leaves faults (record view { tablet = record view.tablet { names = next_dms r view.tablet.names } })
next_names_keeps tells seen now leaves faults view r n some at fits is = record {
  logged = record {
    run = is.logged.run;
    all = is.logged.all;
    count = is.logged.count;
    begins = is.logged.begins;
    stands = record { log = is.logged.stands.log; since = is.logged.stands.since; last = is.logged.stands.last; flying = is.logged.stands.flying; untold = is.logged.stands.untold };
    keeps = λ rules first content plan none. absurd (some none);
    names = λ none. absurd (some none);
    framed = is.logged.framed;
    durable = is.logged.durable;
    acknowledged = is.logged.acknowledged;
  };
  home = λ journal h.
      let home = is.home journal h in
      record { opens = home.opens; others = home.others; later = home.later; known = home.known; rose = home.rose; images = home.images };
  others = is.others;
  lent = is.lent;
  whole = is.whole;
  stops = record { goes = is.stops.goes; stopped = is.stops.stopped };
  ready = record { room = is.ready.room; apart = is.ready.apart; spelled = spelled_next r n view.tablet.names at fits is.ready.spelled; shelved = shelved_same r (suc view.tablet.frozen) (2 ^ 64) view.tablet.names is.ready.shelved; named = λ none. absurd (some none) };
  placed = is.placed;
}

-- both, as they go out
pub deltas_out : {L D C : Type 0} (log_tells : Bool) (log_seen : L → Files) (log_now : L → ℕ) (log_leaves : L → ℕ → Files → Type 0) (log_faults : L → ℕ) (tells : Bool) (seen : D → Files) (now : D → ℕ) (leaves : D → ℕ → Files → Type 0) (faults : D → ℕ) (view : EngineView L D C)
    → IsEngine log_tells log_seen log_now log_leaves log_faults view × IsStored log_tells log_seen tells seen faults view → (n : ℕ) (job : JobView) (d : RowSetData) (may : MayPublishDeltas tells seen now leaves view job d) → AreRising (keys_in d.base.set.value.rows)
    → job.dms < most_deltas view.first_rowset → job.dms + 1 < 2 ^ 64 → view.store.next_rowset ≢ 2 ^ 64 - 1 → (view.log.out ≡ []) × (view.log.queued ≡ []) → view.upkeep.publishing ≡ None → NoneOutside view.upkeep → ((first : Past) → IsFound view first → Stands (core_from view first))
    → length view.tablet.names ≡ length view.tablet.core.stores → (upkeep : UpkeepsView) → job_of n view.upkeep ≡ Some job → IsLent n job (view.store.meta.number + 1) view.upkeep upkeep → (tablet : View C) (store : StoreView D)
    → tablet ≡ record view.tablet { names = next_dms d.number view.tablet.names } → store ≡ record view.store { home = None; holder = Some n; lent = Some (delta_meta view job.dms d) }
    → IsEngine log_tells log_seen log_now log_leaves log_faults (record view { tablet = tablet; store = store; upkeep = upkeep }) × IsStored log_tells log_seen tells seen faults (record view { tablet = tablet; store = store; upkeep = upkeep })
deltas_out {L} {D} {C} log_tells log_seen log_now log_leaves log_faults tells seen now leaves faults view is n job d may rise few fits not_last settled none inside stands long upkeep had goes tablet store is_tablet is_store =
    subst (λ (t : View C). IsEngine log_tells log_seen log_now log_leaves log_faults (record view { tablet = t; store = store; upkeep = upkeep }) × IsStored log_tells log_seen tells seen faults (record view { tablet = t; store = store; upkeep = upkeep })) (sym is_tablet)
    (subst (λ (s : StoreView D). IsEngine log_tells log_seen log_now log_leaves log_faults (record view { tablet = record view.tablet { names = next_dms d.number view.tablet.names }; store = s; upkeep = upkeep })
    × IsStored log_tells log_seen tells seen faults (record view { tablet = record view.tablet { names = next_dms d.number view.tablet.names }; store = s; upkeep = upkeep })) (sym is_store) (
      upkeep_keeps log_tells log_seen log_now log_leaves log_faults
          (record view { tablet = record view.tablet { names = next_dms d.number view.tablet.names }; store = record view.store { home = None; holder = Some n; lent = Some (delta_meta view job.dms d) } }) upkeep (λ zero_. sym goes.begun.0 ∙ zero_)
          (store_keeps log_tells log_seen log_now log_leaves log_faults (record view { tablet = record view.tablet { names = next_dms d.number view.tablet.names } }) (record view.store { home = None; holder = Some n; lent = Some (delta_meta view job.dms d) }) refl
          (next_names_keeps log_tells log_seen log_now log_leaves log_faults view d.number job.dms may.begun may.all.name fits is.0)),
      deltas_lent log_tells log_seen tells seen now leaves faults view is.1 n job d may rise few fits not_last settled none inside stands long upkeep had goes,
    ))

-- the same of the number and the superblock as they are handed on
pub deltas_out_as : {L D C : Type 0} (log_tells : Bool) (log_seen : L → Files) (log_now : L → ℕ) (log_leaves : L → ℕ → Files → Type 0) (log_faults : L → ℕ) (tells : Bool) (seen : D → Files) (now : D → ℕ) (leaves : D → ℕ → Files → Type 0) (faults : D → ℕ) (view : EngineView L D C)
    → IsEngine log_tells log_seen log_now log_leaves log_faults view × IsStored log_tells log_seen tells seen faults view → (n : ℕ) (job : JobView) (d : RowSetData) (may : MayPublishDeltas tells seen now leaves view job d) (r : ℕ) (m : Meta) → m ≡ delta_meta view job.dms d → r ≡ d.number
    → job.dms < most_deltas view.first_rowset → AreRising (keys_in d.base.set.value.rows) → (k : ℕ) × (dms_in r view.tablet.names ≡ Some k) × (k + 1 < 2 ^ 64) → view.store.next_rowset ≢ 2 ^ 64 - 1 → (view.log.out ≡ []) × (view.log.queued ≡ []) → view.upkeep.publishing ≡ None → NoneOutside view.upkeep
    → ((first : Past) → IsFound view first → Stands (core_from view first)) → length view.tablet.names ≡ length view.tablet.core.stores → (upkeep : UpkeepsView) → job_of n view.upkeep ≡ Some job → IsLent n job m.number view.upkeep upkeep → (tablet : View C) (store : StoreView D)
    → tablet ≡ record view.tablet { names = next_dms r view.tablet.names } → store ≡ record view.store { home = None; holder = Some n; lent = Some m }
    → IsEngine log_tells log_seen log_now log_leaves log_faults (record view { tablet = tablet; store = store; upkeep = upkeep }) × IsStored log_tells log_seen tells seen faults (record view { tablet = tablet; store = store; upkeep = upkeep })
deltas_out_as {L} {D} {C} log_tells log_seen log_now log_leaves log_faults tells seen now leaves faults view is n job d may r m meta_is number_is few rise there not_last settled none inside stands long upkeep had goes tablet store is_tablet is_store =
    let here : dms_in d.number view.tablet.names ≡ Some there.0 = subst (λ (k : ℕ). dms_in k view.tablet.names ≡ Some there.0) number_is there.1 in
    let same : there.0 ≡ job.dms = (let other = may.all.name in cc) in
    deltas_out log_tells log_seen log_now log_leaves log_faults tells seen now leaves faults view is n job d may rise few (subst (λ (k : ℕ). k + 1 < 2 ^ 64) same there.2) not_last settled none inside stands long upkeep had (subst (λ (k : ℕ). IsLent n job k view.upkeep upkeep) (ap (λ (x : Meta). x.number) meta_is) goes) tablet store
    (is_tablet ∙ ap (λ (k : ℕ). record view.tablet { names = next_dms k view.tablet.names }) number_is) (is_store ∙ ap (λ (x : Meta). record view.store { home = None; holder = Some n; lent = Some x }) meta_is)
