-- The superblock of a job goes out, a flush's or a compaction's: it stands over the stores that the tablet has once the job is over.
use Rattle.std.proofs.Common.{◌≡◌, ◌≢◌, ℕ, suc, ◌<◌, ◌≤◌, ◌+◌, ◌^◌, Bool, false, cond, List, [], ◌∷◌, ◌++◌, length, map, take, drop, Option, Some, None, refl, sym, ap, ◌∙◌, subst, arith, inl, inr, length-append}
use Rattle.std.specs.Prelude.{◌==◌, true, false, IsTrue}
use Rattle.std.proofs.lemmas.Bool.{le-leb, eqb-true}
use Rattle.std.proofs.lemmas.List.{take_all, take-append-drop}
use Rattle.kt_disk.specs.Disk.{Files}
use Rattle.kt_history.specs.declared.target.Target.{Target}
use Rattle.kt_history.specs.declared.target.Target.TheVariants.{Mem, Delta}
use Rattle.kt_history.specs.History.{Past}
use Rattle.kt_history.specs.Stores.{Store}
use Rattle.kt_records.specs.declared.entry.Entry.{Entry}
use Rattle.kt_histlaws.specs.Core.{Core, Stands}
use Rattle.kt_rowfiles.specs.Files.{DiskRowset, hist_in_files}
use Rattle.kt_super.specs.declared.meta.Meta.{Meta}
use Rattle.kt_diskrowset.specs.declared.data.RowSetData.{RowSetData}
use Rattle.kt_diskrowset.specs.Rowset.{HeldFiles}
use Rattle.kt_files.specs.Reading.{HoldAll}
use Rattle.kt_files.proofs.OneHolding.{all_one}
use Rattle.kt_content.specs.Places.{Super}
use Rattle.kt_content.specs.Rules.{Rules, RowsetsPass}
use Rattle.kt_content.specs.RunEvents.{RecordsBelow, RowsetsBelow, StoresBelow}
use Rattle.kt_content.specs.Flushes.{flushed, before}
use Rattle.kt_histlaws.specs.Histories.{hists}
use Rattle.kt_histlaws.specs.Jobs.{AreAlike}
use Rattle.kt_joblaws.specs.Compacts.{left_rowsets, compacted}
use Rattle.kt_joblaws.proofs.Passed.{hists_pass}
use Rattle.kt_reopen.specs.Both.{super_in}
use Rattle.kt_storeside.specs.Sides.{StoreView, IsSide}
use Rattle.kt_stores.specs.Takes.{Takes, mems, rowsets, of_taken, of_left, files_left, over_to}
use Rattle.kt_tablet.specs.Jobs.{frozen_names, taken_stores}
use Rattle.kt_tablet.specs.Views.{View}
use Rattle.kt_pick.specs.declared.rules.Want.{Want}
use Rattle.kt_pick.specs.declared.rules.Want.TheVariants as want
use Rattle.kt_engine.specs.Memory.{name_of, AreNamed, IsNamed}
use Rattle.kt_engine.specs.Logged.{PlanPasses, KeepsSince}
use Rattle.kt_engine.specs.Outside.{is_at_outside}
use Rattle.kt_engine.specs.Over.{Over, bare_store, first_name, over_at, core_over, names_over, AreLeft, AreLow, AreShelved}
use Rattle.kt_engine.specs.Engines.{EngineView, IsContent, IsFound, core_from}
use Rattle.kt_engine.specs.Jobs.{JobView, UpkeepView, UpkeepsView, JobOn, job_of, over_for, over_of, over_by, over_in, takes_by, takes_of}
use Rattle.kt_engine.specs.Files.{AreFiled, publisher, publisher_by, job_at, files_by, files_over}
use Rattle.kt_engine.specs.JobMeta.{left_metas, metas_left, with_takes}
use Rattle.kt_engine.specs.Near.{AreNear, first_number}
use Rattle.kt_engine.specs.Stored.{IsOneOf, IsMarkOf, IsSuperOf, IsStored, over, job_meta, next_super, numbers_of}
use Rattle.kt_engine.specs.declared.upkeep.Stage.TheVariants.{Publishing}
use Rattle.kt_engine.specs.JobSteps.{MayPublishJob, HoldInputs, IsLent, outputs_of, AreUpTo, TakesFrozen, TakesRowsets, TakesBy}
use Rattle.kt_engine.proofs.Filed.{filed_over, before_job, own_job}
use Rattle.kt_engine.proofs.Compacted.{CompactKnows, compaction_since, rowsets_some}
use Rattle.kt_engine.proofs.Flushed.{FlushKnows, flush_since}
use Rattle.kt_engine.proofs.Jobs.{before_over, later_over, hold_both, hold_left, left_held, rowsets_of_both, rowsets_left, meta_below, names_split, names_first, stores_split, stores_first, frozen_long, over_below, over_named, left_named, some_named, some_below, some_differ, first_differs, low_left, low_shelved, low_some, each_behind, take_of, taken_of, first_above}
use Rattle.kt_engine.proofs.Lists.{all_head, all_tail}
use Rattle.kt_engine.proofs.Shelved.{names_behind}
use Rattle.kt_engine.proofs.Marks.{of_each}
use Rattle.kt_engine.proofs.Outsiders.{NoneOutside, none_kept}
use Rattle.kt_engine.proofs.Stored.{to_plain, of_plain, plain, filed_now}
use Rattle.kt_engine.proofs.Upkeeps.{jobs_kept}

-- what a flush leaves: all but the frozen MemRowSets
rowsets_stay : {A : Type 0} (last next : ℕ) (names : List Target) (xs : List A) → AreLeft next names → length names ≡ length xs → of_left (mems last) names xs ≡ xs
rowsets_stay last next [] [] left e = refl
rowsets_stay last next [] (x ∷ xs) left e = absurd (omega arith)
rowsets_stay last next (Mem n ∷ names) xs left e = absurd left
rowsets_stay last next (Delta r n ∷ names) [] left e = absurd (omega arith)
rowsets_stay last next (Delta r n ∷ names) (x ∷ xs) left e = ap (λ (l : List _). x ∷ l) (rowsets_stay last next names xs left.1 (omega arith))

mems_leave : {A : Type 0} (last next : ℕ) (frozen others : List Target) (xs ys : List A) → AreUpTo last frozen → AreLeft next others → length frozen ≡ length xs → length others ≡ length ys → of_left (mems last) (frozen ++ others) (xs ++ ys) ≡ ys
mems_leave last next [] others [] ys up left e f = rowsets_stay last next others ys left f
mems_leave last next [] others (x ∷ xs) ys up left e f = absurd (omega arith)
mems_leave last next (Mem n ∷ frozen) others [] ys up left e f = absurd (omega arith)
mems_leave last next (Mem n ∷ frozen) others (x ∷ xs) ys up left e f =
    ap (λ (b : Bool). cond b (of_left (mems last) (frozen ++ others) (xs ++ ys)) (x ∷ of_left (mems last) (frozen ++ others) (xs ++ ys))) (le-leb n last up.0) ∙ mems_leave last next frozen others xs ys up.1 left (omega arith) f
mems_leave last next (Delta r n ∷ frozen) others xs ys up left e f = absurd up

-- a compaction takes some
pub by_some : (taken : List ℕ) (last : ℕ) → taken ≢ [] → takes_by taken last ≡ rowsets taken
by_some [] last some = absurd (some refl)
by_some (r ∷ taken) last some = refl

pub none_in : (taken : List ℕ) → (length taken == 0) ≡ true → taken ≡ []
none_in [] e = refl
none_in (r ∷ taken) e = absurd (let is = eqb-true (length (r ∷ taken)) 0 e in omega arith)

pub some_in : (taken : List ℕ) → (length taken == 0) ≡ false → taken ≢ []
some_in taken e none = absurd (let no : true ≡ false = sym (ap (λ (l : List ℕ). length l == 0) none) ∙ e in cc)

-- a superblock without what a job takes, and with its outputs
abbrev super_over : Takes → Super → ℕ → ℕ → ℕ → List DiskRowset → Super
super_over (mems last) old a c need outputs = flushed old a c need last outputs
super_over (rowsets taken) old a c need outputs = compacted (take_of taken) old a c need outputs

-- what it takes is what is frozen
rowsets_left_out : {A : Type 0} (last next : ℕ) (names : List Target) (xs : List A) → AreLeft next names → of_taken (mems last) names xs ≡ []
rowsets_left_out last next [] xs left = refl
rowsets_left_out last next (Mem n ∷ names) xs left = absurd left
rowsets_left_out last next (Delta r n ∷ names) [] left = refl
rowsets_left_out last next (Delta r n ∷ names) (x ∷ xs) left = rowsets_left_out last next names xs left.1

pub mems_taken : {A : Type 0} (last next : ℕ) (frozen others : List Target) (xs ys : List A) → AreUpTo last frozen → AreLeft next others → length frozen ≡ length xs → of_taken (mems last) (frozen ++ others) (xs ++ ys) ≡ xs
mems_taken last next [] others [] ys up left e = rowsets_left_out last next others ys left
mems_taken last next [] others (x ∷ xs) ys up left e = absurd (omega arith)
mems_taken last next (Mem n ∷ frozen) others [] ys up left e = absurd (omega arith)
mems_taken last next (Mem n ∷ frozen) others (x ∷ xs) ys up left e =
    ap (λ (b : Bool). cond b (x ∷ of_taken (mems last) (frozen ++ others) (xs ++ ys)) (of_taken (mems last) (frozen ++ others) (xs ++ ys))) (le-leb n last up.0) ∙ ap (λ (l : List _). x ∷ l) (mems_taken last next frozen others xs ys up.1 left (omega arith))
mems_taken last next (Delta r n ∷ frozen) others xs ys up left e = absurd up

pub frozen_are_taken : {C : Type 0} (tablet : View C) (last next : ℕ) → AreUpTo last (frozen_names tablet) → AreLeft next (drop tablet.frozen (drop 1 tablet.names)) → length tablet.names ≡ length tablet.core.stores → taken_stores (mems last) tablet ≡ take tablet.frozen (drop 1 tablet.core.stores)
frozen_are_taken tablet last next up left long =
    ap (λ (ns : List Target). of_taken (mems last) ns (drop 1 tablet.core.stores)) (sym (take-append-drop tablet.frozen (drop 1 tablet.names)))
    ∙ ap (of_taken (mems last) (frozen_names tablet ++ drop tablet.frozen (drop 1 tablet.names))) (sym (take-append-drop tablet.frozen (drop 1 tablet.core.stores)))
    ∙ mems_taken last next (frozen_names tablet) (drop tablet.frozen (drop 1 tablet.names)) (take tablet.frozen (drop 1 tablet.core.stores)) (drop tablet.frozen (drop 1 tablet.core.stores)) up left (frozen_long tablet.frozen tablet.names tablet.core.stores long)

some_shelved : (many high : ℕ) (names : List Target) → AreShelved (suc many) high names → 0 < length names
some_shelved many high [] are = absurd are
some_shelved many high (n ∷ names) are = omega arith

-- a first number is of some names
some_names : (names : List Target) (n : ℕ) → n < first_number names → 0 < length names
some_names [] n lt = absurd (omega arith)
some_names (t ∷ names) n lt = omega arith

module _ {L D C : Type 0} (log_tells : Bool) (log_seen : L → Files) (tells : Bool) (seen : D → Files) (now : D → ℕ) (leaves : D → ℕ → Files → Type 0) (faults : D → ℕ) (view : EngineView L D C) (is : IsStored log_tells log_seen tells seen faults view)
    (side : IsSide tells seen now leaves faults view.store) (n : ℕ) (job : JobView) (upkeep : UpkeepsView) (had : job_of n view.upkeep ≡ Some job) (may : MayPublishJob tells seen now leaves view job)
    (settled : (view.log.out ≡ []) × (view.log.queued ≡ [])) (none : view.upkeep.publishing ≡ None) (inside : NoneOutside view.upkeep) (stands : (first : Past) → IsFound view first → Stands (core_from view first)) (long : length view.tablet.names ≡ length view.tablet.core.stores)
    (shelved : AreShelved (suc view.tablet.frozen) (2 ^ 64) view.tablet.names)
    (goes : IsLent n job (view.store.meta.number + 1) view.upkeep upkeep) where
  abbrev meta : Meta
  meta = job_meta view job

  abbrev outputs : List DiskRowset
  outputs = outputs_of job

  abbrev its_over : Over
  its_over = record { number = view.store.meta.number + 1; takes = takes_of job; outputs = outputs }

  abbrev went : EngineView L D C
  went = record view { store = record view.store { home = None; holder = Some n; lent = Some meta }; upkeep = upkeep }

  -- from now on its outputs stand beside
  publishes : over_in upkeep ≡ Some its_over
  publishes =
      ap (λ (p : Option ℕ). over_by p upkeep) goes.begun.1 ∙ ap over_of (ap (λ (u : UpkeepView). u.job) goes.upkeep.own)
      ∙ ap (λ (o : Option RowSetData). over_for o (record job { stage = Publishing; super = view.store.meta.number + 1 })) may.output

  published_by : publisher upkeep ≡ Some (record job { stage = Publishing; super = view.store.meta.number + 1 })
  published_by = ap (λ (p : Option ℕ). publisher_by p upkeep) goes.begun.1 ∙ ap (λ (u : UpkeepView). u.job) goes.upkeep.own

  all : view.log.known.count ≡ length (view.records ++ is.run)
  all = let k = is.count in let o = ap (λ (l : List Entry). length (l ++ view.log.queued)) settled.0 in let p = ap (λ (l : List Entry). length l) settled.1 in omega arith

  -- the records are those that the log had as it began
  recorded : RecordsBelow (before job.first_rowset job.last_mem) (view.records ++ is.run)
  recorded =
      let on = is.jobs n job had in
      subst (RecordsBelow (before job.first_rowset job.last_mem)) (take_all job.many (view.records ++ is.run) (let k = is.count in let m = may.takes.many in omega arith)) on.names

  module _ (rules : Rules) (first : Past) (content : IsContent rules view first) (plan : PlanPasses rules view.tablet.core.work) (t : IsTrue tells) where
    abbrev core : Core
    core = core_from view first

    abbrev held : List HeldFiles
    held = (is.holds t view.store.meta (inl refl)).0

    hold : HoldAll (seen view.store.known) view.store.meta.rowsets held
    hold = (is.holds t view.store.meta (inl refl)).1

    abbrev old : Super
    old = super_in view.store.meta held

    abbrev new : Super
    new = super_over (takes_of job) old core.a core.c view.log.known.count outputs

    kept : KeepsSince rules core old view.tablet.names view.tablet.notes view.records is.run view.log.known.count
    kept = to_plain rules core old view.tablet.names view.tablet.notes view.records is.run view.log.known.count view.tablet.frozen (over_at view.store.meta.number (over view)) (plain view none view.store.meta)
        (is.keeps rules first (record { closed = content.closed; opens = content.opens; holds = content.holds }) plan t old (record { meta = view.store.meta; one = inl refl; held = held; hold = hold; is = refl }))

    abbrev active : ℕ
    active = first_number view.tablet.names

    abbrev others : List Target
    others = drop view.tablet.frozen (drop 1 view.tablet.names)

    passes : RowsetsPass rules outputs
    passes = may.passes t rules first (record { closed = content.closed; opens = content.opens; holds = content.holds }) plan

    holds : HoldInputs view.tablet (takes_of job) outputs
    holds = may.holds first content.opens

    below : RowsetsBelow (before job.first_rowset job.last_mem) old.rowsets
    below = meta_below (seen view.store.known) view.store.meta.next_rowset job.first_rowset view.store.meta.next_file 0 job.last_mem [] view.store.meta.rowsets held side.rules.rowsets may.takes.below hold

    -- all its names lie below its next numbers
    behind_below : StoresBelow (numbers_of view) (map name_of (drop 1 view.tablet.names))
    behind_below = names_behind (numbers_of view) 1 view.tablet.names is.names_below

    -- the superblock of a job that takes these stands over the stores that it leaves
    abbrev StandsOver : Takes → Type 0
    StandsOver takes = KeepsSince rules (record core { stores = over_to takes (map bare_store outputs) view.tablet.names core.stores }) (super_over takes old core.a core.c view.log.known.count outputs) (over_to takes (map first_name outputs) view.tablet.names view.tablet.names)
        view.tablet.notes view.records is.run view.log.known.count

    -- ---- a flush

    module _ (frozen : TakesFrozen view job) where
      some : 0 < length view.tablet.core.stores
      some = let low = some_names view.tablet.names job.last_mem frozen.first in omega (arith, long)

      split : view.tablet.names ≡ Mem active ∷ frozen_names view.tablet ++ others
      split = names_split view.tablet.names job.last_mem view.tablet.frozen kept.named.first frozen.first

      abbrev frozen_stores : List Store
      frozen_stores = take view.tablet.frozen (drop 1 view.tablet.core.stores)

      abbrev other_stores : List Store
      other_stores = drop view.tablet.frozen (drop 1 view.tablet.core.stores)

      stores_are : view.tablet.core.stores ≡ [] ∷ frozen_stores ++ other_stores
      stores_are = stores_split view.tablet.core.stores view.tablet.frozen some frozen.vacant

      named : AreNamed old (Mem active ∷ frozen_names view.tablet ++ others)
      named = subst (AreNamed old) split kept.named

      frozen_as_long : length (frozen_names view.tablet) ≡ length frozen_stores
      frozen_as_long = frozen_long view.tablet.frozen view.tablet.names view.tablet.core.stores long

      others_long : length others ≡ length other_stores
      others_long =
          let a = ap length split in let b = length-append (frozen_names view.tablet) others in
          let c = ap length stores_are in let d = length-append frozen_stores other_stores in
          omega (arith, long, frozen_as_long)

      takes_is : takes_of job ≡ mems job.last_mem
      takes_is = ap (λ (taken : List ℕ). takes_by taken job.last_mem) frozen.none

      -- what it takes is what is frozen
      taken_is : taken_stores (takes_of job) view.tablet ≡ frozen_stores
      taken_is = ap (λ (t : Takes). taken_stores t view.tablet) takes_is ∙ frozen_are_taken view.tablet job.last_mem job.first_rowset frozen.frozen may.takes.left long

      knows : FlushKnows rules core old view.tablet.names (view.records ++ is.run) job.last_mem job.first_rowset view.store.next_rowset active core.a outputs
      knows = record {
        taken = frozen_names view.tablet;
        others = others;
        taken_stores = frozen_stores;
        other_stores = other_stores;
        names_are = split;
        stores_are = stores_are;
        long = frozen_as_long;
        beside = others_long;
        are_taken = taken_of old active job.last_mem (frozen_names view.tablet) others named frozen.frozen;
        are_left = may.takes.left;
        later = (first_above old active (frozen_names view.tablet ++ others) named, frozen.first);
        calm = may.calm;
        rowsets = below;
        from = may.from;
        differ = may.differ;
        up = may.up.0;
        below = may.given;
        recorded = recorded;
        left_below = over_below (numbers_of view) view.store.next_rowset active job.first_rowset job.last_mem outputs others may.up.0 refl may.given (low_left job.first_rowset others may.takes.left)
            (names_behind (numbers_of view) view.tablet.frozen (drop 1 view.tablet.names) behind_below);
        passes = passes;
        alike = λ q. subst (λ (ss : List Store). AreAlike core.a (hists q ss) (map (hist_in_files q) outputs)) taken_is (holds.alike q);
        sound = holds.sound;
        mark = omega arith;
        outputs_pass = λ q. hists_pass rules content.closed q outputs passes;
      }

      -- what stands once the job is over
      over_is : {A : Type 0} (come : List A) (first : A) (xs ys : List A) → length (frozen_names view.tablet) ≡ length xs → length others ≡ length ys → over_to (mems job.last_mem) come view.tablet.names (first ∷ xs ++ ys) ≡ first ∷ ys ++ come
      over_is come first xs ys e f =
          ap (λ (ns : List Target). over_to (mems job.last_mem) come ns (first ∷ xs ++ ys)) split
          ∙ ap (λ (l : List _). first ∷ l ++ come) (mems_leave job.last_mem job.first_rowset (frozen_names view.tablet) others xs ys frozen.frozen may.takes.left e f)

      stores_over_is : over_to (mems job.last_mem) (map bare_store outputs) view.tablet.names core.stores ≡ [] ∷ other_stores ++ map bare_store outputs
      stores_over_is = ap (over_to (mems job.last_mem) (map bare_store outputs) view.tablet.names) stores_are ∙ over_is (map bare_store outputs) [] frozen_stores other_stores frozen_as_long others_long

      names_over_is : over_to (mems job.last_mem) (map first_name outputs) view.tablet.names view.tablet.names ≡ Mem active ∷ others ++ map first_name outputs
      names_over_is = ap (over_to (mems job.last_mem) (map first_name outputs) view.tablet.names) split ∙ over_is (map first_name outputs) (Mem active) (frozen_names view.tablet) others refl refl

      flush : StandsOver (mems job.last_mem)
      unfolding knows
      flush =
          subst (λ (ss : List Store). KeepsSince rules (record core { stores = ss }) (flushed old core.a core.c view.log.known.count job.last_mem outputs) (over_to (mems job.last_mem) (map first_name outputs) view.tablet.names view.tablet.names) view.tablet.notes view.records is.run view.log.known.count)
          (sym stores_over_is)
          (subst (λ (ns : List Target). KeepsSince rules (record core { stores = [] ∷ other_stores ++ map bare_store outputs }) (flushed old core.a core.c view.log.known.count job.last_mem outputs) ns view.tablet.notes view.records is.run view.log.known.count) (sym names_over_is)
          (flush_since rules core old view.tablet.names view.tablet.notes view.records is.run view.tablet.places view.log.known.count
          (record { log = is.stands.log; since = is.stands.since; last = is.stands.last; flying = is.stands.flying; untold = is.stands.untold }) (stands first content.opens) kept all job.last_mem job.first_rowset view.store.next_rowset active core.a outputs knows
          (over_named core.a core.c view.log.known.count job.last_mem job.last_mem job.first_rowset view.store.next_rowset old.rowsets outputs below may.first_dms may.up.1 active others
          (frozen.first, (all_head (IsNamed old) (Mem active) (frozen_names view.tablet ++ others) named.each).1)
          (left_named old core.a core.c view.log.known.count job.last_mem job.first_rowset outputs others may.takes.left (each_behind (IsNamed old) (frozen_names view.tablet) others (all_tail (IsNamed old) (Mem active) (frozen_names view.tablet ++ others) named.each)))
          (first_differs active (frozen_names view.tablet) others named.differ) (low_left job.first_rowset others may.takes.left) may.from may.differ may.given)))

    -- ---- a compaction

    module _ (taken : TakesRowsets view job) where
      abbrev behind : List Target
      behind = drop 1 view.tablet.names

      abbrev behind_stores : List Store
      behind_stores = drop 1 view.tablet.core.stores

      some_there : 0 < length view.tablet.names
      some_there = some_shelved view.tablet.frozen (2 ^ 64) view.tablet.names shelved

      first_is : view.tablet.names ≡ Mem active ∷ behind
      first_is = names_first view.tablet.names kept.named.first some_there

      first_store : (s : Store) × (view.tablet.core.stores ≡ s ∷ behind_stores)
      first_store = stores_first view.tablet.core.stores (omega (arith, some_there, long))

      rowsets_is : takes_of job ≡ rowsets job.taken
      rowsets_is = by_some job.taken job.last_mem taken.some

      each_is : AreNamed old (Mem active ∷ behind)
      each_is = subst (AreNamed old) first_is kept.named

      low : AreLow job.first_rowset behind
      low = low_shelved view.tablet.frozen active job.first_rowset behind (subst (AreShelved (suc view.tablet.frozen) (2 ^ 64)) first_is shelved).1 may.takes.left

      left_low : AreLow job.first_rowset (of_left (rowsets job.taken) behind behind)
      left_low = low_some job.first_rowset (rowsets job.taken) behind low

      its_knows : CompactKnows rules core old view.tablet.names (view.records ++ is.run) job.taken job.last_mem job.first_rowset view.store.next_rowset outputs
      its_knows = record {
        active = active;
        others = behind;
        first_store = first_store.0;
        other_stores = behind_stores;
        names_are = first_is;
        stores_are = first_store.1;
        long = (let a = ap length first_is in let b = ap length first_store.1 in omega (arith, long));
        later = (first_above old active behind each_is, taken.first);
        calm = may.calm;
        rowsets_below = below;
        from = may.from;
        differ = may.differ;
        up = may.up.0;
        below = may.given;
        recorded = recorded;
        left_below = over_below (numbers_of view) view.store.next_rowset active job.first_rowset job.last_mem outputs (of_left (rowsets job.taken) behind behind) may.up.0 refl may.given left_low (some_below (numbers_of view) (rowsets job.taken) behind behind_below);
        passes = passes;
        alike = λ q. subst (λ (t : Takes). AreAlike core.a (hists q (taken_stores t view.tablet)) (map (hist_in_files q) outputs)) rowsets_is (holds.alike q);
        sound = holds.sound;
        outputs_pass = λ q. hists_pass rules content.closed q outputs passes;
      }

      compaction : StandsOver (rowsets job.taken)
      unfolding its_knows
      compaction =
          subst (λ (ss : List Store). KeepsSince rules (record core { stores = ss }) (compacted (take_of job.taken) old core.a core.c view.log.known.count outputs) (over_to (rowsets job.taken) (map first_name outputs) view.tablet.names view.tablet.names) view.tablet.notes view.records is.run view.log.known.count)
          (sym (ap (λ (ns : List Target). over_to (rowsets job.taken) (map bare_store outputs) ns core.stores) first_is ∙ ap (over_to (rowsets job.taken) (map bare_store outputs) (Mem active ∷ behind)) first_store.1))
          (subst (λ (ns : List Target). KeepsSince rules (record core { stores = first_store.0 ∷ of_left (rowsets job.taken) behind behind_stores ++ map bare_store outputs }) (compacted (take_of job.taken) old core.a core.c view.log.known.count outputs) ns view.tablet.notes view.records is.run view.log.known.count)
          (sym (ap (λ (ns : List Target). over_to (rowsets job.taken) (map first_name outputs) ns ns) first_is))
          (compaction_since rules core old view.tablet.names view.tablet.notes view.records is.run view.tablet.places view.log.known.count
          (record { log = is.stands.log; since = is.stands.since; last = is.stands.last; flying = is.stands.flying; untold = is.stands.untold }) (stands first content.opens) kept all job.taken job.last_mem job.first_rowset view.store.next_rowset outputs its_knows
          (over_named core.a core.c view.log.known.count old.last_mem job.last_mem job.first_rowset view.store.next_rowset (left_rowsets (take_of job.taken) old.rowsets) outputs (rowsets_some (before job.first_rowset job.last_mem) (take_of job.taken) old.rowsets below)
          may.first_dms may.up.1 active (of_left (rowsets job.taken) behind behind) (all_head (IsNamed old) (Mem active) behind each_is.each)
          (some_named old core.a core.c view.log.known.count job.taken outputs behind (all_tail (IsNamed old) (Mem active) behind each_is.each))
          (some_differ active (rowsets job.taken) behind each_is.differ) left_low may.from may.differ may.given)))

    -- so its own does
    over_stands : StandsOver (takes_of job)
    over_stands = by job.want may.takes.takes
      where
        by : (w : Want) → TakesBy view job w → StandsOver (takes_of job)
        by want.Flush frozen = subst StandsOver (sym (takes_is frozen)) (flush frozen)
        by (want.Compact asked) taken = subst StandsOver (sym (rowsets_is taken.1)) (compaction taken.1)
        by (want.FlushDeltas r) none = absurd none
        by (want.Minor r) none = absurd none
        by (want.Major r) none = absurd none

    -- what its files tell is what it says
    says_by : (takes : Takes) (other : List HeldFiles) → HoldAll (seen view.store.known) (with_takes takes job.metas (next_super view)).rowsets other → super_in (with_takes takes job.metas (next_super view)) other ≡ super_over takes old core.a core.c view.log.known.count outputs
    says_by (mems last) other its =
        let both = hold_both (seen view.store.known) view.store.meta.rowsets job.metas held job.held hold (may.hold t) in
        ap (super_in (with_takes (mems last) job.metas (next_super view))) (all_one (seen view.store.known) (view.store.meta.rowsets ++ job.metas) other (held ++ job.held) its both)
        ∙ ap (λ (rs : List DiskRowset). let s : Super = record { a = core.a; c = core.c; need = view.log.known.count; last_mem = last; rowsets = rs } in s)
        (rowsets_of_both (seen view.store.known) view.store.meta.rowsets job.metas held job.held hold)
    says_by (rowsets taken) other its =
        let files = seen view.store.known in
        let left = hold_left files taken view.store.meta.rowsets held hold in
        let both = hold_both files (left_metas taken view.store.meta.rowsets) job.metas (left_held taken view.store.meta.rowsets held) job.held left (may.hold t) in
        ap (super_in (with_takes (rowsets taken) job.metas (next_super view))) (all_one files (left_metas taken view.store.meta.rowsets ++ job.metas) other (left_held taken view.store.meta.rowsets held ++ job.held) its both)
        ∙ ap (λ (rs : List DiskRowset). let s : Super = record { a = core.a; c = core.c; need = view.log.known.count; last_mem = view.store.meta.last_mem; rowsets = rs } in s)
        (rowsets_of_both files (left_metas taken view.store.meta.rowsets) job.metas (left_held taken view.store.meta.rowsets held) job.held left ∙ ap (λ (l : List DiskRowset). l ++ outputs) (rowsets_left files taken view.store.meta.rowsets held hold))

    says : (other : List HeldFiles) → HoldAll (seen view.store.known) meta.rowsets other → super_in meta other ≡ new
    says = says_by (takes_of job)

    went_keeps : (super : Super) → (one : IsSuperOf seen went.store super)
        → KeepsSince rules (core_over (over_at one.meta.number (over_in upkeep)) view.tablet.names core) super (names_over (over_at one.meta.number (over_in upkeep)) view.tablet.names) view.tablet.notes view.records is.run view.log.known.count
    went_keeps super one = elim one.one [
      | inl was ↦ (
          let lower : one.meta.number < view.store.meta.number + 1 = (let e = ap (λ (m : Meta). m.number) was in omega arith) in
          of_plain rules core super view.tablet.names view.tablet.notes view.records is.run view.log.known.count view.tablet.frozen (over_at one.meta.number (over_in upkeep))
          (ap (over_at one.meta.number) publishes ∙ before_over one.meta.number its_over lower)
          (to_plain rules core super view.tablet.names view.tablet.notes view.records is.run view.log.known.count view.tablet.frozen (over_at one.meta.number (over view)) (plain view none one.meta)
          (is.keeps rules first (record { closed = content.closed; opens = content.opens; holds = content.holds }) plan t super (record { meta = one.meta; one = inl was; held = one.held; hold = one.hold; is = one.is })))
          )
      | inr lent ↦ (
          let same : one.meta ≡ meta = (let e : Some meta ≡ Some one.meta = lent in cc) in
          let its = subst (λ (m : Meta). HoldAll (seen view.store.known) m.rowsets one.held) same one.hold in
          let super_is : super ≡ new = one.is ∙ ap (λ (m : Meta). super_in m one.held) same ∙ says one.held its in
          let over_is : over_at one.meta.number (over_in upkeep) ≡ Some its_over = ap (over_at one.meta.number) publishes ∙ ap (λ (m : Meta). over_at m.number (Some its_over)) same ∙ later_over (view.store.meta.number + 1) its_over (omega arith) in
          subst (λ (o : Option Over). KeepsSince rules (core_over o view.tablet.names core) super (names_over o view.tablet.names) view.tablet.notes view.records is.run view.log.known.count) (sym over_is)
          (subst (λ (s : Super). KeepsSince rules (core_over (Some its_over) view.tablet.names core) s (names_over (Some its_over) view.tablet.names) view.tablet.notes view.records is.run view.log.known.count) (sym super_is) over_stands)
          )
    ]

  pub job_lent_stored : IsStored log_tells log_seen tells seen faults went
  job_lent_stored = record {
    run = is.run;
    all = is.all;
    count = is.count;
    stands = is.stands;
    keeps = λ rules first content plan t super one. went_keeps rules first (record { closed = content.closed; opens = content.opens; holds = content.holds }) plan t super (record { meta = one.meta; one = one.one; held = one.held; hold = one.hold; is = one.is });
    below = is.below;
    names_below = is.names_below;
    near = subst (λ (n : ℕ). AreNear view.found view.tablet.names view.first_rowset view.store.next_rowset n is.run) (sym goes.begun.0) is.near;
    files_near = is.files_near;
    room = is.room;
    rests = inr may.calm;
    jobs = jobs_kept (view.records ++ is.run) n _ view.upkeep upkeep goes.upkeep (λ own same. still_on own same) is.jobs;
    outside = λ k j at out. absurd (none_kept n _ view.upkeep upkeep goes.upkeep its_stage inside k j at out);
    holds = λ t m one. elim one [
      | inl was ↦ is.holds t m (inl was)
      | inr lent ↦ (
          let same : m ≡ meta = (let e : Some meta ≡ Some m = lent in cc) in
          let found = is.holds t view.store.meta (inl refl) in
          subst (λ (o : Meta). (other : List HeldFiles) × HoldAll (seen view.store.known) o.rowsets other) (sym same) (its_holds t found.0 found.1 (takes_of job))
          )
    ];
    files = λ m one. subst (AreFiled tells (seen view.store.known) m.rowsets) (sym (ap (λ (o : Option JobView). files_over (job_at m.number o) view.tablet.files) published_by)) (files_told m one);
    columns = λ m lent. let same : m ≡ meta = (let e : Some meta ≡ Some m = lent in cc) in ap (λ (o : Meta). o.schema) same;
    mark = is.mark;
    marked = of_each (λ (o : Meta). IsMarkOf view.tablet.mark view.tablet.core.trail o.a) went.store (is.marked view.store.meta (inl refl)) (λ m lent. let same : m ≡ meta = (let e : Some meta ≡ Some m = lent in cc) in subst (λ (o : Meta). IsMarkOf view.tablet.mark view.tablet.core.trail o.a) (sym same) is.mark);
    clock = of_each (λ (o : Meta). o.c ≤ view.tablet.core.c) went.store (is.clock view.store.meta (inl refl)) (λ m lent. let same : m ≡ meta = (let e : Some meta ≡ Some m = lent in cc) in subst (λ (o : Meta). o.c ≤ view.tablet.core.c) (sym same) (omega arith));
    low = of_each (λ (o : Meta). o.a ≤ view.tablet.core.a) went.store (is.low view.store.meta (inl refl)) (λ m lent. let same : m ≡ meta = (let e : Some meta ≡ Some m = lent in cc) in subst (λ (o : Meta). o.a ≤ view.tablet.core.a) (sym same) (omega arith));
    later = is.later;
    home = λ disk at. absurd (let no : None ≡ Some disk = at in cc);
  }
    where
      -- the files of the rowsets that are left, and those of its outputs
      its_holds : IsTrue tells → (found : List HeldFiles) → HoldAll (seen view.store.known) view.store.meta.rowsets found → (takes : Takes) → (other : List HeldFiles) × HoldAll (seen view.store.known) (metas_left takes view.store.meta.rowsets ++ job.metas) other
      its_holds t found hold (mems last) = (found ++ job.held, hold_both (seen view.store.known) view.store.meta.rowsets job.metas found job.held hold (may.hold t))
      its_holds t found hold (rowsets taken) =
          let files = seen view.store.known in
          let left = left_held taken view.store.meta.rowsets found in
          (left ++ job.held, hold_both files (left_metas taken view.store.meta.rowsets) job.metas left job.held (hold_left files taken view.store.meta.rowsets found hold) (may.hold t))

      -- the published superblock is told of the files that memory has, and its own of those that it has once the job is over
      files_told : (m : Meta) → IsOneOf went.store m → AreFiled tells (seen view.store.known) m.rowsets (files_over (job_at m.number (Some (record job { stage = Publishing; super = view.store.meta.number + 1 }))) view.tablet.files)
      files_told m (inl was) =
          let lower : m.number < view.store.meta.number + 1 = (let e = ap (λ (o : Meta). o.number) was in omega arith) in
          subst (AreFiled tells (seen view.store.known) m.rowsets) (sym (ap (λ (o : Option JobView). files_over o view.tablet.files) (before_job m.number (record job { stage = Publishing; super = view.store.meta.number + 1 }) lower)))
          (filed_now log_tells log_seen tells seen faults view is none m (inl was))
      files_told m (inr lent) =
          let same : m ≡ meta = (let e : Some meta ≡ Some m = lent in cc) in
          let up : view.store.meta.number + 1 ≤ m.number = (let e = ap (λ (o : Meta). o.number) same in omega arith) in
          let now : AreFiled tells (seen view.store.known) meta.rowsets (files_left (takes_of job) view.tablet.files ++ job.held) =
          filed_over tells (seen view.store.known) (takes_of job) view.store.meta.next_rowset view.store.meta.next_file job.first_rowset view.store.meta.rowsets job.metas view.tablet.files job.held side.rules.rowsets may.takes.below may.from may.named may.hold
          (filed_now log_tells log_seen tells seen faults view is none view.store.meta (inl refl)) in
          subst (AreFiled tells (seen view.store.known) m.rowsets)
          (sym (ap (λ (o : Option JobView). files_over o view.tablet.files) (own_job m.number (record job { stage = Publishing; super = view.store.meta.number + 1 }) up) ∙ ap (λ (o : Option RowSetData). files_by o (takes_of job) job.held view.tablet.files) may.output))
          (subst (λ (o : Meta). AreFiled tells (seen view.store.known) o.rowsets (files_left (takes_of job) view.tablet.files ++ job.held)) (sym same) now)

      its_stage : (own : JobView) → Some (record job { stage = Publishing; super = view.store.meta.number + 1 }) ≡ Some own → is_at_outside own.stage ≡ false
      its_stage own same = let e : record job { stage = Publishing; super = view.store.meta.number + 1 } ≡ own = cc in sym (ap (λ (j : JobView). is_at_outside j.stage) e)

      -- its job is on as it was
      still_on : (own : JobView) → Some (record job { stage = Publishing; super = view.store.meta.number + 1 }) ≡ Some own → JobOn (view.records ++ is.run) own
      still_on own same =
          let on = is.jobs n job had in
          let e : record job { stage = Publishing; super = view.store.meta.number + 1 } ≡ own = cc in
          subst (λ (j : JobView). JobOn (view.records ++ is.run) j) e (record { many = on.many; names = on.names })

  -- however the store is told
  pub job_lent_as : (store : StoreView D) (lent : Option Meta) → lent ≡ Some meta → store ≡ record view.store { home = None; holder = Some n; lent = lent } → IsStored log_tells log_seen tells seen faults (record view { store = store; upkeep = upkeep })
  job_lent_as store lent same e =
      subst (λ (s : StoreView D). IsStored log_tells log_seen tells seen faults (record view { store = s; upkeep = upkeep })) (sym (e ∙ ap (λ (o : Option Meta). record view.store { home = None; holder = Some n; lent = o }) same)) job_lent_stored
