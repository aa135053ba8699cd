-- A job is over: what it took has left, and its outputs stand behind the others.
use Rattle.std.proofs.Common.{◌≡◌, ◌≢◌, ℕ, ◌<◌, ◌≤◌, ◌^◌, List, [], ◌∷◌, ◌++◌, map, length, Option, Some, None, refl, sym, ap, ◌∙◌, subst, arith, inl, inr}
use Rattle.std.specs.Prelude.{Bool}
use Rattle.std.specs.List.{All}
use Rattle.kt_disk.specs.Disk.{Files}
use Rattle.kt_history.specs.declared.target.Target.{Target}
use Rattle.kt_history.specs.declared.target.Target.TheVariants.{Mem, Delta}
use Rattle.kt_records.specs.Rules.{TargetFits}
use Rattle.kt_pool.specs.Contents.{Contents}
use Rattle.kt_histlaws.specs.Core.{Core}
use Rattle.kt_rowfiles.specs.Files.{DiskRowset}
use Rattle.kt_diskrowset.specs.Rowset.{HeldFiles}
use Rattle.kt_super.specs.declared.meta.Meta.{Meta}
use Rattle.kt_content.specs.RunEvents.{Numbers, RowsetsBelow, StoresBelow}
use Rattle.kt_content.specs.Flushes.{before}
use Rattle.kt_tablet.specs.Views.{View}
use Rattle.kt_stores.specs.Takes.{Takes, of_left, files_left, over_to}
use Rattle.kt_tablet.specs.Jobs.{frozen_names, HasChangedOver}
use Rattle.kt_engine.specs.Memory.{name_of}
use Rattle.kt_engine.specs.Over.{Over, bare_store, first_name, over_at, core_over, names_over}
use Rattle.kt_engine.specs.Logged.{KeepsSince}
use Rattle.kt_engine.specs.Engines.{EngineView, IsEngine, core_from}
use Rattle.kt_engine.specs.Near.{AreNear, first_number}
use Rattle.kt_engine.specs.Stored.{IsOneOf, IsStored, over, files_at, next_given, numbers_of}
use Rattle.kt_engine.specs.Jobs.{JobView, UpkeepsView, JobOn, job_of}
use Rattle.kt_engine.specs.Files.{AreFiled}
use Rattle.kt_engine.proofs.Filed.{none_at}
use Rattle.kt_engine.proofs.Jobs.{finished_since, both_below, come_below, some_below}
use Rattle.kt_engine.proofs.Near.{near_over, over_each}
use Rattle.kt_engine.proofs.Lists.{all_none, all_cons}
use Rattle.kt_engine.proofs.Outsiders.{NoneOutside}
use Rattle.kt_engine.proofs.Rising.{given_up, records_rise}
use Rattle.kt_engine.proofs.Shelved.{over_shelved}
use Rattle.kt_engine.proofs.Stored.{of_plain, plain}

-- the first store stays
first_over : (t : Takes) (names come : List Target) → first_number (over_to t come names names) ≡ first_number names
first_over t [] come = refl
first_over t (Mem n ∷ names) come = refl
first_over t (Delta r n ∷ names) come = refl

behind_below : (numbers : Numbers) (t : Takes) (outputs : List DiskRowset) (names : List Target) → RowsetsBelow numbers outputs → StoresBelow numbers (map name_of names) → StoresBelow numbers (map name_of (of_left t names names ++ map first_name outputs))
behind_below numbers t outputs names own below = both_below numbers (of_left t names names) (map first_name outputs) (some_below numbers t names below) (come_below numbers outputs own)

over_below : (numbers : Numbers) (t : Takes) (outputs : List DiskRowset) (names : List Target) → RowsetsBelow numbers outputs → StoresBelow numbers (map name_of names) → StoresBelow numbers (map name_of (over_to t (map first_name outputs) names names))
over_below numbers t outputs [] own below = tt
over_below numbers t outputs (Mem n ∷ names) own below = (below.0, behind_below numbers t outputs names own below.1)
over_below numbers t outputs (Delta r n ∷ names) own below = (below.0, behind_below numbers t outputs names own below.1)

-- their names can be spelled
fits_come : (next last : ℕ) (outputs : List DiskRowset) → next < 2 ^ 64 → RowsetsBelow (before next last) outputs → All TargetFits (map first_name outputs)
fits_come next last [] small own = all_none TargetFits
fits_come next last (d ∷ outputs) small own = all_cons TargetFits (first_name d) (map first_name outputs) ((let low = own.0 in omega arith), omega arith) (fits_come next last outputs small own.1)

fits_over : (next last : ℕ) (t : Takes) (outputs : List DiskRowset) (names : List Target) → next < 2 ^ 64 → RowsetsBelow (before next last) outputs → All TargetFits names → All TargetFits (over_to t (map first_name outputs) names names)
fits_over next last t outputs names small own fit = over_each TargetFits t names (map first_name outputs) fit (fits_come next last outputs small own)

own_below : (next last active : ℕ) (outputs : List DiskRowset) → RowsetsBelow (before next last) outputs → RowsetsBelow (record { next = next_given next; active = active; deltas = [] }) outputs
own_below next last active [] own = tt
own_below next last active (d ∷ outputs) own = ((let low = own.0 in let up = given_up next in omega arith), own_below next last active outputs own.1)

module _ {L D C : Type 0} (view : EngineView L D C) (tablet : View C) (upkeep : UpkeepsView) (t : Takes) (outputs : List DiskRowset) (held : List HeldFiles) (h : HasChangedOver view.tablet tablet t (map bare_store outputs) (map first_name outputs) held) where
  abbrev pub over_core : Core
  over_core = record view.tablet.core { stores = over_to t (map bare_store outputs) view.tablet.names view.tablet.core.stores }

  abbrev pub over_names : List Target
  over_names = over_to t (map first_name outputs) view.tablet.names view.tablet.names

  abbrev pub over_frozen : ℕ
  over_frozen = length (of_left t (frozen_names view.tablet) (frozen_names view.tablet))

  abbrev pub over_files : List HeldFiles
  over_files = files_left t view.tablet.files ++ held

  abbrev pub over_tablet : Contents → View C
  over_tablet pool = record view.tablet { core = over_core; names = over_names; frozen = over_frozen; pool = pool; files = over_files }

  pub is_over : tablet ≡ over_tablet tablet.pool
  is_over =
      h.beside ∙ ap (λ (k : Core). record view.tablet { core = k; names = tablet.names; frozen = tablet.frozen; pool = tablet.pool; files = tablet.files }) h.stores
      ∙ ap (λ (ns : List Target). record view.tablet { core = over_core; names = ns; frozen = tablet.frozen; pool = tablet.pool; files = tablet.files }) h.names_are
      ∙ ap (λ (n : ℕ). record view.tablet { core = over_core; names = over_names; frozen = n; pool = tablet.pool; files = tablet.files }) h.frozen
      ∙ ap (λ (fs : List HeldFiles). record view.tablet { core = over_core; names = over_names; frozen = over_frozen; pool = tablet.pool; files = fs }) h.files_are

  pub finished_keeps : (log_tells : Bool) (log_seen : L → Files) (log_now : L → ℕ) (log_leaves : L → ℕ → Files → Type 0) (log_faults : L → ℕ) (last : ℕ) → upkeep.begun ≢ 0 → view.store.next_rowset < 2 ^ 64 → RowsetsBelow (before view.store.next_rowset last) outputs
      → IsEngine log_tells log_seen log_now log_leaves log_faults view → IsEngine log_tells log_seen log_now log_leaves log_faults (record view { tablet = tablet; upkeep = upkeep })
  finished_keeps log_tells log_seen log_now log_leaves log_faults last some small own is =
      subst (λ (t : View C). IsEngine log_tells log_seen log_now log_leaves log_faults (record view { tablet = t; upkeep = upkeep })) (sym is_over) (record {
        logged = record {
          run = is.logged.run;
          all = is.logged.all;
          count = is.logged.count;
          begins = is.logged.begins;
          stands = record { log = is.logged.stands.log; since = is.logged.stands.since; last = is.logged.stands.last; flying = is.logged.stands.flying; untold = is.logged.stands.untold };
          keeps = λ rules first content plan none. absurd (some none);
          names = λ none. absurd (some none);
          framed = is.logged.framed;
          durable = is.logged.durable;
          acknowledged = is.logged.acknowledged;
        };
        home = λ journal at.
            let home = is.home journal at in
            record { opens = home.opens; others = home.others; later = home.later; known = home.known; rose = home.rose; images = home.images };
        others = is.others;
        lent = is.lent;
        whole = is.whole;
        stops = record { goes = is.stops.goes; stopped = is.stops.stopped };
        ready = record { room = is.ready.room; apart = is.ready.apart; spelled = fits_over view.store.next_rowset last t outputs view.tablet.names small own is.ready.spelled; shelved = over_shelved t view.tablet.frozen outputs view.tablet.names is.ready.shelved; named = λ none. absurd (some none) };
        placed = is.placed;
      })

  -- each superblock is told of the stores that stand now
  pub finished_stored : (log_tells : Bool) (log_seen : L → Files) (tells : Bool) (seen : D → Files) (faults : D → ℕ) (is : IsStored log_tells log_seen tells seen faults view) (o : Over) (last : ℕ) → over view ≡ Some o → o.takes ≡ t → o.outputs ≡ outputs → o.number ≤ view.store.meta.number → view.store.lent ≡ None
      → ((m : Meta) → o.number ≤ m.number → files_at view m ≡ over_files) → upkeep.publishing ≡ None → upkeep.begun ≡ view.upkeep.begun → RowsetsBelow (before view.store.next_rowset last) outputs → ((n : ℕ) (job : JobView) → job_of n upkeep ≡ Some job → JobOn (view.records ++ is.run) job)
      → NoneOutside upkeep → IsStored log_tells log_seen tells seen faults (record view { tablet = tablet; upkeep = upkeep })
  finished_stored log_tells log_seen tells seen faults is o last over_is took same up none told still counted own jobs inside =
      subst (λ (t : View C). IsStored log_tells log_seen tells seen faults (record view { tablet = t; upkeep = upkeep })) (sym is_over) (record {
        run = is.run;
        all = is.all;
        count = is.count;
        stands = record { log = is.stands.log; since = is.stands.since; last = is.stands.last; flying = is.stands.flying; untold = is.stands.untold };
        keeps = λ rules first content plan tells_all super one.
            of_plain rules (record (core_from view first) { stores = over_core.stores }) super over_names view.tablet.notes view.records is.run view.log.known.count over_frozen
            (over_at one.meta.number (over (record view { tablet = over_tablet tablet.pool; upkeep = upkeep }))) (plain (record view { tablet = over_tablet tablet.pool; upkeep = upkeep }) still one.meta)
            (subst (λ (s : Takes). KeepsSince rules (record (core_from view first) { stores = over_to s (map bare_store outputs) view.tablet.names view.tablet.core.stores }) super (over_to s (map first_name outputs) view.tablet.names view.tablet.names) view.tablet.notes view.records is.run view.log.known.count) took
            (subst (λ (ds : List DiskRowset). KeepsSince rules (record (core_from view first) { stores = over_to o.takes (map bare_store ds) view.tablet.names view.tablet.core.stores }) super (over_to o.takes (map first_name ds) view.tablet.names view.tablet.names) view.tablet.notes view.records is.run view.log.known.count) same
            (finished_since rules (core_from view first) super view.tablet.names view.tablet.notes view.records is.run view.log.known.count one.meta.number o (later one.meta one.one)
            (subst (λ (p : Option Over). KeepsSince rules (core_over (over_at one.meta.number p) view.tablet.names (core_from view first)) super (names_over (over_at one.meta.number p) view.tablet.names) view.tablet.notes view.records is.run view.log.known.count) over_is
            (is.keeps rules first (record { closed = content.closed; opens = content.opens; holds = content.holds }) plan tells_all super (record { meta = one.meta; one = one.one; held = one.held; hold = one.hold; is = one.is }))))));
        below = records_rise (numbers_of view) now (view.records ++ is.run) (omega arith) (omega (arith, first_over t view.tablet.names (map first_name outputs))) is.below;
        names_below = subst (λ (a : ℕ). StoresBelow (record { next = next_given view.store.next_rowset; active = a; deltas = [] }) (map name_of over_names)) (sym (first_over t view.tablet.names (map first_name outputs)))
            (over_below (numbers_of view) t outputs view.tablet.names (own_below view.store.next_rowset last (first_number view.tablet.names) outputs own) is.names_below);
        near = subst (λ (n : ℕ). AreNear view.found over_names view.first_rowset view.store.next_rowset n is.run) (sym counted)
            (near_over view.found view.tablet.names view.first_rowset view.store.next_rowset view.upkeep.begun last t outputs is.run (first_over t view.tablet.names (map first_name outputs)) own is.near);
        files_near = is.files_near;
        room = is.room;
        rests = inl still;
        jobs = jobs;
        outside = λ n job has at. absurd (inside n job has at);
        holds = is.holds;
        files = λ m one. subst (AreFiled tells (seen view.store.known) m.rowsets) (told m (later m one) ∙ sym (none_at m.number upkeep over_files still)) (is.files m one);
        columns = is.columns;
        mark = is.mark;
        marked = is.marked;
        clock = is.clock;
        low = is.low;
        later = is.later;
        home = is.home;
      })
    where
      now : Numbers
      now = record { next = next_given view.store.next_rowset; active = first_number over_names; deltas = [] }

      later : (m : Meta) → IsOneOf view.store m → o.number ≤ m.number
      later m (inl e) = let n = ap (λ (x : Meta). x.number) e in omega arith
      later m (inr lent) = absurd (let no : None ≡ Some m = sym none ∙ lent in cc)
