-- The store of an engine goes out, comes home and breaks.
use Rattle.std.proofs.Common.{◌≡◌, ℕ, ◌+◌, ◌≤◌, max, Bool, true, false, List, [], ◌++◌, length, map, Option, Some, None, refl, sym, ap, ◌∙◌, subst, arith, inl, inr}
use Rattle.std.specs.Prelude.{IsTrue}
use Rattle.std.proofs.lemmas.List.{append-nil}
use Rattle.kt_disk.specs.Disk.{Files}
use Rattle.kt_history.specs.declared.target.Target.{Target}
use Rattle.kt_history.specs.declared.target.Target.TheVariants.{Mem, Delta}
use Rattle.kt_history.specs.History.{Past, IsPastUpTo}
use Rattle.kt_records.specs.declared.entry.Entry.{Entry}
use Rattle.kt_records.specs.declared.entry.CommitRow.{CommitRow}
use Rattle.kt_journal.specs.Log.{IsLog}
use Rattle.kt_loglaws.specs.Replay.{last_of}
use Rattle.kt_loglaws.specs.Fronts.{with_records}
use Rattle.kt_histlaws.specs.Core.{Core, Stands}
use Rattle.kt_super.specs.declared.meta.Meta.{Meta}
use Rattle.kt_super.specs.Rowsets.{has}
use Rattle.kt_diskrowset.specs.Rowset.{HeldFiles}
use Rattle.kt_files.specs.Reading.{HoldAll}
use Rattle.kt_files.proofs.SameFiles.{holds_on}
use Rattle.kt_content.specs.Places.{Super}
use Rattle.kt_content.specs.Rules.{Rules}
use Rattle.kt_content.specs.LaterMark.{with_marks}
use Rattle.kt_content.specs.Recovering.{Lends, low_after}
use Rattle.kt_content.specs.Recoverable.{SuperStands}
use Rattle.kt_content.specs.Keeping.{FliesAbove}
use Rattle.kt_content.proofs.Keeping.{durable_keeps, with_records-append}
use Rattle.kt_content.proofs.LaterMark.{later_mark_stands}
use Rattle.kt_content.proofs.Records.{ends_later}
use Rattle.kt_content.proofs.Recovering.{runs_up}
use Rattle.kt_reopen.specs.Both.{super_in}
use Rattle.kt_storeside.specs.Supers.{named}
use Rattle.kt_storeside.specs.Turns.{IsTurn, IsLeft}
use Rattle.kt_storeside.specs.Sides.{StoreView, Beginning, published_in, IsSide}
use Rattle.kt_storeside.proofs.Named.{named_between}
use Rattle.kt_storeside.proofs.Standing.{left_below}
use Rattle.kt_engine.specs.Memory.{name_of, resident, IsNamed}
use Rattle.kt_engine.specs.Logged.{PlanPasses, LogStands, KeepsSince}
use Rattle.kt_engine.specs.Engines.{EngineView, IsContent, IsFound, IsEngine, core_from}
use Rattle.kt_engine.specs.Over.{over_at}
use Rattle.kt_engine.specs.Files.{AreFiled}
use Rattle.kt_engine.specs.Stored.{IsOneOf, IsMarkOf, IsSuperOf, IsStored, AreOutside, over, core_at, names_at, files_at, numbers_of, next_super}
use Rattle.kt_engine.proofs.Devices.{store_keeps}
use Rattle.kt_engine.proofs.Filed.{filed_on, none_at}
use Rattle.kt_engine.proofs.Fronts.{last_of-append, low_below}
use Rattle.kt_engine.proofs.Marks.{of_each}
use Rattle.kt_engine.specs.Near.{LeavesRoom, most_rowsets, most_files}
use Rattle.kt_engine.proofs.Near.{near_rises}
use Rattle.kt_engine.proofs.Lists.{all_each}
use Rattle.kt_engine.proofs.Outsiders.{NoneOutside, outside_lent, outside_home}
use Rattle.kt_engine.proofs.Rising.{given_rises, records_rise, names_rise}
use Rattle.kt_engine.proofs.Stored.{same_log, to_plain, of_plain, plain, filed_now}
use Rattle.kt_engine.proofs.Untold.{flies_above}

-- ---- the superblock that comes next, where all records are durable

-- the numbers that a turn has given are not too many
most_given : (most old new first : ℕ) → old ≤ first + most → new ≤ max old (first + most) → new ≤ first + most
most_given most old new first low high = omega arith

module _ (rules : Rules) (core : Core) (super : Super) (names : List Target) (notes : List (List CommitRow)) (records run : List Entry) (places : List (ℕ × ℕ)) (durable : ℕ) (log : LogStands core records places run) (st : Stands core)
    (k : KeepsSince rules core super names notes records run durable) (all : durable ≡ length (records ++ run)) where
  abbrev pub base : List Entry
  base = records ++ run

  abbrev pub past : Past
  past = with_records core.work.fill core.first run

  pub past_is : with_records core.work.fill (with_records core.work.fill core.first k.since) k.rest ≡ past
  past_is = sym (with_records-append core.work.fill core.first k.since k.rest) ∙ ap (with_records core.work.fill core.first) (sym k.parts)

  base_is : (records ++ k.since) ++ k.rest ≡ base
  base_is = sym (same_log core records k.since k.rest run k.parts)

  in_order : IsLog ((records ++ k.since) ++ k.rest)
  in_order = subst (λ (l : List Entry). IsLog l) (sym base_is) log.log

  -- what stands under the superblock from before stands over all records
  pub stands_now : SuperStands rules core.work.fill super base [] past (resident core names notes k.keeps.numbers)
  stands_now =
      subst (λ (p : Past). SuperStands rules core.work.fill super base [] p (resident core names notes k.keeps.numbers)) past_is
      (subst (λ (l : List Entry). SuperStands rules core.work.fill super l [] (with_records core.work.fill (with_records core.work.fill core.first k.since) k.rest) (resident core names notes k.keeps.numbers)) base_is
      (durable_keeps rules core.work.fill super (records ++ k.since) k.rest [] (with_records core.work.fill core.first k.since) (resident core names notes k.keeps.numbers)
      (subst (λ (l : List Entry). IsLog ((records ++ k.since) ++ l)) (sym (append-nil k.rest)) in_order)
      (subst (λ (l : List Entry). SuperStands rules core.work.fill super (records ++ k.since) l (with_records core.work.fill core.first k.since) (resident core names notes k.keeps.numbers)) (sym (append-nil k.rest)) k.keeps.stands)))

  -- the past ends by now
  pub ends : IsPastUpTo core.c past
  ends =
      let up = runs_up core.work.fill super k.low (records ++ k.since) (with_records core.work.fill core.first k.since) k.rest k.keeps.recovered.told k.keeps.recovered.ends in
      let last : last_of k.rest ≤ core.c = rest_last in
      ends_later (low_after k.low k.rest) core.c past (low_below k.low core.c k.rest k.up last) (subst (λ (p : Past). IsPastUpTo (low_after k.low k.rest) p) past_is up.0)
    where
      behind_last : (xs ys : List Entry) → last_of ys ≤ last_of (xs ++ ys)
      behind_last xs ys = let both = last_of-append xs ys in omega arith

      rest_last : last_of k.rest ≤ core.c
      rest_last = let low = behind_last (records ++ k.since) k.rest in let e = ap last_of base_is in let l = log.last in omega arith

  lends : Lends super (with_marks super core.a core.c durable) base core.c 0 past
  lends = record { enough = omega arith; mark = k.mark; job = omega arith; last = k.clock; up = omega arith; marked = st.flown.marked; ends = ends }

  -- the same stores stand for the same places
  named_still : (t : Target) → IsNamed super t → IsNamed (with_marks super core.a core.c durable) t
  named_still (Mem n) is = is
  named_still (Delta r n) is = is

  pub next_since : KeepsSince rules core (with_marks super core.a core.c durable) names notes records run durable
  next_since =
      let next = later_mark_stands rules core.work.fill super core.a core.c durable base [] core.c past (resident core names notes k.keeps.numbers)
      (subst (λ (l : List Entry). IsLog l) (sym (append-nil base)) log.log) stands_now lends tt (omega arith)
      (λ q. subst (λ (l : List Entry). FliesAbove core.a l q) (sym (append-nil base)) (flies_above core.work.fill st.past core.a core.c core.aloft base q st.flown.fly log.untold)) in
      record {
        since = run;
        rest = [];
        parts = sym (append-nil run);
        made = omega arith;
        opened = (let s = log.since in omega arith);
        low = core.c;
        from = log.since;
        up = omega arith;
        last = log.last;
        mark = omega arith;
        clock = omega arith;
        named = record { each = all_each (IsNamed super) (IsNamed (with_marks super core.a core.c durable)) names named_still k.named.each; first = k.named.first; differ = k.named.differ };
        deltas = k.deltas;
        passes = k.passes;
        keeps = record { recovered = next.0; writes = sym past_is ∙ k.keeps.writes; numbers = k.keeps.numbers; stands = next.1 };
      }

-- ---- the files that a superblock names

-- files that have those of a superblock hold the same of it
pub named_hold : (m : Meta) (held : List HeldFiles) (old new : Files) → ((n : ℕ) → has (named m) n ≡ true → new n ≡ old n) → HoldAll old m.rowsets held → HoldAll new m.rowsets held
named_hold m held old new kept hold = holds_on old new m.rowsets held (λ n e. sym (kept n e)) hold

-- ---- it goes out

module _ {L D C : Type 0} (log_tells : Bool) (log_seen : L → Files) (tells : Bool) (seen : D → Files) (now : D → ℕ) (leaves : D → ℕ → Files → Type 0) (faults : D → ℕ) (view : EngineView L D C) (is : IsStored log_tells log_seen tells seen faults view)
    (side : IsSide tells seen now leaves faults view.store) where
  abbrev Stored : EngineView L D C → Type 0
  Stored v = IsStored log_tells log_seen tells seen faults v

  -- the published one, as its files tell it
  published : (held : List HeldFiles) → HoldAll (seen view.store.known) view.store.meta.rowsets held → IsSuperOf seen view.store (super_in view.store.meta held)
  published held hold = record { meta = view.store.meta; one = inl refl; held = held; hold = hold; is = refl }

  abbrev lent_view : ℕ → Option Meta → StoreView D
  lent_view number lent = record view.store { home = None; holder = Some number; lent = lent }

  pub lent_stored : (store : StoreView D) (number : ℕ) (lent : Option Meta) → store ≡ lent_view number lent → ((m : Meta) → lent ≡ Some m → m ≡ next_super view) → ((m : Meta) → lent ≡ Some m → (view.log.out ≡ []) × (view.log.queued ≡ []) × (view.upkeep.publishing ≡ None))
      → ((m : Meta) → lent ≡ Some m → NoneOutside view.upkeep) → ((first : Past) → IsFound view first → Stands (core_from view first)) → Stored (record view { store = store })
  unfolding published
  lent_stored store number lent e next settled inside stands = subst (λ (s : StoreView D). Stored (record view { store = s })) (sym e) (record {
    run = is.run;
    all = is.all;
    count = is.count;
    stands = is.stands;
    keeps = λ rules first h plan t super one. keeps rules first (record { closed = h.closed; opens = h.opens; holds = h.holds }) plan t super one;
    below = is.below;
    names_below = is.names_below;
    near = is.near;
    files_near = is.files_near;
    room = is.room;
    rests = is.rests;
    jobs = is.jobs;
    outside = outside_out lent refl;
    holds = λ t m one. elim one [ inl was ↦ is.holds t m (inl was) | inr new ↦ subst (λ (o : Meta). (held : List HeldFiles) × HoldAll (seen view.store.known) o.rowsets held) (sym (next m new)) (is.holds t view.store.meta (inl refl)) ];
    files = λ m one. elim one [ inl was ↦ is.files m (inl was) | inr new ↦ files_next m new ];
    columns = λ m new. ap (λ (o : Meta). o.schema) (next m new);
    mark = is.mark;
    marked = of_each (λ (o : Meta). IsMarkOf view.tablet.mark view.tablet.core.trail o.a) (lent_view number lent) (is.marked view.store.meta (inl refl)) (λ m new. subst (λ (o : Meta). IsMarkOf view.tablet.mark view.tablet.core.trail o.a) (sym (next m new)) is.mark);
    clock = of_each (λ (o : Meta). o.c ≤ view.tablet.core.c) (lent_view number lent) (is.clock view.store.meta (inl refl)) (λ m new. subst (λ (o : Meta). o.c ≤ view.tablet.core.c) (sym (next m new)) (omega arith));
    low = of_each (λ (o : Meta). o.a ≤ view.tablet.core.a) (lent_view number lent) (is.low view.store.meta (inl refl)) (λ m new. subst (λ (o : Meta). o.a ≤ view.tablet.core.a) (sym (next m new)) (omega arith));
    later = is.later;
    home = λ disk at. absurd (let none : None ≡ Some disk = at in cc);
  })
    where
      -- one that goes out to publish finds no job outside
      outside_out : (o : Option Meta) → lent ≡ o → AreOutside (record view { store = lent_view number lent }) (view.records ++ is.run)
      outside_out None none n job has at = outside_lent view.tablet view.store.meta view.store.lent view.upkeep (view.records ++ is.run) job (is.outside n job has at) lent none
      outside_out (Some m) new n job has at = absurd (inside m new n job has at)

      keeps : (rules : Rules) (first : Past) → IsContent rules view first → PlanPasses rules view.tablet.core.work → IsTrue tells → (super : Super) → (one : IsSuperOf seen (lent_view number lent) super)
          → KeepsSince rules (core_at view one.meta (core_from view first)) super (names_at view one.meta) view.tablet.notes view.records is.run view.log.known.count
      keeps rules first h plan t super one = elim one.one [
        | inl was ↦ is.keeps rules first h plan t super (record { meta = one.meta; one = inl was; held = one.held; hold = one.hold; is = one.is })
        | inr new ↦ (
            let same : one.meta ≡ next_super view = next one.meta new in
            let none = settled one.meta new in
            let hold : HoldAll (seen view.store.known) view.store.meta.rowsets one.held = subst (λ (o : Meta). HoldAll (seen view.store.known) o.rowsets one.held) same one.hold in
            let was : Super = super_in view.store.meta one.held in
            let k = to_plain rules (core_from view first) was view.tablet.names view.tablet.notes view.records is.run view.log.known.count view.tablet.frozen (over_at view.store.meta.number (over view)) (plain view none.2 view.store.meta) (is.keeps rules first h plan t was (published one.held hold)) in
            let all : view.log.known.count ≡ length (view.records ++ is.run) = (let n = is.count in let o = ap (λ (l : List Entry). length (l ++ view.log.queued)) none.0 in let p = ap (λ (l : List Entry). length l) none.1 in omega arith) in
            of_plain rules (core_from view first) super view.tablet.names view.tablet.notes view.records is.run view.log.known.count view.tablet.frozen (over_at one.meta.number (over view)) (plain view none.2 one.meta)
            (subst (λ (s : Super). KeepsSince rules (core_from view first) s view.tablet.names view.tablet.notes view.records is.run view.log.known.count) (sym (one.is ∙ ap (λ (o : Meta). super_in o one.held) same))
            (next_since rules (core_from view first) was view.tablet.names view.tablet.notes view.records is.run view.tablet.places view.log.known.count
            (record { log = is.stands.log; since = is.stands.since; last = is.stands.last; flying = is.stands.flying; untold = is.stands.untold }) (stands first h.opens) k all))
            )
      ]

      -- it names the files of the one that is published
      files_next : (m : Meta) → lent ≡ Some m → AreFiled tells (seen view.store.known) m.rowsets (files_at view m)
      files_next m new =
          let none = (settled m new).2 in
          subst (AreFiled tells (seen view.store.known) m.rowsets) (sym (none_at m.number view.upkeep view.tablet.files none))
          (subst (λ (o : Meta). AreFiled tells (seen view.store.known) o.rowsets view.tablet.files) (sym (next m new)) (filed_now log_tells log_seen tells seen faults view is none view.store.meta (inl refl)))

  -- ---- it comes home

  -- a file that one of both superblocks names is left alone by a turn
  left : (m : Meta) → IsOneOf view.store m → (next n : ℕ) → has (named m) n ≡ true → IsLeft view.store.next_file next n
  left m one next n e = elim one [
    | inl was ↦ (let b = named_between view.store.meta n side.rules (subst (λ (o : Meta). has (named o) n ≡ true) was e) in let f = side.files in left_below view.store.next_file next n b.least (omega (arith, b.below, f)))
    | inr new ↦ (let may = side.lent_is m new in let b = named_between m n may.next.rules e in let f = may.next.files in left_below view.store.next_file next n b.least (omega (arith, b.below, f)))
  ]

  pub home_stored : (store : StoreView D) (disk : D) (published : Bool) (lent : Option Meta) (next : ℕ) → lent ≡ view.store.lent → (IsTrue tells → IsTurn seen now leaves view.store.next_file next view.store.known disk) → faults view.store.known ≤ faults disk
      → store.home ≡ Some disk → store.known ≡ disk → store.meta ≡ published_in published lent view.store.meta → store.lent ≡ None → store.first ≡ view.store.first → view.store.next_rowset ≤ store.next_rowset
      → store.next_rowset ≤ max view.store.next_rowset (view.first_rowset + most_rowsets) → store.next_file ≤ max view.store.next_file (view.first_file + most_files) → Stored (record view { store = store })
  home_stored store disk published lent next same turn more at known meta none began given few few_files = record {
    run = is.run;
    all = is.all;
    count = is.count;
    stands = is.stands;
    keeps = λ rules first h plan t super one.
        is.keeps rules first (record { closed = h.closed; opens = h.opens; holds = h.holds }) plan t super
        (record { meta = one.meta; one = was one.meta one.one; held = one.held; hold = before t one.meta (was one.meta one.one) one.held one.hold; is = one.is });
    below = records_rise (numbers_of view) (numbers_of (record view { store = store })) (view.records ++ is.run) (given_rises view.store.next_rowset store.next_rowset given) (omega arith) is.below;
    names_below = names_rise (numbers_of view) (numbers_of (record view { store = store })) (map name_of view.tablet.names) (given_rises view.store.next_rowset store.next_rowset given) (omega arith) is.names_below;
    near = near_rises view.found view.tablet.names view.first_rowset view.store.next_rowset store.next_rowset view.upkeep.begun is.run given (most_given most_rowsets view.store.next_rowset store.next_rowset view.first_rowset is.near.rowsets few) is.near;
    files_near = most_given most_files view.store.next_file store.next_file view.first_file is.files_near few_files;
    room = subst (λ (b : Beginning D). LeavesRoom view.found view.first_rowset b.most) (sym began) is.room;
    rests = is.rests;
    jobs = is.jobs;
    outside = λ n job has at. outside_home view.tablet view.store.meta view.store.lent view.upkeep (view.records ++ is.run) job (is.outside n job has at) store.meta store.lent published (meta ∙ ap (λ (o : Option Meta). published_in published o view.store.meta) same) none;
    holds = λ t m one.
        let held = is.holds t m (was m one) in
        (held.0, subst (λ (d : D). HoldAll (seen d) m.rowsets held.0) (sym known) (named_hold m held.0 (seen view.store.known) (seen disk) (λ n e. (turn t).reads n (left m (was m one) next n e)) held.1));
    files = λ m one. subst (λ (d : D). AreFiled tells (seen d) m.rowsets (files_at view m)) (sym known)
        (filed_on tells (seen view.store.known) (seen disk) m.rowsets (files_at view m) (λ t n e. sym ((turn t).reads n (left m (was m one) next n e))) (is.files m (was m one)));
    columns = λ m new. absurd (let no : None ≡ Some m = sym none ∙ new in cc);
    mark = is.mark;
    marked = λ m one. is.marked m (was m one);
    clock = λ m one. is.clock m (was m one);
    low = λ m one. is.low m (was m one);
    later = subst (λ (d : D). faults view.store_device ≤ faults d) (sym known) (let low = is.later in omega arith);
    home = λ d here. let one : disk ≡ d = cc in subst (λ (x : D). faults store.known ≤ faults x) one (subst (λ (x : D). faults x ≤ faults disk) (sym known) (omega arith));
  }
    where
      -- its superblock is one of those from before
      of_two : (b : Bool) (o : Option Meta) → o ≡ view.store.lent → IsOneOf view.store (published_in b o view.store.meta)
      of_two true None e = inl refl
      of_two true (Some m) e = inr (sym e)
      of_two false o e = inl refl

      was : (m : Meta) → IsOneOf store m → IsOneOf view.store m
      was m (inl e) = subst (IsOneOf view.store) (sym (e ∙ meta)) (of_two published lent same)
      was m (inr new) = absurd (let no : None ≡ Some m = sym none ∙ new in cc)

      before : IsTrue tells → (m : Meta) → IsOneOf view.store m → (held : List HeldFiles) → HoldAll (seen store.known) m.rowsets held → HoldAll (seen view.store.known) m.rowsets held
      before t m one held hold =
          named_hold m held (seen disk) (seen view.store.known) (λ n e. sym ((turn t).reads n (left m one next n e))) (subst (λ (d : D). HoldAll (seen d) m.rowsets held) known hold)

-- the engine and its store stand when the store has come home
pub home_both : {L D C : Type 0} (log_tells : Bool) (log_seen : L → Files) (log_now : L → ℕ) (log_leaves : L → ℕ → Files → Type 0) (log_faults : L → ℕ) (tells : Bool) (seen : D → Files) (now : D → ℕ) (leaves : D → ℕ → Files → Type 0) (faults : D → ℕ) (view : EngineView L D C)
    → IsSide tells seen now leaves faults view.store → (store : StoreView D) (disk : D) (published : Bool) (lent : Option Meta) (rowset file : ℕ) → IsTrue view.store.whole → lent ≡ view.store.lent → (IsTrue tells → IsTurn seen now leaves view.store.next_file file view.store.known disk)
    → faults view.store.known ≤ faults disk → view.store.next_rowset ≤ rowset → rowset ≤ max view.store.next_rowset (view.first_rowset + most_rowsets)
    → file ≤ max view.store.next_file (view.first_file + most_files) → store ≡ record view.store { home = Some disk; known = disk; holder = None; meta = published_in published lent view.store.meta; lent = None; next_rowset = rowset; next_file = file; whole = true }
    → IsEngine log_tells log_seen log_now log_leaves log_faults view × IsStored log_tells log_seen tells seen faults view
    → IsEngine log_tells log_seen log_now log_leaves log_faults (record view { store = store }) × IsStored log_tells log_seen tells seen faults (record view { store = store })
home_both log_tells log_seen log_now log_leaves log_faults tells seen now leaves faults view side store disk published lent rowset file whole same turn more given few few_files e is = (
  store_keeps log_tells log_seen log_now log_leaves log_faults view store (ap (λ (s : StoreView _). s.whole) e ∙ sym whole) is.0,
  home_stored log_tells log_seen tells seen now leaves faults view is.1 side store disk published lent file same turn more (ap (λ (s : StoreView _). s.home) e) (ap (λ (s : StoreView _). s.known) e) (ap (λ (s : StoreView _). s.meta) e) (ap (λ (s : StoreView _). s.lent) e) (ap (λ (s : StoreView _). s.first) e)
      (subst (λ (n : ℕ). view.store.next_rowset ≤ n) (sym (ap (λ (s : StoreView _). s.next_rowset) e)) given)
      (subst (λ (n : ℕ). n ≤ max view.store.next_rowset (view.first_rowset + most_rowsets)) (sym (ap (λ (s : StoreView _). s.next_rowset) e)) few)
      (subst (λ (n : ℕ). n ≤ max view.store.next_file (view.first_file + most_files)) (sym (ap (λ (s : StoreView _). s.next_file) e)) few_files),
)
