-- What a job keeps of an engine: a freeze, and its superblock as it goes out.
use Rattle.std.proofs.Common.{◌≡◌, ◌≢◌, ℕ, zero, suc, ◌<◌, ◌≤◌, ◌+◌, ◌-◌, ◌^◌, Bool, true, false, List, [], ◌∷◌, ◌++◌, length, map, take, drop, Option, Some, None, refl, sym, ap, ◌∙◌, subst, arith, cond, inl}
use Rattle.std.specs.Prelude.{◌==◌, ◌&&◌, is_some, min, nat_le, nat_lt, not}
use Rattle.std.specs.List.{All, AllByRecursion, list_any}
use Rattle.std.proofs.lemmas.Bool.{lt-leb, le-leb, ltb-true, ne_eqb, eq-eqb, eqb-true}
use Rattle.std.proofs.lemmas.List.{length-take, take-append-drop, take_all}
use Rattle.kt_disk.specs.Disk.{Files}
use Rattle.kt_history.specs.declared.target.Target.{Target}
use Rattle.kt_history.specs.declared.target.Target.TheVariants.{Mem, Delta}
use Rattle.kt_history.specs.Stores.{Store}
use Rattle.kt_records.specs.declared.entry.Entry.{Entry}
use Rattle.kt_records.specs.declared.entry.CommitRow.{CommitRow}
use Rattle.kt_records.specs.Rules.{TargetFits}
use Rattle.kt_histlaws.specs.Core.{Core}
use Rattle.kt_rowfiles.specs.Files.{DiskRowset}
use Rattle.kt_super.specs.declared.meta.MetaRowset.{MetaRowset}
use Rattle.kt_super.specs.Rowsets.{is_rowset, AreRowsets, taken_by}
use Rattle.kt_diskrowset.specs.Rowset.{HeldFiles}
use Rattle.kt_files.specs.Content.{rowset_in, rowsets_in}
use Rattle.kt_files.specs.Reading.{HoldAll}
use Rattle.kt_content.specs.Places.{Super, last_dms_of}
use Rattle.kt_content.specs.Rules.{Rules}
use Rattle.kt_content.specs.InMemory.{Name, mem_rows, rowset}
use Rattle.kt_content.specs.Content.{NumbersDiffer, LacksNumber}
use Rattle.kt_content.specs.RunEvents.{Numbers, RecordsBelow, RowsetsBelow, StoresBelow}
use Rattle.kt_content.specs.Flushes.{AreFrom, before}
use Rattle.kt_content.proofs.RunEvents.{none_named}
use Rattle.kt_joblaws.proofs.Groups.{AllNamed, all_named}
use Rattle.kt_tablet.specs.Views.{View}
use Rattle.kt_joblaws.specs.Compacts.{left_rowsets}
use Rattle.kt_stores.specs.Takes.{Takes, rowsets, takes, of_left, over_to}
use Rattle.kt_tablet.specs.Jobs.{HasFrozen, rows_in_first}
use Rattle.kt_engine.specs.Memory.{name_of, IsNamed, AreNamed, FirstIsMem, LacksName, NamesDiffer}
use Rattle.kt_engine.specs.Logged.{KeepsSince}
use Rattle.kt_engine.specs.Over.{Over, bare_store, first_name, over_at, core_over, names_over, AreTaken, AreLeft, AreLow, AreShelved}
use Rattle.kt_engine.specs.Engines.{EngineView, IsEngine, core_from}
use Rattle.kt_engine.specs.Near.{AreNear, first_number}
use Rattle.kt_engine.specs.Stored.{IsStored, AreOutside, over, next_given, numbers_of}
use Rattle.kt_engine.specs.Jobs.{JobView, UpkeepsView, JobOn, job_of}
use Rattle.kt_engine.specs.Files.{AreFiled}
use Rattle.kt_engine.specs.JobMeta.{left_metas}
use Rattle.kt_engine.specs.JobSteps.{AreUpTo}
use Rattle.kt_engine.proofs.Frozen.{names_frozen, frozen_since}
use Rattle.kt_engine.proofs.Shelved.{frozen_shelved}
use Rattle.kt_engine.proofs.Near.{near_frozen}
use Rattle.kt_engine.proofs.Lists.{all_cons, all_head, all_tail, all_front}
use Rattle.kt_engine.proofs.Rising.{given_same, records_rise, names_rise, rowsets_rise}
use Rattle.kt_engine.proofs.Filed.{none_at}
use Rattle.kt_engine.proofs.Outside.{outside_frozen}
use Rattle.kt_engine.proofs.Stored.{to_plain, of_plain, plain, filed_now}

-- ---- a freeze, with a job that begins

module _ {L D C : Type 0} (log_tells : Bool) (log_seen : L → Files) (log_now : L → ℕ) (log_leaves : L → ℕ → Files → Type 0) (log_faults : L → ℕ) (tells : Bool) (seen : D → Files) (faults : D → ℕ) (view : EngineView L D C)
    (tablet : View C) (upkeep : UpkeepsView) (h : HasFrozen view.tablet tablet) (fits : h.number + 1 < 2 ^ 64) where
  abbrev frozen_tablet : View C
  frozen_tablet = record view.tablet { core = record view.tablet.core { stores = [] ∷ view.tablet.core.stores }; names = Mem (h.number + 1) ∷ view.tablet.names; frozen = view.tablet.frozen + 1 }

  pub frozen_keeps : upkeep.begun ≢ 0 → IsEngine log_tells log_seen log_now log_leaves log_faults view → IsEngine log_tells log_seen log_now log_leaves log_faults (record view { tablet = tablet; upkeep = upkeep })
  frozen_keeps some is = subst (λ (t : View C). IsEngine log_tells log_seen log_now log_leaves log_faults (record view { tablet = t; upkeep = upkeep })) (sym h.is) (record {
    logged = record {
      run = is.logged.run;
      all = is.logged.all;
      count = is.logged.count;
      begins = is.logged.begins;
      stands = record { log = is.logged.stands.log; since = is.logged.stands.since; last = is.logged.stands.last; flying = is.logged.stands.flying; untold = is.logged.stands.untold };
      keeps = λ rules first content plan none. absurd (some none);
      names = λ none. absurd (some none);
      framed = is.logged.framed;
      durable = is.logged.durable;
      acknowledged = is.logged.acknowledged;
    };
    home = λ journal at.
        let home = is.home journal at in
        record { opens = home.opens; others = home.others; later = home.later; known = home.known; rose = home.rose; images = home.images };
    others = is.others;
    lent = is.lent;
    whole = is.whole;
    stops = record { goes = is.stops.goes; stopped = is.stops.stopped };
    ready = record { room = is.ready.room; apart = is.ready.apart; spelled = all_cons TargetFits (Mem (h.number + 1)) view.tablet.names fits is.ready.spelled; shelved = frozen_shelved h.number view.tablet.frozen h.others view.tablet.names h.was fits is.ready.shelved; named = λ none. absurd (some none) };
    placed = is.placed;
  })

  -- the first number is that of the MemRowSet that is frozen
  first_is : first_number view.tablet.names ≡ h.number
  first_is = ap first_number h.was

  abbrev later_numbers : Numbers
  later_numbers = record { next = next_given view.store.next_rowset; active = h.number + 1; deltas = [] }

  -- its superblock's last MemRowSet lies below it
  named_above : (super : Super) → AreNamed super view.tablet.names → super.last_mem < h.number
  named_above super named = (all_head (IsNamed super) (Mem h.number) h.others (subst (All (IsNamed super)) h.was named.each)).0

  pub frozen_stored : (is : IsStored log_tells log_seen tells seen faults view) → view.upkeep.publishing ≡ None → upkeep.publishing ≡ None → upkeep.begun ≡ suc view.upkeep.begun → view.upkeep.begun < 2 ^ 24 → ((n : ℕ) (job : JobView) → job_of n upkeep ≡ Some job → JobOn (view.records ++ is.run) job)
      → AreOutside (record view { upkeep = upkeep }) (view.records ++ is.run) → IsStored log_tells log_seen tells seen faults (record view { tablet = tablet; upkeep = upkeep })
  frozen_stored is none still counted few jobs outside = subst (λ (t : View C). IsStored log_tells log_seen tells seen faults (record view { tablet = t; upkeep = upkeep })) (sym h.is) (record {
    run = is.run;
    all = is.all;
    count = is.count;
    stands = record { log = is.stands.log; since = is.stands.since; last = is.stands.last; flying = is.stands.flying; untold = is.stands.untold };
    keeps = λ rules first content plan t super one.
        let k = to_plain rules (core_from view first) super view.tablet.names view.tablet.notes view.records is.run view.log.known.count view.tablet.frozen (over_at one.meta.number (over view)) (plain view none one.meta)
        (is.keeps rules first (record { closed = content.closed; opens = content.opens; holds = content.holds }) plan t super (record { meta = one.meta; one = one.one; held = one.held; hold = one.hold; is = one.is })) in
        of_plain rules (record (core_from view first) { stores = [] ∷ view.tablet.core.stores }) super (Mem (h.number + 1) ∷ view.tablet.names) view.tablet.notes view.records is.run view.log.known.count (view.tablet.frozen + 1)
        (over_at one.meta.number (over (record view { tablet = frozen_tablet; upkeep = upkeep }))) (plain (record view { tablet = frozen_tablet; upkeep = upkeep }) still one.meta)
        (frozen_since rules (core_from view first) super view.tablet.names view.tablet.notes view.records is.run view.log.known.count (h.number + 1)
        (names_frozen super (numbers_of view) (h.number + 1) view.tablet.names (let low = named_above super k.named in omega arith) fits (omega (arith, first_is)) is.names_below k.named) k);
    below = records_rise (numbers_of view) later_numbers (view.records ++ is.run) (omega arith) (omega (arith, first_is)) is.below;
    names_below = (omega arith, names_rise (numbers_of view) later_numbers (map name_of view.tablet.names) (omega arith) (omega (arith, first_is)) is.names_below);
    near = subst (λ (n : ℕ). AreNear view.found (Mem (h.number + 1) ∷ view.tablet.names) view.first_rowset view.store.next_rowset n is.run) (sym counted)
        (near_frozen view.found view.tablet.names view.first_rowset view.store.next_rowset view.upkeep.begun h.number is.run first_is few is.near);
    files_near = is.files_near;
    room = is.room;
    rests = inl still;
    jobs = jobs;
    outside = λ n job has at. outside_frozen view.tablet view.store.meta view.store.lent upkeep view.records is.run job (outside n job has at) h.number h.others h.was;
    holds = is.holds;
    files = λ m one. subst (AreFiled tells (seen view.store.known) m.rowsets) (sym (none_at m.number upkeep view.tablet.files still)) (filed_now log_tells log_seen tells seen faults view is none m one);
    columns = is.columns;
    mark = is.mark;
    marked = is.marked;
    clock = is.clock;
    low = is.low;
    later = is.later;
    home = is.home;
  })

  -- of the job that begins: the records so far name nothing that comes from here on
  pub job_begins : (is : IsStored log_tells log_seen tells seen faults view) (job : JobView) → job.many ≡ view.log.known.count + length (view.log.out ++ view.log.queued) → job.first_rowset ≡ view.store.next_rowset → view.store.next_rowset ≢ 2 ^ 64 - 1 → job.last_mem ≡ h.number → JobOn (view.records ++ is.run) job
  job_begins is job many first few last = record {
    many = (let n = is.count in omega arith);
    names = subst (RecordsBelow (before job.first_rowset job.last_mem)) (sym (take_all job.many (view.records ++ is.run) (let n = is.count in omega arith)))
        (records_rise (numbers_of view) (before job.first_rowset job.last_mem) (view.records ++ is.run) (let same = given_same view.store.next_rowset few in omega arith) (omega (arith, first_is)) is.below);
  }

-- and of a compaction that begins, which freezes nothing
pub compaction_on : {L D C : Type 0} (log_tells : Bool) (log_seen : L → Files) (tells : Bool) (seen : D → Files) (faults : D → ℕ) (view : EngineView L D C) (is : IsStored log_tells log_seen tells seen faults view) (job : JobView) → job.many ≡ view.log.known.count + length (view.log.out ++ view.log.queued)
    → job.first_rowset ≡ view.store.next_rowset → view.store.next_rowset ≢ 2 ^ 64 - 1 → job.last_mem ≡ first_number view.tablet.names → JobOn (view.records ++ is.run) job
compaction_on log_tells log_seen tells seen faults view is job many first few last = record {
  many = (let n = is.count in omega arith);
  names = subst (RecordsBelow (before job.first_rowset job.last_mem)) (sym (take_all job.many (view.records ++ is.run) (let n = is.count in omega arith)))
      (records_rise (numbers_of view) (before job.first_rowset job.last_mem) (view.records ++ is.run) (let same = given_same view.store.next_rowset few in omega arith) (omega (arith, last)) is.below);
}

-- ---- names before and after a flush

-- those of all names that a superblock takes
named_taken : (super : Super) (last : ℕ) (names : List Target) → All (IsNamed super) names → AreUpTo last names → AreTaken super.last_mem last names
named_taken super last [] named up = tt
named_taken super last (Mem n ∷ names) named up = (((all_head (IsNamed super) (Mem n) names named).0, up.0), named_taken super last names (all_tail (IsNamed super) (Mem n) names named) up.1)
named_taken super last (Delta r n ∷ names) named up = absurd up

-- so it is of the frozen ones among the names of a tablet
pub taken_of : (super : Super) (active last : ℕ) (taken others : List Target) → AreNamed super (Mem active ∷ taken ++ others) → AreUpTo last taken → AreTaken super.last_mem last taken
taken_of super active last taken others named up = named_taken super last taken (all_front (IsNamed super) taken others (all_tail (IsNamed super) (Mem active) (taken ++ others) named.each)) up

pub first_above : (super : Super) (active : ℕ) (names : List Target) → AreNamed super (Mem active ∷ names) → super.last_mem < active
first_above super active names named = (all_head (IsNamed super) (Mem active) names named.each).0

-- ---- files of a superblock with rowsets more

pub hold_both : (files : Files) (rs ms : List MetaRowset) (hs gs : List HeldFiles) → HoldAll files rs hs → HoldAll files ms gs → HoldAll files (rs ++ ms) (hs ++ gs)
hold_both files [] ms [] gs h g = g
hold_both files [] ms (x ∷ hs) gs h g = absurd h
hold_both files (r ∷ rs) ms [] gs h g = absurd h
hold_both files (r ∷ rs) ms (x ∷ hs) gs h g = (h.0, hold_both files rs ms hs gs h.1 g)

pub rowsets_of_both : (files : Files) (rs ms : List MetaRowset) (hs gs : List HeldFiles) → HoldAll files rs hs → rowsets_in (rs ++ ms) (hs ++ gs) ≡ rowsets_in rs hs ++ rowsets_in ms gs
rowsets_of_both files [] ms [] gs h = refl
rowsets_of_both files [] ms (x ∷ hs) gs h = absurd h
rowsets_of_both files (r ∷ rs) ms [] gs h = absurd h
rowsets_of_both files (r ∷ rs) ms (x ∷ hs) gs h = ap (λ (l : List DiskRowset). rowset_in r x ∷ l) (rowsets_of_both files rs ms hs gs h.1)

-- ---- which superblock is told of what

-- the job's own is told of the stores once it is over, and the one before it of those that stand
pub later_over : (m : ℕ) (o : Over) → o.number ≤ m → over_at m (Some o) ≡ Some o
later_over m o le = ap (λ (b : Bool). cond b (Some o) None) (le-leb o.number m le)

pub before_over : (m : ℕ) (o : Over) → m < o.number → over_at m (Some o) ≡ None
before_over m o lt = ap (λ (b : Bool). cond b (Some o) None) (lt-leb o.number m lt)

-- ---- a job is over

-- A superblock from the job's own on is told of the stores that the tablet has now
pub finished_since : (rules : Rules) (core : Core) (super : Super) (names : List Target) (notes : List (List CommitRow)) (records run : List Entry) (durable m : ℕ) (o : Over) → o.number ≤ m
    → KeepsSince rules (core_over (over_at m (Some o)) names core) super (names_over (over_at m (Some o)) names) notes records run durable
    → KeepsSince rules (record core { stores = over_to o.takes (map bare_store o.outputs) names core.stores }) super (over_to o.takes (map first_name o.outputs) names names) notes records run durable
finished_since rules core super names notes records run durable m o le k =
    subst (λ (p : Option Over). KeepsSince rules (core_over p names core) super (names_over p names) notes records run durable) (later_over m o le) k

-- ---- the names of a flush's superblock

last_front : (r : ℕ) (xs ys : List DiskRowset) (n : ℕ) → last_dms_of r xs ≡ Some n → last_dms_of r (xs ++ ys) ≡ Some n
last_front r [] ys n e = absurd (let f : None ≡ Some n = e in cc)
last_front r (d ∷ xs) ys n e = elim (d.rowset == r) as (λ (b : Bool). cond b (Some d.last_dms) (last_dms_of r xs) ≡ Some n → cond b (Some d.last_dms) (last_dms_of r (xs ++ ys)) ≡ Some n) [
  | true ↦ λ e. e
  | false ↦ λ e. last_front r xs ys n e
] e

-- others keep their place under a superblock with the outputs
pub left_named : (super : Super) (a c need last_mem next : ℕ) (outputs : List DiskRowset) (names : List Target) → AreLeft next names → All (IsNamed super) names
    → All (IsNamed (record { a = a; c = c; need = need; last_mem = last_mem; rowsets = super.rowsets ++ outputs })) names
left_named super a c need last_mem next outputs [] left named = named_nothing
  where
    named_nothing : All (IsNamed (record { a = a; c = c; need = need; last_mem = last_mem; rowsets = super.rowsets ++ outputs })) []
    named_nothing k d low = absurd (omega arith)
left_named super a c need last_mem next outputs (Mem n ∷ names) left named = absurd left
left_named super a c need last_mem next outputs (Delta r n ∷ names) left named =
    let own = all_head (IsNamed super) (Delta r n) names named in
    all_cons (IsNamed (record { a = a; c = c; need = need; last_mem = last_mem; rowsets = super.rowsets ++ outputs })) (Delta r n) names
    ((own.0.0, last_front r super.rowsets outputs own.0.0 own.0.1, own.0.2), own.1, own.2)
    (left_named super a c need last_mem next outputs names left.1 (all_tail (IsNamed super) (Delta r n) names named))

-- ---- without the rowsets of a compaction

-- of these numbers
abbrev pub take_of : List ℕ → ℕ → Bool
take_of taken r = list_any (λ (s : ℕ). s == r) taken

abbrev pub left_held : List ℕ → List MetaRowset → List HeldFiles → List HeldFiles
left_held taken [] hs = []
left_held taken (r ∷ rs) [] = []
left_held taken (r ∷ rs) (h ∷ hs) = cond (take_of taken r.rowset) (left_held taken rs hs) (h ∷ left_held taken rs hs)

pub hold_left : (files : Files) (taken : List ℕ) (rs : List MetaRowset) (hs : List HeldFiles) → HoldAll files rs hs → HoldAll files (left_metas taken rs) (left_held taken rs hs)
hold_left files taken [] [] h = h
hold_left files taken [] (x ∷ hs) h = absurd h
hold_left files taken (r ∷ rs) [] h = absurd h
hold_left files taken (r ∷ rs) (x ∷ hs) h = by (take_of taken r.rowset) (hold_left files taken rs hs h.1)
  where
    by : (b : Bool) → HoldAll files (left_metas taken rs) (left_held taken rs hs) → HoldAll files (cond (not b) (r ∷ left_metas taken rs) (left_metas taken rs)) (cond b (left_held taken rs hs) (x ∷ left_held taken rs hs))
    by true rest = rest
    by false rest = (h.0, rest)

pub rowsets_left : (files : Files) (taken : List ℕ) (rs : List MetaRowset) (hs : List HeldFiles) → HoldAll files rs hs → rowsets_in (left_metas taken rs) (left_held taken rs hs) ≡ left_rowsets (take_of taken) (rowsets_in rs hs)
rowsets_left files taken [] [] h = refl
rowsets_left files taken [] (x ∷ hs) h = absurd h
rowsets_left files taken (r ∷ rs) [] h = absurd h
rowsets_left files taken (r ∷ rs) (x ∷ hs) h =
    by (take_of taken r.rowset) (rowsets_left files taken rs hs h.1)
    ∙ ap (λ (n : ℕ). cond (not (take_of taken n)) (rowset_in r x ∷ left_rowsets (take_of taken) (rowsets_in rs hs)) (left_rowsets (take_of taken) (rowsets_in rs hs))) (sym h.0.number)
  where
    by : (b : Bool) → rowsets_in (left_metas taken rs) (left_held taken rs hs) ≡ left_rowsets (take_of taken) (rowsets_in rs hs)
        → rowsets_in (cond (not b) (r ∷ left_metas taken rs) (left_metas taken rs)) (cond b (left_held taken rs hs) (x ∷ left_held taken rs hs)) ≡ cond (not b) (rowset_in r x ∷ left_rowsets (take_of taken) (rowsets_in rs hs)) (left_rowsets (take_of taken) (rowsets_in rs hs))
    by true rest = rest
    by false rest = ap (λ (l : List DiskRowset). rowset_in r x ∷ l) rest

-- ---- the stores of a tablet, taken apart

pub names_split : (names : List Target) (n frozen : ℕ) → FirstIsMem names → n < first_number names → names ≡ Mem (first_number names) ∷ take frozen (drop 1 names) ++ drop frozen (drop 1 names)
names_split [] n frozen first lt = absurd (omega arith)
names_split (Mem m ∷ names) n frozen first lt = ap (λ (l : List Target). Mem m ∷ l) (sym (take-append-drop frozen names))
names_split (Delta r m ∷ names) n frozen first lt = absurd first

pub names_first : (names : List Target) → FirstIsMem names → 0 < length names → names ≡ Mem (first_number names) ∷ drop 1 names
names_first [] first some = absurd (omega arith)
names_first (Mem m ∷ names) first some = refl
names_first (Delta r m ∷ names) first some = absurd first

pub stores_first : (stores : List Store) → 0 < length stores → (s : Store) × (stores ≡ s ∷ drop 1 stores)
stores_first [] some = absurd (omega arith)
stores_first (s ∷ stores) some = (s, refl)

pub stores_split : (stores : List Store) (frozen : ℕ) → 0 < length stores → rows_in_first stores ≡ [] → stores ≡ [] ∷ take frozen (drop 1 stores) ++ drop frozen (drop 1 stores)
stores_split [] frozen some none = absurd (omega arith)
stores_split (s ∷ stores) frozen some none = ap (λ (x : Store). x ∷ stores) none ∙ ap (λ (l : List Store). [] ∷ l) (sym (take-append-drop frozen stores))

take_long : {A B : Type 0} (n : ℕ) (xs : List A) (ys : List B) → length xs ≡ length ys → length (take n xs) ≡ length (take n ys)
take_long n xs ys e = length-take n xs ∙ ap (min n) e ∙ sym (length-take n ys)

pub frozen_long : {A B : Type 0} (n : ℕ) (xs : List A) (ys : List B) → length xs ≡ length ys → length (take n (drop 1 xs)) ≡ length (take n (drop 1 ys))
frozen_long n [] [] e = take_long n [] [] refl
frozen_long n [] (y ∷ ys) e = absurd (omega arith)
frozen_long n (x ∷ xs) [] e = absurd (omega arith)
frozen_long n (x ∷ xs) (y ∷ ys) e = take_long n xs ys (omega arith)

rowset_low : (least next n : ℕ) → is_rowset least next n ≡ true → n < next
rowset_low least next n e = ltb-true n next (right (nat_le least n) (nat_lt n next) e)
  where
    right : (a b : Bool) → (a && b) ≡ true → b ≡ true
    right true b h = h
    right false b h = absurd (let f : false ≡ true = h in cc)

-- the rowsets of a superblock have numbers below its next one
pub meta_below : (files : Files) (low next file least last : ℕ) (taken : List ℕ) (rs : List MetaRowset) (hs : List HeldFiles) → AreRowsets low file least taken rs → low ≤ next → HoldAll files rs hs → RowsetsBelow (before next last) (rowsets_in rs hs)
meta_below files low next file least last taken [] [] are le h = tt
meta_below files low next file least last taken [] (x ∷ hs) are le h = absurd h
meta_below files low next file least last taken (r ∷ rs) [] are le h = absurd h
meta_below files low next file least last taken (r ∷ rs) (x ∷ hs) are le h =
    (let same = h.0.number in let below = rowset_low least low r.rowset are.0.rowset in omega arith, meta_below files low next file (r.rowset + 1) last (taken_by taken r) rs hs are.1 le h.1)

-- ---- the names of its stores once a job is over

pub both_below : (numbers : Numbers) (xs ys : List Target) → StoresBelow numbers (map name_of xs) → StoresBelow numbers (map name_of ys) → StoresBelow numbers (map name_of (xs ++ ys))
both_below numbers [] ys own rest = rest
both_below numbers (Mem n ∷ xs) ys own rest = (own.0, both_below numbers xs ys own.1 rest)
both_below numbers (Delta r n ∷ xs) ys own rest = (own.0, both_below numbers xs ys own.1 rest)

pub come_below : (numbers : Numbers) (outputs : List DiskRowset) → RowsetsBelow numbers outputs → StoresBelow numbers (map name_of (map first_name outputs))
come_below numbers [] own = tt
come_below numbers (d ∷ outputs) own = (own.0, come_below numbers outputs own.1)

pub some_below : (numbers : Numbers) (t : Takes) (names : List Target) → StoresBelow numbers (map name_of names) → StoresBelow numbers (map name_of (of_left t names names))
some_below numbers t [] below = tt
some_below numbers t (Mem n ∷ names) below = by (takes t (Mem n)) (some_below numbers t names below.1)
  where
    by : (b : Bool) → StoresBelow numbers (map name_of (of_left t names names)) → StoresBelow numbers (map name_of (cond b (of_left t names names) (Mem n ∷ of_left t names names)))
    by true rest = rest
    by false rest = (below.0, rest)
some_below numbers t (Delta r n ∷ names) below = by (takes t (Delta r n)) (some_below numbers t names below.1)
  where
    by : (b : Bool) → StoresBelow numbers (map name_of (of_left t names names)) → StoresBelow numbers (map name_of (cond b (of_left t names names) (Delta r n ∷ of_left t names names)))
    by true rest = rest
    by false rest = (below.0, rest)

low_below : (old : Numbers) (high next : ℕ) (names : List Target) → next ≤ high → AreLow next names → StoresBelow old (map name_of names) → StoresBelow (record { next = high; active = old.active; deltas = [] }) (map name_of names)
low_below old high next [] le low below = tt
low_below old high next (Mem n ∷ names) le low below = (below.0, low_below old high next names le low below.1)
low_below old high next (Delta r n ∷ names) le low below = (let lt = low.0 in omega arith, low_below old high next names le low.1 below.1)

pub over_below : (old : Numbers) (high active next last : ℕ) (outputs : List DiskRowset) (left : List Target) → next ≤ high → active ≡ old.active → RowsetsBelow (before high last) outputs → AreLow next left → StoresBelow old (map name_of left)
    → StoresBelow (record { next = high; active = active; deltas = [] }) (map name_of (Mem active ∷ left ++ map first_name outputs))
over_below old high active next last outputs left le same own low below =
    let numbers : Numbers = record { next = high; active = active; deltas = [] } in (
      omega arith,
      both_below numbers left (map first_name outputs) (subst (λ (m : ℕ). StoresBelow (record { next = high; active = m; deltas = [] }) (map name_of left)) (sym same) (low_below old high next left le low below))
          (come_below numbers outputs (rowsets_rise (before high last) numbers outputs (omega arith) own)),
    )

-- ---- disk rowsets among all

pub low_left : (next : ℕ) (names : List Target) → AreLeft next names → AreLow next names
low_left next [] left = tt
low_left next (Mem n ∷ names) left = absurd left
low_left next (Delta r n ∷ names) left = (left.0, low_left next names left.1)

pub low_shelved : (many below next : ℕ) (names : List Target) → AreShelved many below names → AreLeft next (drop many names) → AreLow next names
low_shelved zero below next names are left = low_left next names left
low_shelved (suc many) below next [] are left = absurd are
low_shelved (suc many) below next (Mem n ∷ names) are left = low_shelved many n next names are.1 left
low_shelved (suc many) below next (Delta r n ∷ names) are left = absurd are

pub low_some : (next : ℕ) (t : Takes) (names : List Target) → AreLow next names → AreLow next (of_left t names names)
low_some next t [] low = tt
low_some next t (Mem n ∷ names) low = by (takes t (Mem n)) (low_some next t names low)
  where
    by : (b : Bool) → AreLow next (of_left t names names) → AreLow next (cond b (of_left t names names) (Mem n ∷ of_left t names names))
    by true rest = rest
    by false rest = rest
low_some next t (Delta r n ∷ names) low = by (takes t (Delta r n)) (low_some next t names low.1)
  where
    by : (b : Bool) → AreLow next (of_left t names names) → AreLow next (cond b (of_left t names names) (Delta r n ∷ of_left t names names))
    by true rest = rest
    by false rest = (low.0, rest)

pub each_behind : (P : Target → Type 0) (xs ys : List Target) → All P (xs ++ ys) → All P ys
each_behind P [] ys each = each
each_behind P (x ∷ xs) ys each = each_behind P xs ys (all_tail P x (xs ++ ys) each)

-- ---- those that are left differ

lacks_behind : (n : Name) (xs ys : List Target) → LacksName n (xs ++ ys) → LacksName n ys
lacks_behind n [] ys lacks = lacks
lacks_behind n (x ∷ xs) ys lacks = lacks_behind n xs ys lacks.1

differ_behind : (xs ys : List Target) → NamesDiffer (xs ++ ys) → NamesDiffer ys
differ_behind [] ys differ = differ
differ_behind (x ∷ xs) ys differ = differ_behind xs ys differ.1

pub first_differs : (active : ℕ) (taken others : List Target) → NamesDiffer (Mem active ∷ taken ++ others) → NamesDiffer (Mem active ∷ others)
first_differs active taken others differ = (lacks_behind (mem_rows active) taken others differ.0, differ_behind taken others differ.1)

lacks_some : (n : Name) (t : Takes) (names : List Target) → LacksName n names → LacksName n (of_left t names names)
lacks_some n t [] lacks = tt
lacks_some n t (x ∷ names) lacks = by (takes t x) (lacks_some n t names lacks.1)
  where
    by : (b : Bool) → LacksName n (of_left t names names) → LacksName n (cond b (of_left t names names) (x ∷ of_left t names names))
    by true rest = rest
    by false rest = (lacks.0, rest)

differ_some : (t : Takes) (names : List Target) → NamesDiffer names → NamesDiffer (of_left t names names)
differ_some t [] differ = tt
differ_some t (x ∷ names) differ = by (takes t x) (differ_some t names differ.1)
  where
    by : (b : Bool) → NamesDiffer (of_left t names names) → NamesDiffer (cond b (of_left t names names) (x ∷ of_left t names names))
    by true rest = rest
    by false rest = (lacks_some (name_of x) t names differ.0, rest)

pub some_differ : (active : ℕ) (t : Takes) (others : List Target) → NamesDiffer (Mem active ∷ others) → NamesDiffer (Mem active ∷ of_left t others others)
some_differ active t others differ = (lacks_some (mem_rows active) t others differ.0, differ_some t others differ.1)

-- ---- their names differ, and each is needed under the job's superblock

abbrev pub AllFirst : List DiskRowset → Type 0
AllFirst outputs = AllByRecursion (λ (d : DiskRowset). d.last_dms ≡ 0) outputs

last_behind : (r : ℕ) (xs ys : List DiskRowset) → last_dms_of r xs ≡ None → last_dms_of r (xs ++ ys) ≡ last_dms_of r ys
last_behind r [] ys none = refl
last_behind r (d ∷ xs) ys none = elim (d.rowset == r) as (λ (b : Bool). cond b (Some d.last_dms) (last_dms_of r xs) ≡ None → cond b (Some d.last_dms) (last_dms_of r (xs ++ ys)) ≡ last_dms_of r ys) [
  | true ↦ λ e. absurd (let f : Some d.last_dms ≡ None = e in cc)
  | false ↦ λ e. last_behind r xs ys e
] none

first_last : (r : ℕ) (outputs : List DiskRowset) → AllFirst outputs → is_some (last_dms_of r outputs) ≡ true → last_dms_of r outputs ≡ Some 0
first_last r [] all some = absurd (let f : false ≡ true = some in cc)
first_last r (d ∷ outputs) all some = elim (d.rowset == r) as (λ (b : Bool). is_some (cond b (Some d.last_dms) (last_dms_of r outputs)) ≡ true → cond b (Some d.last_dms) (last_dms_of r outputs) ≡ Some 0) [
  | true ↦ λ e. ap Some all.0
  | false ↦ λ e. first_last r outputs all.1 e
] some

-- what a compaction does not take stays where it was
last_left : (taken : List ℕ) (r : ℕ) (ds : List DiskRowset) → take_of taken r ≡ false → last_dms_of r (left_rowsets (take_of taken) ds) ≡ last_dms_of r ds
last_left taken r [] apart = refl
last_left taken r (d ∷ ds) apart = by (last_left taken r ds apart) (d.rowset == r) refl
  where
    goes : (b : Bool) → last_dms_of r (left_rowsets (take_of taken) ds) ≡ last_dms_of r ds → (d.rowset == r) ≡ false
        → last_dms_of r (cond (not b) (d ∷ left_rowsets (take_of taken) ds) (left_rowsets (take_of taken) ds)) ≡ last_dms_of r ds
    goes true rest e = rest
    goes false rest e = ap (λ (c : Bool). cond c (Some d.last_dms) (last_dms_of r (left_rowsets (take_of taken) ds))) e ∙ rest

    by : last_dms_of r (left_rowsets (take_of taken) ds) ≡ last_dms_of r ds → (b : Bool) → (d.rowset == r) ≡ b → last_dms_of r (left_rowsets (take_of taken) (d ∷ ds)) ≡ cond (d.rowset == r) (Some d.last_dms) (last_dms_of r ds)
    by rest true e =
        let stays : take_of taken d.rowset ≡ false = ap (take_of taken) (eqb-true d.rowset r e) ∙ apart in
        ap (λ (c : Bool). last_dms_of r (cond (not c) (d ∷ left_rowsets (take_of taken) ds) (left_rowsets (take_of taken) ds))) stays
        ∙ ap (λ (c : Bool). cond c (Some d.last_dms) (last_dms_of r (left_rowsets (take_of taken) ds))) e ∙ sym (ap (λ (c : Bool). cond c (Some d.last_dms) (last_dms_of r ds)) e)
    by rest false e = goes (take_of taken d.rowset) rest e ∙ sym (ap (λ (c : Bool). cond c (Some d.last_dms) (last_dms_of r ds)) e)

all_nothing : (P : Target → Type 0) → All P []
all_nothing P k d low = absurd (omega arith)

all_both : (P : Target → Type 0) (xs ys : List Target) → All P xs → All P ys → All P (xs ++ ys)
all_both P [] ys own rest = rest
all_both P (x ∷ xs) ys own rest = all_cons P x (xs ++ ys) (all_head P x xs own) (all_both P xs ys (all_tail P x xs own) rest)

module _ (a c need last_mem mem next high : ℕ) (kept outputs : List DiskRowset) (below : RowsetsBelow (before next mem) kept) (all : AllFirst outputs) (few : high < 2 ^ 64) where
  abbrev named_super : Super
  named_super = record { a = a; c = c; need = need; last_mem = last_mem; rowsets = kept ++ outputs }

  come_named : (sub : List DiskRowset) → AreFrom next sub → AllNamed outputs sub → RowsetsBelow (before high mem) sub → All (IsNamed named_super) (map first_name sub)
  come_named [] from named own = all_nothing (IsNamed named_super)
  come_named (d ∷ sub) from named own =
      let last : last_dms_of d.rowset (kept ++ outputs) ≡ Some 0 =
      last_behind d.rowset kept outputs (none_named (before next mem) kept d.rowset below from.0) ∙ first_last d.rowset outputs all named.0 in
      all_cons (IsNamed named_super) (first_name d) (map first_name sub) ((0, last, omega arith), (let lt = own.0 in omega arith), omega arith) (come_named sub from.1 named.1 own.1)

  mem_lacks : (n : ℕ) (sub : List DiskRowset) → LacksName (mem_rows n) (map first_name sub)
  mem_lacks n [] = tt
  mem_lacks n (d ∷ sub) = (refl, mem_lacks n sub)

  -- an output's number is none of the others'
  low_lacks : (r : ℕ) (sub : List DiskRowset) → r < next → AreFrom next sub → LacksName (rowset r) (map first_name sub)
  low_lacks r [] lt from = tt
  low_lacks r (d ∷ sub) lt from = (ne_eqb d.rowset r (λ e. let le = from.0 in omega arith), low_lacks r sub lt from.1)

  other_way : (r s : ℕ) → (r == s) ≡ false → (s == r) ≡ false
  other_way r s e = ne_eqb s r (λ same. let f : true ≡ false = sym (eq-eqb r s (sym same)) ∙ e in cc)

  rowset_lacks : (r : ℕ) (sub : List DiskRowset) → LacksNumber r sub → LacksName (rowset r) (map first_name sub)
  rowset_lacks r [] lacks = tt
  rowset_lacks r (d ∷ sub) lacks = (other_way r d.rowset lacks.0, rowset_lacks r sub lacks.1)

  come_differ : (sub : List DiskRowset) → NumbersDiffer sub → NamesDiffer (map first_name sub)
  come_differ [] own = tt
  come_differ (d ∷ sub) own = (rowset_lacks d.rowset sub own.0, come_differ sub own.1)

  lacks_both : (n : Name) (xs ys : List Target) → LacksName n xs → LacksName n ys → LacksName n (xs ++ ys)
  lacks_both n [] ys own rest = rest
  lacks_both n (x ∷ xs) ys own rest = (own.0, lacks_both n xs ys own.1 rest)

  both_differ : (xs : List Target) → AreLow next xs → AreFrom next outputs → NumbersDiffer outputs → NamesDiffer xs → NamesDiffer (xs ++ map first_name outputs)
  both_differ [] low from own differ = come_differ outputs own
  both_differ (Mem n ∷ xs) low from own differ = (lacks_both (mem_rows n) xs (map first_name outputs) differ.0 (mem_lacks n outputs), both_differ xs low from own differ.1)
  both_differ (Delta r n ∷ xs) low from own differ = (lacks_both (rowset r) xs (map first_name outputs) differ.0 (low_lacks r outputs low.0 from), both_differ xs low.1 from own differ.1)

  -- so they are the names of the stores once the job is over
  pub over_named : (active : ℕ) (left : List Target) → IsNamed named_super (Mem active) → All (IsNamed named_super) left → NamesDiffer (Mem active ∷ left) → AreLow next left → AreFrom next outputs → NumbersDiffer outputs
      → RowsetsBelow (before high mem) outputs → AreNamed named_super (Mem active ∷ left ++ map first_name outputs)
  over_named active left first each differ low from own given = record {
    each = all_cons (IsNamed named_super) (Mem active) (left ++ map first_name outputs) first (all_both (IsNamed named_super) left (map first_name outputs) each (come_named outputs from (all_named [] outputs) given));
    first = tt;
    differ = both_differ (Mem active ∷ left) low from own differ;
  }

-- what a compaction leaves keeps its place under its superblock
module _ (super : Super) (a c need : ℕ) (taken : List ℕ) (outputs : List DiskRowset) where
  abbrev its_super : Super
  its_super = record { a = a; c = c; need = need; last_mem = super.last_mem; rowsets = left_rowsets (take_of taken) super.rowsets ++ outputs }

  one_named : (n : Target) → takes (rowsets taken) n ≡ false → IsNamed super n → IsNamed its_super n
  one_named (Mem n) stays own = own
  one_named (Delta r n) stays own = ((own.0.0, last_front r (left_rowsets (take_of taken) super.rowsets) outputs own.0.0 (last_left taken r super.rowsets stays ∙ own.0.1), own.0.2), own.1, own.2)

  pub some_named : (names : List Target) → All (IsNamed super) names → All (IsNamed its_super) (of_left (rowsets taken) names names)
  some_named [] named = all_nothing (IsNamed its_super)
  some_named (n ∷ names) named = by (takes (rowsets taken) n) refl (some_named names (all_tail (IsNamed super) n names named))
    where
      by : (b : Bool) → takes (rowsets taken) n ≡ b → All (IsNamed its_super) (of_left (rowsets taken) names names) → All (IsNamed its_super) (cond b (of_left (rowsets taken) names names) (n ∷ of_left (rowsets taken) names names))
      by true e rest = rest
      by false e rest = all_cons (IsNamed its_super) n (of_left (rowsets taken) names names) (one_named n e (all_head (IsNamed super) n names named)) rest
