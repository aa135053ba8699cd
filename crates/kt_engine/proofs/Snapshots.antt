-- What a flush reads of the stores in memory.
use Rattle.std.proofs.Common.{◌≡◌, ◌≤◌, ◌<◌, ◌^◌, ℕ, zero, suc, ◌+◌, min, Bool, true, false, List, [], ◌∷◌, ◌++◌, map, length, get_or, take, drop, Option, Some, None, refl, sym, ap, ◌∙◌, subst, arith, append_assoc, cond, inl}
use Rattle.std.specs.Prelude.{IsTrue}
use Rattle.std.specs.List.{All, AllByRecursion}
use Rattle.std.proofs.lemmas.Bool.{lt-ltb}
use Rattle.std.proofs.lemmas.List.{map-append}
use Rattle.kt_disk.specs.Disk.{Files}
use Rattle.kt_history.specs.declared.changes.KeyChange.{KeyChange}
use Rattle.kt_history.specs.declared.target.Target.{Target}
use Rattle.kt_history.specs.declared.target.Target.TheVariants.{Mem, Delta}
use Rattle.kt_history.specs.Grown.{AllGrown}
use Rattle.kt_history.specs.History.{Past}
use Rattle.kt_history.specs.Stores.{Hist, Store, hist_in}
use Rattle.kt_history.specs.Machine.{least}
use Rattle.kt_histlaws.specs.Core.{Core, Stands, flown_by}
use Rattle.kt_histlaws.specs.Flights.{AllUnder}
use Rattle.kt_histlaws.specs.Histories.{hists}
use Rattle.kt_histlaws.specs.Pending.{Aloft}
use Rattle.kt_records.specs.declared.entry.Entry.{Entry}
use Rattle.kt_journal.specs.Log.{IsLog}
use Rattle.kt_rowfiles.specs.Merging.{joined_history}
use Rattle.kt_content.specs.Rules.{Rules, HistPasses}
use Rattle.kt_content.specs.Places.{Super, memory, disk, last_dms_of}
use Rattle.kt_content.specs.InMemory.{is_at, if_there, group}
use Rattle.kt_diskrowset.specs.declared.data.RowSetData.{RowSetData}
use Rattle.kt_diskrowset.specs.declared.inputs.Inputs.{Inputs}
use Rattle.kt_diskrowset.specs.Data.{store_in}
use Rattle.kt_merge.specs.Changes.{rises, hist_in_changes}
use Rattle.kt_merge.specs.Heads.{hist_upto}
use Rattle.kt_merge.specs.Merge.{IsReadable, AreReadable, AreFaultless}
use Rattle.kt_reopen.specs.Both.{super_in}
use Rattle.kt_joblaws.specs.Apart.{AreApart}
use Rattle.kt_joblaws.proofs.InMemory.{memory_passes}
use Rattle.kt_joblaws.proofs.Listed.{they_tell}
use Rattle.kt_joblaws.proofs.ListsRise.{they_rise}
use Rattle.kt_joblaws.proofs.Read.{some_apart, no_fault}
use Rattle.kt_joblaws.proofs.Standing.{stand_apart}
use Rattle.kt_tablet.specs.Views.{View, Opens, IsSound}
use Rattle.kt_engine.specs.Columns.{ReadsMemory}
use Rattle.kt_engine.specs.Engines.{EngineView, IsContent, IsEngine, core_from}
use Rattle.kt_engine.specs.Jobs.{over_by}
use Rattle.kt_engine.specs.JobSteps.{HasInput, TellAll, TellPassing}
use Rattle.kt_engine.specs.Logged.{PlanPasses, UntoldFly, KeepsSince}
use Rattle.kt_engine.specs.Memory.{by_name, IsNamed, resident}
use Rattle.kt_engine.specs.Over.{AreRowsetNames, AreShelved, over_at, core_over, names_over}
use Rattle.kt_engine.specs.Stored.{IsStored, IsSuperOf}
use Rattle.kt_engine.proofs.Lists.{all_head, all_tail}
use Rattle.kt_engine.proofs.Flushed.{each_told}
use Rattle.kt_engine.proofs.LaterFiles.{none_are_upto}

-- ---- the first stores

parts_are : {A : Type 0} (n : ℕ) (xs : List A) → take n xs ++ drop n xs ≡ xs
parts_are zero xs = refl
parts_are (suc n) [] = refl
parts_are (suc n) (x ∷ xs) = ap (λ (l : List _). x ∷ l) (parts_are n xs)

first_hists : (q : List ℕ) (n : ℕ) (stores : List Store) → take n (hists q stores) ≡ hists q (take n stores)
first_hists q zero stores = refl
first_hists q (suc n) [] = refl
first_hists q (suc n) (s ∷ stores) = ap (λ (l : List Hist). hist_in q s ∷ l) (first_hists q n stores)

first_under : (top : ℕ) (q : List ℕ) (n : ℕ) (stores : List Store) → AllUnder top (hists q stores) → AllUnder top (hists q (take n stores))
first_under top q zero stores u = tt
first_under top q (suc n) [] u = tt
first_under top q (suc n) (s ∷ stores) u = (u.0, first_under top q n stores u.1)

first_apart : (a : ℕ) (q : List ℕ) (n : ℕ) (stores : List Store) → AreApart a (hists q stores) → AreApart a (hists q (take n stores))
first_apart a q n stores apart =
    some_apart a (hists q (take n stores)) (hists q (drop n stores))
    (subst (AreApart a) (sym (ap (hists q) (parts_are n stores)) ∙ map-append (hist_in q) (take n stores) (drop n stores)) apart)

-- ---- what is read of them

as_listed : (bound : ℕ) (q : List ℕ) (mems : List (List KeyChange)) → map (hist_upto bound) (map (hist_in_changes q) mems ++ []) ≡ map (λ (list : List KeyChange). hist_upto bound (hist_in_changes q list)) mems
as_listed bound q [] = refl
as_listed bound q (list ∷ mems) = ap (λ (l : List Hist). hist_upto bound (hist_in_changes q list) ∷ l) (as_listed bound q mems)

module _ {C : Type 0} (readings : C → Option (List ℕ)) (tablet : View C) (inputs : Inputs) (reads : ReadsMemory tablet tablet.core.c inputs) where
  abbrev firsts : List Store
  firsts = take (suc tablet.frozen) tablet.core.stores

  rising_lists : AllGrown firsts → AllByRecursion (λ (list : List KeyChange). rises list ≡ true) inputs.mems
  rising_lists grown = subst (AllByRecursion (λ (list : List KeyChange). rises list ≡ true)) (sym reads.mems) (they_rise tablet.core.c firsts grown)

  pub readable : AllGrown firsts → AreReadable inputs
  readable grown = record {
    ids = reads.shapes.rise;
    few = reads.shapes.few;
    mems = rising_lists grown;
    rowsets = subst (AllByRecursion IsReadable) (sym reads.rowsets) tt;
  }

  module _ (grown : AllGrown firsts) (sound : IsSound readings tablet) (first : Past) (opens : Opens tablet.opening tablet.mark tablet.core.opened first) where
    stands : Stands (record tablet.core { first = first })
    stands = sound.stands first opens

    pub tell_all : TellAll tablet [] tablet.core.c inputs
    tell_all q =
        ap (λ (l : List RowSetData). map (hist_upto tablet.core.c) (map (hist_in_changes q) inputs.mems ++ map (λ (d : RowSetData). hist_in q (store_in d)) l)) reads.rowsets
        ∙ as_listed tablet.core.c q inputs.mems
        ∙ ap (map (λ (list : List KeyChange). hist_upto tablet.core.c (hist_in_changes q list))) reads.mems
        ∙ they_tell tablet.core.c q firsts grown (first_under (suc tablet.core.c) q (suc tablet.frozen) tablet.core.stores (stand_apart (record tablet.core { first = first }) q stands).1)

    own_apart : (q : List ℕ) → AreApart tablet.core.a (hists q firsts)
    own_apart q = first_apart tablet.core.a q (suc tablet.frozen) tablet.core.stores (stand_apart (record tablet.core { first = first }) q stands).0

    pub mark_is : min tablet.core.c tablet.core.a ≡ tablet.core.a
    mark_is = let low = stands.flown.marked in omega arith

    pub faultless : tablet.core.c < 2 ^ 64 → AreFaultless (record { mark = tablet.core.a; bound = tablet.core.c }) inputs
    faultless small = no_fault (record { mark = tablet.core.a; bound = tablet.core.c }) inputs reads.rowsets small reads.shapes reads.table (rising_lists grown)
        (λ q. subst (AreApart tablet.core.a) (sym (tell_all q)) (own_apart q))

-- ---- the MemRowSets stand for the place in memory

not_memory : (r : ℕ) (o : Option ℕ) → is_at memory (if_there (disk r) o) ≡ false
not_memory r None = refl
not_memory r (Some last) = refl

none_taken : (super : Super) (names : List Target) (hs : List Hist) → AreRowsetNames names → group super memory (by_name names hs) ≡ []
none_taken super [] hs r = refl
none_taken super (Mem n ∷ names) hs r = absurd r
none_taken super (Delta r n ∷ names) [] are = refl
none_taken super (Delta r n ∷ names) (h ∷ hs) are =
    ap (λ (b : Bool). cond b (h ∷ group super memory (by_name names hs)) (group super memory (by_name names hs))) (not_memory r (last_dms_of r super.rowsets)) ∙ none_taken super names hs are

firsts_taken : (super : Super) (many last : ℕ) (names : List Target) (hs : List Hist) → AreShelved many last names → All (IsNamed super) names → length names ≡ length hs → group super memory (by_name names hs) ≡ take many hs
firsts_taken super zero last names hs s named same = none_taken super names hs s
firsts_taken super (suc many) last [] hs s named same = absurd s
firsts_taken super (suc many) last (Mem n ∷ names) [] s named same = absurd (omega arith)
firsts_taken super (suc many) last (Mem n ∷ names) (h ∷ hs) s named same =
    ap (λ (b : Bool). cond (is_at memory (cond b (Some memory) None)) (h ∷ group super memory (by_name names hs)) (group super memory (by_name names hs))) (lt-ltb super.last_mem n (all_head (IsNamed super) (Mem n) names named).0)
    ∙ ap (λ (l : List Hist). h ∷ l) (firsts_taken super many n names hs s.1 (all_tail (IsNamed super) (Mem n) names named) (omega arith))
firsts_taken super (suc many) last (Delta r n ∷ names) hs s named same = absurd s

-- ---- by the rules of the table

module _ {L D C : Type 0} (log_tells : Bool) (log_seen : L → Files) (tells : Bool) (seen : D → Files) (faults : D → ℕ) (readings : C → Option (List ℕ)) (view : EngineView L D C) (is : IsStored log_tells log_seen tells seen faults view)
    (inputs : Inputs) (reads : ReadsMemory view.tablet view.tablet.core.c inputs) (grown : AllGrown (take (suc view.tablet.frozen) view.tablet.core.stores)) (sound : IsSound readings view.tablet)
    (shelved : AreShelved (suc view.tablet.frozen) (2 ^ 64) view.tablet.names) (named : length view.tablet.names ≡ length view.tablet.core.stores)
    (free : view.upkeep.publishing ≡ None) (calm : view.tablet.core.aloft ≡ []) (t : IsTrue tells)
    (rules : Rules) (first : Past) (content : IsContent rules view first) (plan : PlanPasses rules view.tablet.core.work) where
  abbrev core : Core
  core = core_from view first

  abbrev files : IsSuperOf seen view.store (super_in view.store.meta (is.holds t view.store.meta (inl refl)).0)
  files = let h = is.holds t view.store.meta (inl refl) in record { meta = view.store.meta; one = inl refl; held = h.0; hold = h.1; is = refl }

  abbrev published : Super
  published = super_in view.store.meta (is.holds t view.store.meta (inl refl)).0

  keeps : KeepsSince rules core published view.tablet.names view.tablet.notes view.records is.run view.log.known.count
  keeps =
      let o : Option ℕ → Option _ = λ n. over_at view.store.meta.number (over_by n view.upkeep) in
      subst (λ (n : Option ℕ). KeepsSince rules (core_over (o n) view.tablet.names core) published (names_over (o n) view.tablet.names) view.tablet.notes view.records is.run view.log.known.count) free
      (is.keeps rules first content plan t published files)

  -- what the MemRowSets have, from a mark on that is not below the superblock's
  pub passing_from : (a : ℕ) → published.a ≤ a → (q : List ℕ) → AreApart a (hists q (take (suc view.tablet.frozen) view.tablet.core.stores)) → HistPasses rules q (joined_history a (hists q (take (suc view.tablet.frozen) view.tablet.core.stores)))
  passing_from a low q apart =
      let k = keeps in
      let all : view.records ++ is.run ≡ (view.records ++ k.since) ++ k.rest = ap (λ (l : List Entry). view.records ++ l) k.parts ∙ sym (append_assoc view.records k.since k.rest) in
      let log : IsLog ((view.records ++ k.since) ++ k.rest) = subst IsLog all is.stands.log in
      let untold : UntoldFly ((view.records ++ k.since) ++ k.rest) [] = subst (λ (l : List Entry). UntoldFly l []) all (subst (UntoldFly (view.records ++ is.run)) calm is.stands.untold) in
      let hs : List Hist = hists q (take (suc view.tablet.frozen) view.tablet.core.stores) in
      let same : length view.tablet.names ≡ length (hists q view.tablet.core.stores) = named ∙ sym (as_many q view.tablet.core.stores) in
      let group_is : group published memory (by_name view.tablet.names (hists q view.tablet.core.stores)) ≡ hs =
      firsts_taken published (suc view.tablet.frozen) (2 ^ 64) view.tablet.names (hists q view.tablet.core.stores) shelved k.named.each same ∙ first_hists q (suc view.tablet.frozen) view.tablet.core.stores in
      memory_passes rules core.work.fill published (view.records ++ k.since) k.rest _ (resident core view.tablet.names view.tablet.notes k.keeps.numbers) q hs a content.closed log k.keeps.stands
      (each_told ((view.records ++ k.since) ++ k.rest) [] ((view.records ++ k.since) ++ k.rest) refl untold) group_is apart low
    where
      as_many : (q : List ℕ) (stores : List Store) → length (hists q stores) ≡ length stores
      as_many q [] = refl
      as_many q (s ∷ stores) = ap suc (as_many q stores)

  pub passing : TellPassing rules view.tablet.core.c view.tablet.core.a inputs
  passing q =
      subst (λ (l : List Hist). HistPasses rules q (joined_history view.tablet.core.a l)) (sym (tell_all readings view.tablet inputs reads grown sound first content.opens q))
      (passing_from view.tablet.core.a keeps.mark q (own_apart readings view.tablet inputs reads grown sound first content.opens q))

-- ---- as of the last timestamp, with the mark of a job

module _ {C : Type 0} (readings : C → Option (List ℕ)) (tablet : View C) (inputs : Inputs) (upto mark : ℕ) (last : upto ≡ tablet.core.c) (reads : ReadsMemory tablet upto inputs) (grown : AllGrown (take (suc tablet.frozen) tablet.core.stores)) where
  abbrev here : ReadsMemory tablet tablet.core.c inputs
  here = subst (λ (n : ℕ). ReadsMemory tablet n inputs) last reads

  pub input_is : mark ≡ min upto tablet.core.a → HasInput tablet [] inputs upto mark
  input_is marked = record { bound_is = last; mark_is = marked; reads = (reads.mems, reads.rowsets); readable = readable readings tablet inputs here grown; files = none_are_upto tablet; few = reads.few }

  module _ (sound : IsSound readings tablet) (marked : mark ≡ min upto tablet.core.a) (first : Past) (opens : Opens tablet.opening tablet.mark tablet.core.opened first) where
    pub the_mark : mark ≡ tablet.core.a
    the_mark = marked ∙ ap (λ (n : ℕ). min n tablet.core.a) last ∙ mark_is readings tablet inputs here grown sound first opens

    pub tells_all : TellAll tablet [] upto inputs
    tells_all = subst (λ (n : ℕ). TellAll tablet [] n inputs) (sym last) (tell_all readings tablet inputs here grown sound first opens)

    pub without_fault : upto < 2 ^ 64 → AreFaultless (record { mark = mark; bound = upto }) inputs
    without_fault small =
        subst (λ (n : ℕ). AreFaultless (record { mark = n; bound = upto }) inputs) (sym the_mark)
        (subst (λ (n : ℕ). AreFaultless (record { mark = tablet.core.a; bound = n }) inputs) (sym last) (faultless readings tablet inputs here grown sound first opens (subst (λ (n : ℕ). n < 2 ^ 64) last small)))

-- and by the rules of the table
pub passes_by : {L D C : Type 0} (log_tells : Bool) (log_seen : L → Files) (log_now : L → ℕ) (log_leaves : L → ℕ → Files → Type 0) (log_faults : L → ℕ) (tells : Bool) (seen : D → Files) (faults : D → ℕ) (readings : C → Option (List ℕ)) (view : EngineView L D C)
    → IsEngine log_tells log_seen log_now log_leaves log_faults view × IsStored log_tells log_seen tells seen faults view → (inputs : Inputs) (upto mark : ℕ) → upto ≡ view.tablet.core.c → ReadsMemory view.tablet upto inputs
    → AllGrown (take (suc view.tablet.frozen) view.tablet.core.stores) → IsSound readings view.tablet → length view.tablet.names ≡ length view.tablet.core.stores → view.upkeep.publishing ≡ None → view.tablet.core.aloft ≡ []
    → mark ≡ min upto view.tablet.core.a → IsTrue tells → (rules : Rules) (first : Past) → IsContent rules view first → PlanPasses rules view.tablet.core.work → TellPassing rules upto mark inputs
passes_by log_tells log_seen log_now log_leaves log_faults tells seen faults readings view is inputs upto mark last reads grown sound named free calm marked t rules first content plan =
    let here : ReadsMemory view.tablet view.tablet.core.c inputs = subst (λ (n : ℕ). ReadsMemory view.tablet n inputs) last reads in
    subst (λ (n : ℕ). TellPassing rules upto n inputs) (sym (the_mark readings view.tablet inputs upto mark last reads grown sound marked first content.opens))
    (subst (λ (n : ℕ). TellPassing rules n view.tablet.core.a inputs) (sym last)
    (passing log_tells log_seen tells seen faults readings view is.1 inputs here grown sound is.0.ready.shelved named free calm t rules first content plan))

-- ---- lists that are filled one by one

pub one_filled : (f : List KeyChange → List KeyChange) (lists now : List (List KeyChange)) (i : ℕ) (list made : List KeyChange) → i < length lists → list ≡ get_or lists i list → now ≡ map f (take i lists) → made ≡ f list
    → now ++ made ∷ [] ≡ map f (take (i + 1) lists)
one_filled f lists now i list made lt is so made_is =
    ap (λ (l : List (List KeyChange)). l ++ made ∷ []) so ∙ ap (λ (m : List KeyChange). map f (take i lists) ++ m ∷ []) made_is
    ∙ sym (map-append f (take i lists) (list ∷ [])) ∙ ap (map f) (next lists i list lt is)
  where
    next : (xs : List (List KeyChange)) (n : ℕ) (x : List KeyChange) → n < length xs → x ≡ get_or xs n x → take n xs ++ x ∷ [] ≡ take (n + 1) xs
    next [] n x low at = absurd (omega arith)
    next (y ∷ xs) zero x low at = ap (λ (z : List KeyChange). z ∷ []) at
    next (y ∷ xs) (suc n) x low at =
        ap (λ (l : List (List KeyChange)). y ∷ l) (next xs n x (omega arith) at) ∙ ap (λ (k : ℕ). take k (y ∷ xs)) (let e : suc (n + 1) ≡ suc n + 1 = omega arith in e)

pub one_table : (P : List KeyChange → Type 0) (lists : List (List KeyChange)) (list : List KeyChange) → AllByRecursion P lists → P list → AllByRecursion P (lists ++ list ∷ [])
one_table P [] list h p = (p, tt)
one_table P (x ∷ lists) list h p = (h.0, one_table P lists list h.1 p)

pub all_taken : {A : Type 0} (n : ℕ) (xs : List A) → length xs ≤ n → take n xs ≡ xs
all_taken zero [] le = refl
all_taken (suc n) [] le = refl
all_taken zero (x ∷ xs) le = absurd (omega arith)
all_taken (suc n) (x ∷ xs) le = ap (λ (l : List _). x ∷ l) (all_taken n xs (omega arith))

pub none_aloft : (aloft : List Aloft) → least (map flown_by aloft) ≡ None → aloft ≡ []
none_aloft [] e = refl
none_aloft (w ∷ aloft) e = absurd (cc)
