-- What a compaction reads of the disk rowsets that it takes.
use Rattle.std.proofs.Common.{◌≡◌, ◌<◌, ◌≤◌, ◌^◌, ℕ, zero, suc, Bool, true, false, cond, List, [], ◌∷◌, ◌++◌, map, length, drop, Option, None, refl, sym, ap, ◌∙◌, subst, append_assoc, inl}
use Rattle.std.specs.Prelude.{IsTrue}
use Rattle.std.specs.List.{AllByRecursion}
use Rattle.kt_disk.specs.Disk.{Files}
use Rattle.kt_history.specs.declared.changes.KeyChange.{KeyChange}
use Rattle.kt_history.specs.declared.target.Target.{Target}
use Rattle.kt_history.specs.declared.target.Target.TheVariants.{Mem, Delta}
use Rattle.kt_history.specs.History.{Past}
use Rattle.kt_history.specs.Stores.{Steps, Hist, Store, hist_in}
use Rattle.kt_histlaws.specs.Core.{Core, Stands}
use Rattle.kt_histlaws.specs.Flights.{AllUnder}
use Rattle.kt_histlaws.specs.Histories.{hists}
use Rattle.kt_records.specs.declared.entry.Entry.{Entry}
use Rattle.kt_journal.specs.Log.{IsLog}
use Rattle.kt_rowfiles.specs.Merging.{joined_history}
use Rattle.kt_content.specs.Places.{Super}
use Rattle.kt_content.specs.Rules.{Rules, HistPasses}
use Rattle.kt_diskrowset.specs.declared.data.RowSetData.{RowSetData}
use Rattle.kt_diskrowset.specs.declared.inputs.Inputs.{Inputs}
use Rattle.kt_diskrowset.specs.Data.{store_in}
use Rattle.kt_merge.specs.Changes.{rises, hist_in_changes}
use Rattle.kt_merge.specs.Heads.{hist_upto}
use Rattle.kt_merge.specs.Merge.{hists_of as read_hists, hists_upto, AreReadable, AreFaultless}
use Rattle.kt_reopen.specs.Both.{super_in}
use Rattle.kt_joblaws.specs.Apart.{AreApart}
use Rattle.kt_joblaws.specs.ChangesOver.{hists_of}
use Rattle.kt_joblaws.specs.Compacts.{is_taken, taken_in}
use Rattle.kt_joblaws.proofs.Listed.{upto_all}
use Rattle.kt_joblaws.proofs.Merged.{none_at_fault}
use Rattle.kt_joblaws.proofs.Read.{those_apart}
use Rattle.kt_joblaws.proofs.Standing.{stand_apart}
use Rattle.kt_joblaws.proofs.TakenPasses.{taken_passes}
use Rattle.kt_stores.specs.Takes.{rowsets, takes, of_taken}
use Rattle.kt_tablet.specs.Views.{View, Opens, IsSound}
use Rattle.kt_tablet.specs.Jobs.{taken_stores, taken_rowsets}
use Rattle.kt_engine.specs.Columns.{ReadsRowsets}
use Rattle.kt_engine.specs.Engines.{EngineView, IsContent, core_from}
use Rattle.kt_engine.specs.Jobs.{over_by}
use Rattle.kt_engine.specs.JobSteps.{TellPassing}
use Rattle.kt_engine.specs.Logged.{PlanPasses, UntoldFly, KeepsSince}
use Rattle.kt_engine.specs.Memory.{by_name, resident}
use Rattle.kt_engine.specs.Over.{AreShelved, over_at, core_over, names_over}
use Rattle.kt_engine.specs.Stored.{IsStored, IsSuperOf}
use Rattle.kt_engine.proofs.Compacted.{taken_named, taken_hists, all_of}
use Rattle.kt_engine.proofs.Flushed.{each_told, hists_named}
use Rattle.kt_engine.proofs.Jobs.{take_of}

-- ---- of all stores

none_of : {A : Type 0} (taken : List ℕ) (names : List Target) → of_taken {A = A} (rowsets taken) names [] ≡ []
none_of taken [] = refl
none_of taken (n ∷ names) = refl

-- the first is not taken
behind_first : {A : Type 0} (taken : List ℕ) (many high : ℕ) (names : List Target) (xs : List A) → AreShelved (suc many) high names → of_taken (rowsets taken) (drop 1 names) (drop 1 xs) ≡ of_taken (rowsets taken) names xs
behind_first taken many high [] xs are = absurd are
behind_first taken many high (Mem n ∷ names) [] are = none_of taken names
behind_first taken many high (Mem n ∷ names) (x ∷ xs) are = refl
behind_first taken many high (Delta r n ∷ names) xs are = absurd are

mems_stay : {A : Type 0} (taken : List ℕ) (many high : ℕ) (names : List Target) (xs : List A) → AreShelved many high names → of_taken (rowsets taken) (drop many names) (drop many xs) ≡ of_taken (rowsets taken) names xs
mems_stay taken zero high names xs are = refl
mems_stay taken (suc many) high [] xs are = absurd are
mems_stay taken (suc many) high (Mem n ∷ names) [] are = none_of taken (drop many names)
mems_stay taken (suc many) high (Mem n ∷ names) (x ∷ xs) are = mems_stay taken many n names xs are.1
mems_stay taken (suc many) high (Delta r n ∷ names) xs are = absurd are

-- what is read of the disk rowsets is what is taken
pub rowsets_are_taken : {C : Type 0} (tablet : View C) (taken : List ℕ) → AreShelved (suc tablet.frozen) (2 ^ 64) tablet.names → taken_rowsets taken tablet ≡ taken_stores (rowsets taken) tablet
rowsets_are_taken tablet taken are = mems_stay taken (suc tablet.frozen) (2 ^ 64) tablet.names tablet.core.stores are ∙ sym (behind_first taken tablet.frozen (2 ^ 64) tablet.names tablet.core.stores are)

under_taken : (top : ℕ) (taken : List ℕ) (names : List Target) (hs : List Hist) → AllUnder top hs → AllUnder top (of_taken (rowsets taken) names hs)
under_taken top taken [] hs under = tt
under_taken top taken (n ∷ names) [] under = tt
under_taken top taken (n ∷ names) (h ∷ hs) under = by (takes (rowsets taken) n) (under_taken top taken names hs under.1)
  where
    by : (b : Bool) → AllUnder top (of_taken (rowsets taken) names hs) → AllUnder top (cond b (h ∷ of_taken (rowsets taken) names hs) (of_taken (rowsets taken) names hs))
    by true rest = (under.0, rest)
    by false rest = rest

pub whole_hists : (bound : ℕ) (hs : List Hist) → AllUnder (suc bound) hs → map (hist_upto bound) hs ≡ hs
whole_hists bound [] under = refl
whole_hists bound (h ∷ hs) under = ap (λ (s : Steps). record h { steps = s } ∷ map (hist_upto bound) hs) (upto_all bound h.steps under.0) ∙ ap (λ (l : List Hist). h ∷ l) (whole_hists bound hs under.1)

as_stored : (q : List ℕ) (ds : List RowSetData) → map (λ (d : RowSetData). hist_in q (store_in d)) ds ≡ hists q (map store_in ds)
as_stored q [] = refl
as_stored q (d ∷ ds) = ap (λ (l : List Hist). hist_in q (store_in d) ∷ l) (as_stored q ds)

-- what was read of stores is what they have
pub hists_read : (q : List ℕ) (stores : List Store) (inputs : Inputs) → inputs.mems ≡ [] → map store_in inputs.rowsets ≡ stores → read_hists q inputs ≡ hists q stores
hists_read q stores inputs none are = ap (λ (l : List (List KeyChange)). map (hist_in_changes q) l ++ map (λ (d : RowSetData). hist_in q (store_in d)) inputs.rowsets) none ∙ as_stored q inputs.rowsets ∙ ap (hists q) are

pub as_many : (q : List ℕ) (stores : List Store) → length (hists q stores) ≡ length stores
as_many q [] = refl
as_many q (s ∷ stores) = ap suc (as_many q stores)

-- ---- what is taken

module _ {C : Type 0} (tablet : View C) (taken : List ℕ) (shelved : AreShelved (suc tablet.frozen) (2 ^ 64) tablet.names) (named : length tablet.names ≡ length tablet.core.stores) where
  -- the stores that are taken, of all with their names
  pub own_are : (q : List ℕ) → hists_of (taken_in (take_of taken) (by_name tablet.names (hists q tablet.core.stores))) ≡ hists q (taken_stores (rowsets taken) tablet)
  own_are q =
      taken_named taken tablet.names (hists q tablet.core.stores) (named ∙ sym (as_many q tablet.core.stores)) ∙ sym (taken_hists q taken tablet.names tablet.core.stores)
      ∙ ap (hists q) (sym (behind_first taken tablet.frozen (2 ^ 64) tablet.names tablet.core.stores shelved))

  all_named : (q : List ℕ) → hists_of (by_name tablet.names (hists q tablet.core.stores)) ≡ hists q tablet.core.stores
  all_named q = hists_named tablet.names (hists q tablet.core.stores) (named ∙ sym (as_many q tablet.core.stores))

  module _ (readings : C → Option (List ℕ)) (sound : IsSound readings tablet) (first : Past) (opens : Opens tablet.opening tablet.mark tablet.core.opened first) where
    stands : Stands (record tablet.core { first = first })
    stands = sound.stands first opens

    pub taken_apart : (q : List ℕ) → AreApart tablet.core.a (hists_of (taken_in (take_of taken) (by_name tablet.names (hists q tablet.core.stores))))
    taken_apart q = those_apart tablet.core.a (is_taken (take_of taken)) (by_name tablet.names (hists q tablet.core.stores)) (subst (AreApart tablet.core.a) (sym (all_named q)) (stand_apart (record tablet.core { first = first }) q stands).0)

    pub own_under : (q : List ℕ) → AllUnder (suc tablet.core.c) (hists q (taken_stores (rowsets taken) tablet))
    own_under q =
        subst (AllUnder (suc tablet.core.c)) (sym (taken_hists q taken tablet.names tablet.core.stores) ∙ ap (hists q) (sym (behind_first taken tablet.frozen (2 ^ 64) tablet.names tablet.core.stores shelved)))
        (under_taken (suc tablet.core.c) taken tablet.names (hists q tablet.core.stores) (stand_apart (record tablet.core { first = first }) q stands).1)

-- ---- what is read of them

module _ {C : Type 0} (readings : C → Option (List ℕ)) (tablet : View C) (taken : List ℕ) (inputs : Inputs) (reads : ReadsRowsets tablet taken inputs) (shelved : AreShelved (suc tablet.frozen) (2 ^ 64) tablet.names) (named : length tablet.names ≡ length tablet.core.stores) where
  pub readable_rowsets : AreReadable inputs
  readable_rowsets = record {
    ids = reads.shapes.rise;
    few = reads.shapes.few;
    mems = subst (AllByRecursion (λ (list : List KeyChange). rises list ≡ true)) (sym reads.mems) tt;
    rowsets = reads.readable;
  }

  module _ (sound : IsSound readings tablet) (first : Past) (opens : Opens tablet.opening tablet.mark tablet.core.opened first) where
    pub tell_taken : (q : List ℕ) → hists_upto tablet.core.c q inputs ≡ hists q (taken_stores (rowsets taken) tablet)
    tell_taken q =
        ap (map (hist_upto tablet.core.c)) (hists_read q (taken_stores (rowsets taken) tablet) inputs reads.mems reads.rowsets_are)
        ∙ whole_hists tablet.core.c (hists q (taken_stores (rowsets taken) tablet)) (own_under tablet taken shelved named readings sound first opens q)

    pub none_faulty : tablet.core.c < 2 ^ 64 → AreFaultless (record { mark = tablet.core.a; bound = tablet.core.c }) inputs
    none_faulty small = none_at_fault (record { mark = tablet.core.a; bound = tablet.core.c }) inputs reads.mems small reads.shapes reads.table
        (λ q. subst (AreApart tablet.core.a) (own_are tablet taken shelved named q ∙ sym (tell_taken q)) (taken_apart tablet taken shelved named readings sound first opens q))

-- ---- by the rules of the table

module _ {L D C : Type 0} (log_tells : Bool) (log_seen : L → Files) (tells : Bool) (seen : D → Files) (faults : D → ℕ) (view : EngineView L D C) (is : IsStored log_tells log_seen tells seen faults view)
    (taken : List ℕ) (free : view.upkeep.publishing ≡ None) (calm : view.tablet.core.aloft ≡ []) (t : IsTrue tells) (rules : Rules) (first : Past) (content : IsContent rules view first) (plan : PlanPasses rules view.tablet.core.work) where
  abbrev core : Core
  core = core_from view first

  abbrev files : IsSuperOf seen view.store (super_in view.store.meta (is.holds t view.store.meta (inl refl)).0)
  files = let h = is.holds t view.store.meta (inl refl) in record { meta = view.store.meta; one = inl refl; held = h.0; hold = h.1; is = refl }

  abbrev published : Super
  published = super_in view.store.meta (is.holds t view.store.meta (inl refl)).0

  keeps : KeepsSince rules core published view.tablet.names view.tablet.notes view.records is.run view.log.known.count
  keeps =
      let o : Option ℕ → Option _ = λ n. over_at view.store.meta.number (over_by n view.upkeep) in
      subst (λ (n : Option ℕ). KeepsSince rules (core_over (o n) view.tablet.names core) published (names_over (o n) view.tablet.names) view.tablet.notes view.records is.run view.log.known.count) free
      (is.keeps rules first content plan t published files)

  -- from a mark on that is not below the superblock's, where what is taken is apart
  pub passing_from : (a : ℕ) → view.store.meta.a ≤ a → (q : List ℕ) → AreApart a (hists_of (taken_in (take_of taken) (by_name view.tablet.names (hists q view.tablet.core.stores))))
      → HistPasses rules q (joined_history a (hists_of (taken_in (take_of taken) (by_name view.tablet.names (hists q view.tablet.core.stores)))))
  passing_from a low q apart =
      let k = keeps in
      let all : view.records ++ is.run ≡ (view.records ++ k.since) ++ k.rest = ap (λ (l : List Entry). view.records ++ l) k.parts ∙ sym (append_assoc view.records k.since k.rest) in
      let log : IsLog ((view.records ++ k.since) ++ k.rest) = subst IsLog all is.stands.log in
      let untold : UntoldFly ((view.records ++ k.since) ++ k.rest) [] = subst (λ (l : List Entry). UntoldFly l []) all (subst (UntoldFly (view.records ++ is.run)) calm is.stands.untold) in
      taken_passes rules core.work.fill (take_of taken) published (view.records ++ k.since) k.rest _ (resident core view.tablet.names view.tablet.notes k.keeps.numbers) q a content.closed log k.keeps.stands
      (each_told ((view.records ++ k.since) ++ k.rest) [] ((view.records ++ k.since) ++ k.rest) refl untold) (all_of published view.tablet.names (hists q view.tablet.core.stores) k.named.each) apart low

  pub passing_taken : (readings : C → Option (List ℕ)) (inputs : Inputs) → ReadsRowsets view.tablet taken inputs → IsSound readings view.tablet → AreShelved (suc view.tablet.frozen) (2 ^ 64) view.tablet.names → length view.tablet.names ≡ length view.tablet.core.stores
      → TellPassing rules view.tablet.core.c view.tablet.core.a inputs
  passing_taken readings inputs reads sound shelved named q =
      subst (λ (l : List Hist). HistPasses rules q (joined_history view.tablet.core.a l)) (own_are view.tablet taken shelved named q ∙ sym (tell_taken readings view.tablet taken inputs reads shelved named sound first content.opens q))
      (passing_from view.tablet.core.a keeps.mark q (taken_apart view.tablet taken shelved named readings sound first content.opens q))
