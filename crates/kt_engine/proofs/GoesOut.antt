-- What a job takes with it outside the lock is what its stores have.
use Rattle.std.proofs.Common.{◌≡◌, ◌≢◌, ◌<◌, ◌≤◌, ◌^◌, ℕ, zero, suc, List, [], ◌∷◌, ◌++◌, map, length, take, drop, Option, refl, sym, ap, ◌∙◌, subst, arith}
use Rattle.std.proofs.lemmas.List.{append-nil, take-append-drop}
use Rattle.kt_history.specs.declared.target.Target.{Target}
use Rattle.kt_history.specs.declared.target.Target.TheVariants.{Mem, Delta}
use Rattle.kt_history.specs.Grown.{AllGrown}
use Rattle.kt_history.specs.History.{Past}
use Rattle.kt_history.specs.Stores.{Hist, Store, hist_in, never}
use Rattle.kt_histlaws.specs.Flights.{AllUnder}
use Rattle.kt_histlaws.specs.Histories.{hists}
use Rattle.kt_pick.specs.declared.rules.Want.{Want}
use Rattle.kt_pick.specs.declared.rules.Want.TheVariants as want
use Rattle.kt_diskrowset.specs.declared.data.RowSetData.{RowSetData}
use Rattle.kt_diskrowset.specs.declared.inputs.Inputs.{Inputs}
use Rattle.kt_diskrowset.specs.Data.{store_in}
use Rattle.kt_merge.specs.Changes.{hist_in_changes}
use Rattle.kt_merge.specs.Merge.{hists_of}
use Rattle.kt_joblaws.specs.Apart.{AreApart}
use Rattle.kt_joblaws.proofs.Beside.{each_apart}
use Rattle.kt_joblaws.proofs.Listed.{they_have}
use Rattle.kt_joblaws.proofs.Standing.{stand_apart}
use Rattle.kt_stores.specs.Takes.{Takes, mems, rowsets as disks, of_taken}
use Rattle.kt_tablet.specs.Views.{View, Opens, IsSound}
use Rattle.kt_tablet.specs.Jobs.{changes_in_memory, frozen_names, rows_in_first, taken_stores}
use Rattle.kt_engine.specs.Engines.{EngineView}
use Rattle.kt_engine.specs.Jobs.{JobView, takes_of}
use Rattle.kt_engine.specs.JobSteps.{Reads, TakesBy, TakesInputs, TakesFrozen, TakesRowsets}
use Rattle.kt_engine.specs.Near.{first_number}
use Rattle.kt_engine.specs.Outside.{TakesStill, vacant_of, hists_read, job_out}
use Rattle.kt_engine.specs.Over.{AreShelved}
use Rattle.kt_engine.specs.Returning.{LeavesAs}
use Rattle.kt_engine.proofs.JobOut.{frozen_are_taken, mems_taken}
use Rattle.kt_engine.proofs.Outside.{takes_disks, takes_mems}
use Rattle.kt_engine.proofs.TakenRead.{own_are, taken_apart, own_under, hists_read as rowsets_read}

-- ---- lists

pub long_shelved : (many high : ℕ) (names : List Target) → AreShelved many high names → length (take many names) ≡ many
long_shelved zero high names are = refl
long_shelved (suc many) high [] are = absurd are
long_shelved (suc many) high (Mem n ∷ names) are = ap suc (long_shelved many n names are.1)
long_shelved (suc many) high (Delta r n ∷ names) are = absurd are

frozen_many : (frozen high : ℕ) (names : List Target) → AreShelved (suc frozen) high names → length (take frozen (drop 1 names)) ≡ frozen
frozen_many frozen high [] are = absurd are
frozen_many frozen high (Mem n ∷ names) are = long_shelved frozen n names are.1
frozen_many frozen high (Delta r n ∷ names) are = absurd are

some_shelved : (frozen high : ℕ) (names : List Target) → AreShelved (suc frozen) high names → 0 < length names
some_shelved frozen high [] are = absurd are
some_shelved frozen high (Mem n ∷ names) are = omega arith
some_shelved frozen high (Delta r n ∷ names) are = absurd are

vacant_first : (q : List ℕ) (n : ℕ) (stores : List Store) → 0 < length stores → rows_in_first stores ≡ [] → hists q (take (suc n) stores) ≡ never ∷ hists q (take n (drop 1 stores))
vacant_first q n [] some none = absurd (omega arith)
vacant_first q n (s ∷ stores) some none = ap (λ (x : Store). hist_in q x ∷ hists q (take n stores)) none

front_of : (hs rest : List Hist) → hs ≡ never ∷ rest → hs ≡ never ∷ drop 1 hs
front_of hs rest e = e ∙ ap (λ (l : List Hist). never ∷ l) (sym (ap (drop 1) e))

reads_disks : {C : Type 0} (v : View C) (taken : List ℕ) (bound : ℕ) (inputs : Inputs) → taken ≢ [] → Reads v taken bound inputs → (inputs.mems ≡ []) × (map store_in inputs.rowsets ≡ taken_stores (disks taken) v)
reads_disks v [] bound inputs some reads = absurd (some refl)
reads_disks v (r ∷ taken) bound inputs some reads = reads

reads_mems : {C : Type 0} (v : View C) (taken : List ℕ) (bound : ℕ) (inputs : Inputs) → taken ≡ [] → Reads v taken bound inputs → (inputs.mems ≡ changes_in_memory bound v) × (inputs.rowsets ≡ [])
reads_mems v taken bound inputs none reads = subst (λ (l : List ℕ). Reads v l bound inputs) none reads

pub under_first : (top : ℕ) (q : List ℕ) (n : ℕ) (stores : List Store) → AllUnder top (hists q stores) → AllUnder top (hists q (take n stores))
under_first top q zero stores u = tt
under_first top q (suc n) [] u = tt
under_first top q (suc n) (s ∷ stores) u = (u.0, under_first top q n stores u.1)

under_rest : (top : ℕ) (q : List ℕ) (stores : List Store) → AllUnder top (hists q stores) → AllUnder top (hists q (drop 1 stores))
under_rest top q [] u = tt
under_rest top q (s ∷ stores) u = u.1

pub hists_join : (q : List ℕ) (xs ys : List Store) → hists q (xs ++ ys) ≡ hists q xs ++ hists q ys
hists_join q [] ys = refl
hists_join q (x ∷ xs) ys = ap (λ (l : List Hist). hist_in q x ∷ l) (hists_join q xs ys)

-- some of the stores, from the first on or without it, are apart where all are
pub apart_first : (a : ℕ) (q : List ℕ) (n : ℕ) (stores : List Store) → AreApart a (hists q stores) → AreApart a (hists q (take n stores))
apart_first a q n stores apart =
    (each_apart a (hists q (take n stores)) (hists q (drop n stores)) (subst (AreApart a) (sym (ap (hists q) (take-append-drop n stores)) ∙ hists_join q (take n stores) (drop n stores)) apart)).0

apart_rest : (a : ℕ) (q : List ℕ) (stores : List Store) → AreApart a (hists q stores) → AreApart a (hists q (drop 1 stores))
apart_rest a q [] apart = apart
apart_rest a q (s ∷ stores) apart = (each_apart a (hist_in q s ∷ []) (hists q stores) apart).1

-- ---- what a job takes with it

abbrev Finds : {C : Type 0} → View C → Past → Type 0
Finds v first = Opens v.opening v.mark v.core.opened first

-- by its want: what it takes is there, what was read of it is all that it has, and that is apart
pub record GoesWith {C : Type 0} (v : View C) (job : JobView) (inputs : Inputs) (w : Want) : Type 0 where
  pub takes : TakesStill v.names (job_out v.frozen job) w
  pub first : job.last_mem ≤ first_number v.names
  pub front : (first : Past) → Finds v first → (q : List ℕ) → hists_of q inputs ≡ vacant_of w ++ hists_read w inputs q
  pub read : (first : Past) → Finds v first → (q : List ℕ) → hists_read w inputs q ≡ hists q (taken_stores (takes_of job) v)
  pub apart : (first : Past) → Finds v first → (q : List ℕ) → AreApart v.core.a (hists q (taken_stores (takes_of job) v)) × AllUnder (suc v.core.c) (hists q (taken_stores (takes_of job) v))

module _ {L D C : Type 0} (readings : C → Option (List ℕ)) (view : EngineView L D C) (sound : IsSound readings view.tablet) (grown : AllGrown (take (suc view.tablet.frozen) view.tablet.core.stores)) (shelved : AreShelved (suc view.tablet.frozen) (2 ^ 64) view.tablet.names)
    (as_many : length view.tablet.names ≡ length view.tablet.core.stores) (job : JobView) (takes : TakesInputs view job) (leaves : LeavesAs view.tablet job) where
  abbrev v : View C
  v = view.tablet

  module _ (its : TakesRowsets view job) where
    what_is : takes_of job ≡ disks job.taken
    what_is = takes_disks job.taken job.last_mem its.some

    reads : (leaves.inputs.mems ≡ []) × (map store_in leaves.inputs.rowsets ≡ taken_stores (disks job.taken) v)
    reads = reads_disks v job.taken job.bound leaves.inputs its.some leaves.reads

    compaction_goes : (taken : List ℕ) → job.taken ≡ taken → GoesWith v job leaves.inputs (want.Compact taken)
    compaction_goes taken same = record {
      takes = (same, record { some = its.some; there = its.there });
      first = its.first;
      front = λ first opens q. refl;
      read = λ first opens q. rowsets_read q (taken_stores (disks job.taken) v) leaves.inputs reads.0 reads.1 ∙ ap (λ (t : Takes). hists q (taken_stores t v)) (sym what_is);
      apart = λ first opens q. subst (λ (t : Takes). AreApart v.core.a (hists q (taken_stores t v)) × AllUnder (suc v.core.c) (hists q (taken_stores t v))) (sym what_is)
          (subst (AreApart v.core.a) (own_are v job.taken shelved as_many q) (taken_apart v job.taken shelved as_many readings sound first opens q), own_under v job.taken shelved as_many readings sound first opens q);
    }

  module _ (its : TakesFrozen view job) where
    abbrev frozen_ones : List Store
    frozen_ones = take v.frozen (drop 1 v.core.stores)

    taken_are : taken_stores (takes_of job) v ≡ frozen_ones
    taken_are = ap (λ (t : Takes). taken_stores t v) (takes_mems job.taken job.last_mem its.none) ∙ frozen_are_taken v job.last_mem job.first_rowset its.frozen takes.left as_many

    lists : (leaves.inputs.mems ≡ changes_in_memory job.bound v) × (leaves.inputs.rowsets ≡ [])
    lists = reads_mems v job.taken job.bound leaves.inputs its.none leaves.reads

    some_stores : 0 < length v.core.stores
    some_stores = let some = some_shelved v.frozen (2 ^ 64) v.names shelved in omega arith

    all_read : (first : Past) → Finds v first → (q : List ℕ) → hists_of q leaves.inputs ≡ never ∷ hists q frozen_ones
    all_read first opens q =
        ap (λ (l : List RowSetData). map (hist_in_changes q) leaves.inputs.mems ++ map (λ (d : RowSetData). hist_in q (store_in d)) l) lists.1
        ∙ append-nil (map (hist_in_changes q) leaves.inputs.mems)
        ∙ ap (map (hist_in_changes q)) (lists.0 ∙ ap (λ (b : ℕ). changes_in_memory b v) leaves.bound)
        ∙ they_have v.core.c q (take (suc v.frozen) v.core.stores) grown (under_first (suc v.core.c) q (suc v.frozen) v.core.stores (stand_apart (record v.core { first = first }) q (sound.stands first opens)).1)
        ∙ vacant_first q v.frozen v.core.stores some_stores its.vacant

    flush_goes : GoesWith v job leaves.inputs want.Flush
    flush_goes = record {
      takes = record {
        none = its.none;
        first = its.first;
        many =
            ap (λ (ns : List Target). length (of_taken (mems job.last_mem) ns ns)) (sym (take-append-drop v.frozen (drop 1 v.names)))
            ∙ ap length (mems_taken job.last_mem job.first_rowset (frozen_names v) (drop v.frozen (drop 1 v.names)) (frozen_names v) (drop v.frozen (drop 1 v.names)) its.frozen takes.left refl)
            ∙ frozen_many v.frozen (2 ^ 64) v.names shelved;
      };
      first = (let low = its.first in omega arith);
      front = λ first opens q. front_of (hists_of q leaves.inputs) (hists q frozen_ones) (all_read first opens q);
      read = λ first opens q. ap (drop 1) (all_read first opens q) ∙ ap (hists q) (sym taken_are);
      apart = λ first opens q. subst (λ (ss : List Store). AreApart v.core.a (hists q ss) × AllUnder (suc v.core.c) (hists q ss)) (sym taken_are)
          (let stand = stand_apart (record v.core { first = first }) q (sound.stands first opens) in
          (apart_first v.core.a q v.frozen (drop 1 v.core.stores) (apart_rest v.core.a q v.core.stores stand.0), under_first (suc v.core.c) q v.frozen (drop 1 v.core.stores) (under_rest (suc v.core.c) q v.core.stores stand.1)));
    }

  goes_by : (w : Want) → TakesBy view job w → GoesWith v job leaves.inputs w
  goes_by want.Flush its = flush_goes its
  goes_by (want.Compact taken) its = compaction_goes its.1 taken its.0
  goes_by (want.FlushDeltas r) its = absurd its
  goes_by (want.Minor r) its = absurd its
  goes_by (want.Major r) its = absurd its

  pub goes_with : GoesWith v job leaves.inputs job.want
  goes_with = goes_by job.want takes.takes
