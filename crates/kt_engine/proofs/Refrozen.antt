-- A flush comes back from outside the lock: what its MemRowSets have was read, and the one that takes inserts has frozen.
use Rattle.std.proofs.Common.{◌≡◌, ◌<◌, ◌≤◌, ◌+◌, ◌-◌, ◌^◌, ℕ, zero, suc, min, Bool, true, false, cond, List, [], ◌∷◌, ◌++◌, map, length, take, drop, Option, Some, refl, sym, ap, ◌∙◌, subst, arith, inl}
use Rattle.std.specs.Prelude.{IsTrue, nat_le}
use Rattle.std.specs.List.{AllByRecursion}
use Rattle.std.proofs.lemmas.Bool.{le-leb, leb-true}
use Rattle.std.proofs.lemmas.List.{take_all, take-append-drop}
use Rattle.std.proofs.lemmas.List.Sums.{sum_by-take-le}
use Rattle.kt_disk.specs.Disk.{Files}
use Rattle.kt_history.specs.declared.changes.KeyChange.{KeyChange}
use Rattle.kt_history.specs.declared.target.Target.{Target}
use Rattle.kt_history.specs.declared.target.Target.TheVariants.{Mem, Delta}
use Rattle.kt_history.specs.Grown.{AllGrown}
use Rattle.kt_history.specs.History.{Past}
use Rattle.kt_history.specs.Stores.{Hist, Store, hist_in, changes_upto}
use Rattle.kt_histlaws.specs.Flights.{AllUnder}
use Rattle.kt_histlaws.specs.Histories.{hists}
use Rattle.kt_rowfiles.specs.Merging.{joined_history}
use Rattle.kt_content.specs.Flushes.{before}
use Rattle.kt_content.specs.Rules.{Rules, HistPasses}
use Rattle.kt_content.specs.RunEvents.{RecordsBelow}
use Rattle.kt_pick.specs.declared.rules.Want.{Want}
use Rattle.kt_pick.specs.declared.rules.Want.TheVariants as want
use Rattle.kt_baseset.specs.declared.schema.ColumnShape.{ColumnShape}
use Rattle.kt_baseset.specs.Rows.{IdsRise, AreShapes}
use Rattle.kt_diskrowset.specs.declared.data.RowSetData.{RowSetData}
use Rattle.kt_diskrowset.specs.declared.inputs.Inputs.{Inputs}
use Rattle.kt_diskrowset.specs.Data.{store_in}
use Rattle.kt_merge.specs.Changes.{rises, hist_in_changes}
use Rattle.kt_merge.specs.Heads.{hist_upto}
use Rattle.kt_merge.specs.Merge.{IsReadable, hists_of, hists_upto, rows_and_changes, AreFaultless}
use Rattle.kt_joblaws.specs.Apart.{AreApart, AreOfTable}
use Rattle.kt_joblaws.specs.Late.{AllHaveLater}
use Rattle.kt_joblaws.proofs.Beside.{parts_pass}
use Rattle.kt_joblaws.proofs.Listed.{they_have, they_tell}
use Rattle.kt_joblaws.proofs.ListsRise.{they_rise}
use Rattle.kt_joblaws.proofs.Read.{no_fault}
use Rattle.kt_joblaws.proofs.Standing.{stand_apart}
use Rattle.kt_stores.specs.Takes.{Takes, mems, takes, of_taken}
use Rattle.kt_tablet.specs.Views.{View, Opens, IsSound}
use Rattle.kt_tablet.specs.Jobs.{taken_stores, HasFrozen}
use Rattle.kt_engine.specs.declared.again.MemsNow.{MemsNow}
use Rattle.kt_engine.specs.declared.job.JobInput.{JobInput}
use Rattle.kt_engine.specs.declared.upkeep.Stage.TheVariants as stage
use Rattle.kt_schema.specs.Columns.{other_columns}
use Rattle.kt_engine.specs.Columns.{ReadsMemory, shape_of}
use Rattle.kt_engine.specs.Engines.{EngineView, IsEngine, IsFound, IsContent}
use Rattle.kt_engine.specs.Jobs.{JobView, UpkeepsView, JobOn, HasUpkeep, job_of, takes_of, upkeep_at}
use Rattle.kt_engine.specs.JobSteps.{TakesBy, TakesInputs, TakesFrozen}
use Rattle.kt_engine.specs.Logged.{PlanPasses}
use Rattle.kt_engine.specs.Near.{first_number}
use Rattle.kt_engine.specs.Outside.{MergesOutside, Rewrites, TakesMems, TakesStill, hists_read, is_at_outside, job_again, vacant_of}
use Rattle.kt_engine.specs.Over.{AreLeft, AreRowsetNames, AreShelved}
use Rattle.kt_engine.specs.Returning.{HasRefrozen, IsReadOf, hists_in}
use Rattle.kt_engine.specs.Stored.{IsStored}
use Rattle.kt_engine.proofs.GoesOut.{hists_join, apart_first, under_first, long_shelved}
use Rattle.kt_engine.proofs.JobBegins.{drop_first, takes_frozen}
use Rattle.kt_engine.proofs.JobBoth.{refrozen_both}
use Rattle.kt_engine.proofs.JobOut.{frozen_are_taken}
use Rattle.kt_engine.proofs.Outsiders.{a_merge}
use Rattle.kt_engine.proofs.Lists.{some_one}
use Rattle.kt_engine.proofs.Outside.{takes_mems}
use Rattle.kt_engine.proofs.Shelved.{next_is}
use Rattle.kt_engine.proofs.Snapshots.{passing_from}

-- ---- which of the MemRowSets are taken: the last ones

drop_none : {A : Type 0} (n : ℕ) (xs : List A) → length xs ≡ 0 → drop n xs ≡ xs
drop_none zero xs none = refl
drop_none (suc n) [] none = refl
drop_none (suc n) (x ∷ xs) none = absurd (omega (arith, none))

take_none : {A : Type 0} (n : ℕ) (xs : List A) → length xs ≡ 0 → take n xs ≡ xs
take_none zero [] none = refl
take_none (suc n) [] none = refl
take_none n (x ∷ xs) none = absurd (omega (arith, none))

none_out : {A : Type 0} (last : ℕ) (names : List Target) (xs : List A) → AreRowsetNames names → of_taken (mems last) names xs ≡ []
none_out last [] xs are = refl
none_out last (Mem n ∷ names) xs are = absurd are
none_out last (Delta r n ∷ names) [] are = refl
none_out last (Delta r n ∷ names) (x ∷ xs) are = none_out last names xs are

all_low : {A : Type 0} (last many high : ℕ) (names : List Target) (xs : List A) → AreShelved many high names → high ≤ last + 1 → length names ≡ length xs → of_taken (mems last) names xs ≡ take many xs
all_low last zero high names xs are low same = none_out last names xs are
all_low last (suc many) high [] xs are low same = absurd are
all_low last (suc many) high (Mem n ∷ names) [] are low same = absurd (omega (arith, same))
all_low last (suc many) high (Mem n ∷ names) (x ∷ xs) are low same =
    let lt = are.0 in
    ap (λ (b : Bool). cond b (x ∷ of_taken (mems last) names xs) (of_taken (mems last) names xs)) (le-leb n last (omega arith)) ∙ ap (λ (l : List _). x ∷ l) (all_low last many n names xs are.1 (omega arith) (omega (arith, same)))
all_low last (suc many) high (Delta r n ∷ names) xs are low same = absurd are

few_taken : (last many high : ℕ) (names : List Target) → AreShelved many high names → length (of_taken (mems last) names names) ≤ many
few_taken last zero high names are = let e : length (of_taken (mems last) names names) ≡ 0 = ap length (none_out last names names are) in omega (arith, e)
few_taken last (suc many) high [] are = absurd are
few_taken last (suc many) high (Mem n ∷ names) are = by (nat_le n last) (few_taken last many n names are.1)
  where
    by : (b : Bool) → length (of_taken (mems last) names names) ≤ many → length (cond b (Mem n ∷ of_taken (mems last) names names) (of_taken (mems last) names names)) ≤ suc many
    by true le = omega arith
    by false le = omega arith
few_taken last (suc many) high (Delta r n ∷ names) are = absurd are

last_ones : {A : Type 0} (last many high : ℕ) (names : List Target) (xs : List A) → AreShelved many high names → length names ≡ length xs → of_taken (mems last) names xs ≡ drop (many - length (of_taken (mems last) names names)) (take many xs)
last_ones last zero high names xs are same = none_out last names xs are ∙ sym (drop_none (0 - length (of_taken (mems last) names names)) (take 0 xs) refl)
last_ones last (suc many) high [] xs are same = absurd are
last_ones last (suc many) high (Mem n ∷ names) [] are same = absurd (omega (arith, same))
last_ones last (suc many) high (Mem n ∷ names) (x ∷ xs) are same = by (nat_le n last) refl (last_ones last many n names xs are.1 (omega (arith, same)))
  where
    rest : length names ≡ length xs
    rest = omega (arith, same)

    by : (b : Bool) → nat_le n last ≡ b → of_taken (mems last) names xs ≡ drop (many - length (of_taken (mems last) names names)) (take many xs) → cond b (x ∷ of_taken (mems last) names xs) (of_taken (mems last) names xs) ≡ drop (suc many - length (cond b (Mem n ∷ of_taken (mems last) names names) (of_taken (mems last) names names))) (x ∷ take many xs)
    by true e behind =
        let up : n ≤ last = leb-true n last e in
        let all : length (of_taken (mems last) names names) ≡ many = ap length (all_low last many n names names are.1 (omega arith) refl) ∙ long_shelved many n names are.1 in
        let none : suc many - suc (length (of_taken (mems last) names names)) ≡ 0 = omega (arith, all) in
        ap (λ (l : List _). x ∷ l) (all_low last many n names xs are.1 (omega arith) rest) ∙ ap (λ (k : ℕ). drop k (x ∷ take many xs)) (sym none)
    by false e behind =
        let few = few_taken last many n names are.1 in
        let one : suc (many - length (of_taken (mems last) names names)) ≡ suc many - length (of_taken (mems last) names names) = omega arith in
        behind ∙ ap (λ (k : ℕ). drop k (x ∷ take many xs)) one
last_ones last (suc many) high (Delta r n ∷ names) xs are same = absurd are

behind_first : (frozen high : ℕ) (names : List Target) → AreShelved (suc frozen) high names → (top : ℕ) × AreShelved frozen top (drop 1 names)
behind_first frozen high [] are = absurd are
behind_first frozen high (Mem n ∷ names) are = (n, are.1)
behind_first frozen high (Delta r n ∷ names) are = absurd are

long_stores : (stores : List Store) (k : ℕ) (names : List Target) → length (take k names) ≡ k → length names ≡ length stores → length (take k stores) ≡ k
long_stores stores zero names e same = refl
long_stores [] (suc k) [] e same = e
long_stores (s ∷ stores) (suc k) [] e same = absurd (omega (arith, same))
long_stores [] (suc k) (name ∷ names) e same = absurd (omega (arith, same))
long_stores (s ∷ stores) (suc k) (name ∷ names) e same = ap suc (long_stores stores k names (omega (arith, e)) (omega (arith, same)))

-- ---- parts of lists

map_drop : {A B : Type 0} (f : A → B) (n : ℕ) (xs : List A) → drop n (map f xs) ≡ map f (drop n xs)
map_drop f zero xs = refl
map_drop f (suc n) [] = refl
map_drop f (suc n) (x ∷ xs) = map_drop f n xs

map_take : {A B : Type 0} (f : A → B) (n : ℕ) (xs : List A) → take n (map f xs) ≡ map f (take n xs)
map_take f zero xs = refl
map_take f (suc n) [] = refl
map_take f (suc n) (x ∷ xs) = ap (λ (l : List _). f x ∷ l) (map_take f n xs)

long_map : {A B : Type 0} (f : A → B) (xs : List A) → length (map f xs) ≡ length xs
long_map f [] = refl
long_map f (x ∷ xs) = ap suc (long_map f xs)

each_take : {A : Type 0} (P : A → Type 0) (n : ℕ) (xs : List A) → AllByRecursion P xs → AllByRecursion P (take n xs)
each_take P zero [] all = tt
each_take P (suc n) [] all = tt
each_take P zero (x ∷ xs) all = tt
each_take P (suc n) (x ∷ xs) all = (all.0, each_take P n xs all.1)

grown_take : (n : ℕ) (stores : List Store) → AllGrown stores → AllGrown (take n stores)
grown_take zero stores all = tt
grown_take (suc n) [] all = tt
grown_take (suc n) (s ∷ stores) all = (all.0, grown_take n stores all.1)

grown_drop : (n : ℕ) (stores : List Store) → AllGrown stores → AllGrown (drop n stores)
grown_drop zero stores all = all
grown_drop (suc n) [] all = all
grown_drop (suc n) (s ∷ stores) all = grown_drop n stores all.1

under_drop : (top : ℕ) (q : List ℕ) (n : ℕ) (stores : List Store) → AllUnder top (hists q stores) → AllUnder top (hists q (drop n stores))
under_drop top q zero stores all = all
under_drop top q (suc n) [] all = all
under_drop top q (suc n) (s ∷ stores) all = under_drop top q n stores all.1

as_listed : (bound : ℕ) (q : List ℕ) (lists : List (List KeyChange)) → map (hist_upto bound) (map (hist_in_changes q) lists ++ []) ≡ map (λ (list : List KeyChange). hist_upto bound (hist_in_changes q list)) lists
as_listed bound q [] = refl
as_listed bound q (list ∷ lists) = ap (λ (l : List Hist). hist_upto bound (hist_in_changes q list) ∷ l) (as_listed bound q lists)

-- ---- it is back

-- as many MemRowSets as it takes are among all that is read
pub frozen_inside : {L D C : Type 0} (log_tells : Bool) (log_seen : L → Files) (log_now : L → ℕ) (log_leaves : L → ℕ → Files → Type 0) (log_faults : L → ℕ) (tells : Bool) (seen : D → Files) (faults : D → ℕ) (view : EngineView L D C)
    → (are : IsEngine log_tells log_seen log_now log_leaves log_faults view × IsStored log_tells log_seen tells seen faults view) → (n : ℕ) (job : JobView) → job_of n view.upkeep ≡ Some job → job.stage ≡ stage.Outside → job.want ≡ want.Flush
    → (inputs : Inputs) → ReadsMemory view.tablet view.tablet.core.c inputs → job.frozen ≤ length inputs.mems
frozen_inside log_tells log_seen log_now log_leaves log_faults tells seen faults view are n job had at flush inputs reads =
    let was = a_merge view.tablet view.store.meta view.store.lent view.upkeep (view.records ++ are.1.run) job (are.1.outside n job had at) (λ on. subst Rewrites flush on) in
    let its : TakesMems view.tablet.names job = subst (TakesStill view.tablet.names job) flush was.takes in
    let behind = behind_first view.tablet.frozen (2 ^ 64) view.tablet.names are.0.ready.shelved in
    let few = few_taken job.last_mem view.tablet.frozen behind.0 (drop 1 view.tablet.names) behind.1 in
    let many = its.many in
    let long : length inputs.mems ≡ suc view.tablet.frozen = ap length reads.mems ∙ long_map (changes_upto view.tablet.core.c) (take (suc view.tablet.frozen) view.tablet.core.stores) ∙ long_stores view.tablet.core.stores (suc view.tablet.frozen) view.tablet.names (long_shelved (suc view.tablet.frozen) (2 ^ 64) view.tablet.names are.0.ready.shelved) was.as_many in
    omega arith

-- what was read as it came back: all of memory, cut behind the MemRowSets that came since
pub record IsReadAgain {C : Type 0} (v : View C) (frozen : ℕ) (m : MemsNow) : Type 0 where
  pub inputs : Inputs
  pub mark : ℕ
  pub marked : mark ≡ min v.core.c v.core.a
  pub reads : ReadsMemory v v.core.c inputs
  pub now_is : m.now ≡ drop (length inputs.mems - frozen) inputs.mems
  pub since_is : m.since ≡ record { bound = v.core.c; mark = mark; inputs = record inputs { mems = take (length inputs.mems - frozen) inputs.mems } }

pub read_again : {C : Type 0} (v : View C) (frozen was : ℕ) (m : MemsNow) (inputs : Inputs) (bound mark a : ℕ) → bound ≡ v.core.c → a ≡ v.core.a → mark ≡ min bound a → was ≡ frozen → ReadsMemory v bound inputs → m.now ≡ drop (length inputs.mems - was) inputs.mems
    → m.since ≡ record { bound = bound; mark = mark; inputs = record inputs { mems = take (length inputs.mems - was) inputs.mems } } → IsReadAgain v frozen m
read_again v frozen was m inputs bound mark a last marked least same reads now since = record {
  inputs = inputs;
  mark = mark;
  marked = least ∙ ap (min bound) marked ∙ ap (λ (n : ℕ). min n v.core.a) last;
  reads = subst (λ (n : ℕ). ReadsMemory v n inputs) last reads;
  now_is = subst (λ (k : ℕ). m.now ≡ drop (length inputs.mems - k) inputs.mems) same now;
  since_is = subst (λ (b : ℕ). m.since ≡ record { bound = b; mark = mark; inputs = record inputs { mems = take (length inputs.mems - frozen) inputs.mems } }) last
      (subst (λ (k : ℕ). m.since ≡ record { bound = bound; mark = mark; inputs = record inputs { mems = take (length inputs.mems - k) inputs.mems } }) same since);
}

-- of the job by another name
pub as_job : {L D C : Type 0} (tells : Bool) (n : ℕ) (known job : JobView) (m : MemsNow) (old new : EngineView L D C) → known ≡ job → HasRefrozen tells n known m old new → HasRefrozen tells n job m old new
as_job tells n known job m old new same h = subst (λ (j : JobView). HasRefrozen tells n j m old new) same h

module _ {L D C : Type 0} (log_tells : Bool) (log_seen : L → Files) (log_now : L → ℕ) (log_leaves : L → ℕ → Files → Type 0) (log_faults : L → ℕ) (tells : Bool) (seen : D → Files) (faults : D → ℕ) (readings : C → Option (List ℕ)) (view : EngineView L D C)
    (are : IsEngine log_tells log_seen log_now log_leaves log_faults view × IsStored log_tells log_seen tells seen faults view) (sound : IsSound readings view.tablet) (grown : AllGrown (take (suc view.tablet.frozen) view.tablet.core.stores)) (small : view.tablet.core.c < 2 ^ 64)
    (calm : view.tablet.core.aloft ≡ []) (n : ℕ) (job : JobView) (had : job_of n view.upkeep ≡ Some job) (at : job.stage ≡ stage.Outside) (flush : job.want ≡ want.Flush) (m : MemsNow) (again : IsReadAgain view.tablet job.frozen m) (tablet : View C) (h : HasFrozen view.tablet tablet) (many : ℕ)
    (count : many ≡ view.log.known.count + length (view.log.out ++ view.log.queued)) (upkeep : UpkeepsView) (has : HasUpkeep n (record (upkeep_at n view.upkeep.passes) { job = Some (job_again many h.number m job) }) view.upkeep upkeep)
    (counted : (upkeep.begun ≡ suc view.upkeep.begun) × (upkeep.publishing ≡ view.upkeep.publishing)) where
  abbrev v : View C
  v = view.tablet

  abbrev shelved : AreShelved (suc v.frozen) (2 ^ 64) v.names
  shelved = are.0.ready.shelved

  was : MergesOutside v view.store.meta view.store.lent view.upkeep (view.records ++ are.1.run) job
  was = a_merge v view.store.meta view.store.lent view.upkeep (view.records ++ are.1.run) job (are.1.outside n job had at) (λ on. subst Rewrites flush on)

  its : TakesMems v.names job
  its = subst (TakesStill v.names job) flush was.takes

  active_is : first_number v.names ≡ h.number
  active_is = ap first_number h.was

  on_again : JobOn (view.records ++ are.1.run) (job_again many h.number m job)
  on_again =
      let k = are.1.count in
      record {
        many = omega (arith, count);
        names = subst (RecordsBelow (before job.first_rowset h.number)) (sym (take_all many (view.records ++ are.1.run) (omega (arith, count)))) (subst (λ (l : ℕ). RecordsBelow (before job.first_rowset l) (view.records ++ are.1.run)) active_is was.named);
      }

  pub again_both : h.number + 1 < 2 ^ 64 → view.upkeep.begun < 2 ^ 24 → IsEngine log_tells log_seen log_now log_leaves log_faults (record view { tablet = tablet; upkeep = upkeep }) × IsStored log_tells log_seen tells seen faults (record view { tablet = tablet; upkeep = upkeep })
  again_both fits few =
      refrozen_both log_tells log_seen log_now log_leaves log_faults tells seen faults view upkeep tablet n (record (upkeep_at n view.upkeep.passes) { job = Some (job_again many h.number m job) }) h fits has counted.0 (counted.1 ∙ was.free.0) few was.free.0 are
      (λ j e. subst (JobOn (view.records ++ are.1.run)) (some_one (job_again many h.number m job) j e) on_again)
      (λ j e. let one : job_again many h.number m job ≡ j = some_one (job_again many h.number m job) j e in ap (λ (x : JobView). is_at_outside x.stage) (sym one))

  -- ---- the lists

  abbrev firsts : List Store
  firsts = take (suc v.frozen) v.core.stores

  abbrev cut : ℕ
  cut = suc v.frozen - job.frozen

  -- the names behind the first, and as many MemRowSets among them as are taken
  behind : AreShelved v.frozen h.number (drop 1 v.names)
  behind = subst (λ (ns : List Target). AreShelved v.frozen h.number (drop 1 ns)) (sym h.was) (subst (AreShelved (suc v.frozen) (2 ^ 64)) h.was shelved).1

  few_frozen : job.frozen ≤ v.frozen
  few_frozen = let few = few_taken job.last_mem v.frozen h.number (drop 1 v.names) behind in let e = its.many in omega arith

  long_firsts : length firsts ≡ suc v.frozen
  long_firsts = long_stores v.core.stores (suc v.frozen) v.names (long_shelved (suc v.frozen) (2 ^ 64) v.names shelved) was.as_many

  long_lists : length again.inputs.mems ≡ suc v.frozen
  long_lists = ap length again.reads.mems ∙ long_map (changes_upto v.core.c) firsts ∙ long_firsts

  cut_is : length again.inputs.mems - job.frozen ≡ cut
  cut_is = ap (λ (k : ℕ). k - job.frozen) long_lists

  -- what it took with it are the last ones
  own_are : taken_stores (mems job.last_mem) v ≡ drop cut firsts
  own_are =
      last_ones job.last_mem v.frozen h.number (drop 1 v.names) (drop 1 v.core.stores) behind (one_less v.names v.core.stores was.as_many)
      ∙ ap (λ (k : ℕ). drop (v.frozen - k) (take v.frozen (drop 1 v.core.stores))) its.many
      ∙ sym (first_off v.core.stores)
    where
      one_less : (names : List Target) (stores : List Store) → length names ≡ length stores → length (drop 1 names) ≡ length (drop 1 stores)
      one_less [] [] same = refl
      one_less [] (s ∷ stores) same = absurd (omega (arith, same))
      one_less (name ∷ names) [] same = absurd (omega (arith, same))
      one_less (name ∷ names) (s ∷ stores) same = omega (arith, same)

      next : cut ≡ suc (v.frozen - job.frozen)
      next = let few = few_frozen in omega arith

      first_off : (stores : List Store) → drop cut (take (suc v.frozen) stores) ≡ drop (v.frozen - job.frozen) (take v.frozen (drop 1 stores))
      first_off [] = drop_none cut [] refl ∙ sym (ap (drop (v.frozen - job.frozen)) (take_none v.frozen [] refl) ∙ drop_none (v.frozen - job.frozen) [] refl)
      first_off (s ∷ stores) = ap (λ (k : ℕ). drop k (s ∷ take v.frozen stores)) next

  now_are : m.now ≡ map (changes_upto v.core.c) (drop cut firsts)
  now_are = again.now_is ∙ ap (λ (k : ℕ). drop k again.inputs.mems) cut_is ∙ ap (drop cut) again.reads.mems ∙ map_drop (changes_upto v.core.c) cut firsts

  since_mems : m.since.inputs.mems ≡ map (changes_upto v.core.c) (take cut firsts)
  since_mems = ap (λ (i : JobInput). i.inputs.mems) again.since_is ∙ ap (λ (k : ℕ). take k again.inputs.mems) cut_is ∙ ap (take cut) again.reads.mems ∙ map_take (changes_upto v.core.c) cut firsts

  bound_is : m.since.bound ≡ v.core.c
  bound_is = ap (λ (i : JobInput). i.bound) again.since_is

  no_rowsets : m.since.inputs.rowsets ≡ []
  no_rowsets = ap (λ (i : JobInput). i.inputs.rowsets) again.since_is ∙ again.reads.rowsets

  columns_are : m.since.inputs.columns ≡ again.inputs.columns
  columns_are = ap (λ (i : JobInput). i.inputs.columns) again.since_is

  lists_rise : AllByRecursion (λ (list : List KeyChange). rises list ≡ true) m.since.inputs.mems
  lists_rise = subst (AllByRecursion (λ (list : List KeyChange). rises list ≡ true)) (sym since_mems) (they_rise v.core.c (take cut firsts) (grown_take cut firsts grown))

  since_read : IsReadOf v m.since
  since_read = record {
    bound = bound_is;
    mark = ap (λ (i : JobInput). i.mark) again.since_is ∙ again.marked ∙ ap (λ (b : ℕ). min b v.core.a) (sym bound_is);
    no_rowsets = no_rowsets;
    readable = record {
      ids = subst (IdsRise 0) (sym columns_are) again.reads.shapes.rise;
      few = subst (λ (cs : List ColumnShape). length cs < 2 ^ 16) (sym columns_are) again.reads.shapes.few;
      mems = lists_rise;
      rowsets = subst (AllByRecursion IsReadable) (sym no_rowsets) tt;
    };
    few =
        let part = sum_by-take-le (λ (list : List KeyChange). length list) again.inputs.mems (length again.inputs.mems - job.frozen) in
        let all = again.reads.few in
        subst (λ (i : Inputs). rows_and_changes i < 2 ^ 31) (sym (ap (λ (j : JobInput). j.inputs) again.since_is)) (omega arith);
  }

  -- ---- what they tell

  abbrev Found : Past → Type 0
  Found first = Opens v.opening v.mark v.core.opened first

  under_all : (first : Past) → Found first → (q : List ℕ) → AllUnder (suc v.core.c) (hists q firsts)
  under_all first opens q = under_first (suc v.core.c) q (suc v.frozen) v.core.stores (stand_apart (record v.core { first = first }) q (sound.stands first opens)).1

  now_tell : (first : Past) → Found first → (q : List ℕ) → hists_in q m.now ≡ hists q (drop cut firsts)
  now_tell first opens q = ap (hists_in q) now_are ∙ they_have v.core.c q (drop cut firsts) (grown_drop cut firsts grown) (under_drop (suc v.core.c) q cut firsts (under_all first opens q))

  since_tell : (first : Past) → Found first → (q : List ℕ) → hists_upto m.since.bound q m.since.inputs ≡ hists q (take cut firsts)
  since_tell first opens q =
      ap (λ (l : List RowSetData). map (hist_upto m.since.bound) (map (hist_in_changes q) m.since.inputs.mems ++ map (λ (d : RowSetData). hist_in q (store_in d)) l)) no_rowsets
      ∙ as_listed m.since.bound q m.since.inputs.mems
      ∙ ap (map (λ (list : List KeyChange). hist_upto m.since.bound (hist_in_changes q list))) since_mems
      ∙ ap (λ (b : ℕ). map (λ (list : List KeyChange). hist_upto b (hist_in_changes q list)) (map (changes_upto v.core.c) (take cut firsts))) bound_is
      ∙ they_tell v.core.c q (take cut firsts) (grown_take cut firsts grown) (under_first (suc v.core.c) q cut firsts (under_all first opens q))

  both_tell : (first : Past) → Found first → (q : List ℕ) → hists_upto m.since.bound q m.since.inputs ++ hists_in q m.now ≡ hists q firsts
  both_tell first opens q =
      ap (λ (l : List Hist). l ++ hists_in q m.now) (since_tell first opens q) ∙ ap (λ (l : List Hist). hists q (take cut firsts) ++ l) (now_tell first opens q)
      ∙ sym (hists_join q (take cut firsts) (drop cut firsts)) ∙ ap (hists q) (take-append-drop cut firsts)

  all_apart : (a : ℕ) (q : List ℕ) → AreApart a (hists q v.core.stores) → AreApart a (hists q firsts)
  all_apart a q apart = apart_first a q (suc v.frozen) v.core.stores apart

  mark_is : (first : Past) → Found first → m.since.mark ≡ v.core.a
  mark_is first opens = let up = (sound.stands first opens).flown.marked in ap (λ (i : JobInput). i.mark) again.since_is ∙ again.marked ∙ (omega arith)

  stand : (first : Past) → Found first → (q : List ℕ) → AreApart v.core.a (hists q firsts)
  stand first opens q = all_apart v.core.a q (stand_apart (record v.core { first = first }) q (sound.stands first opens)).0

  without_fault : (first : Past) → Found first → AreFaultless (record { mark = m.since.mark; bound = m.since.bound }) m.since.inputs
  without_fault first opens = no_fault (record { mark = m.since.mark; bound = m.since.bound }) m.since.inputs no_rowsets (subst (λ (b : ℕ). b < 2 ^ 64) (sym bound_is) small) (subst AreShapes (sym columns_are) again.reads.shapes)
      (subst (λ (i : JobInput). AllByRecursion (AreOfTable i.inputs.columns) i.inputs.mems) (sym again.since_is) (each_take (AreOfTable again.inputs.columns) (length again.inputs.mems - job.frozen) again.inputs.mems again.reads.table)) lists_rise
      (λ q. subst (AreApart m.since.mark) (sym (since_tell first opens q)) (subst (λ (a : ℕ). AreApart a (hists q (take cut firsts))) (sym (mark_is first opens)) (apart_first v.core.a q cut firsts (stand first opens q))))

  -- ---- what it takes now

  takes_now : TakesInputs (record view { tablet = tablet; upkeep = upkeep }) (job_again many h.number m job)
  takes_now = record {
    takes = subst (TakesBy (record view { tablet = tablet; upkeep = upkeep }) (job_again many h.number m job)) (sym flush) (takes_frozen view tablet upkeep h (job_again many h.number m job) shelved its.none refl);
    left = subst (λ (t : View C). AreLeft job.first_rowset (drop t.frozen (drop 1 t.names))) (sym h.is) (subst (λ (k : ℕ). AreLeft job.first_rowset (drop k v.names)) (next_is v.frozen) (subst (AreLeft job.first_rowset) (sym (drop_first v.frozen v.names)) was.left));
    below = was.below;
    many = count;
  }

  as_many_now : length tablet.names ≡ length tablet.core.stores
  as_many_now = subst (λ (t : View C). length t.names ≡ length t.core.stores) (sym h.is) (ap suc was.as_many)

  all_taken : taken_stores (mems h.number) tablet ≡ firsts
  all_taken =
      let frozen : TakesFrozen (record view { tablet = tablet; upkeep = upkeep }) (job_again many h.number m job) = takes_frozen view tablet upkeep h (job_again many h.number m job) shelved its.none refl in
      frozen_are_taken tablet h.number job.first_rowset frozen.frozen takes_now.left as_many_now ∙ ap (λ (t : View C). take t.frozen (drop 1 t.core.stores)) h.is ∙ ap (λ (k : ℕ). take k v.core.stores) (sym (next_is v.frozen))

  abbrev after : EngineView L D C
  after = record view { tablet = tablet; upkeep = upkeep }

  found_before : (first : Past) → IsFound after first → Found first
  found_before first opens = subst (λ (t : View C). Opens t.opening t.mark t.core.opened first) h.is opens

  content_before : (rules : Rules) (first : Past) → IsContent rules after first → IsContent rules view first
  content_before rules first content = let same = subst (λ (t : View C). IsContent rules (record view { tablet = t; upkeep = upkeep }) first) h.is content in record { closed = same.closed; opens = same.opens; holds = same.holds }

  -- what both parts have passes, and so does each
  passes_now : IsTrue tells → (rules : Rules) (first : Past) → IsContent rules after first → PlanPasses rules tablet.core.work
      → (q : List ℕ) → HistPasses rules q (joined_history job.mark (hists_in q m.now)) × HistPasses rules q (joined_history m.since.mark (hists_upto m.since.bound q m.since.inputs))
  passes_now t rules first content plan q = (
    subst (λ (l : List Hist). HistPasses rules q (joined_history job.mark l)) (sym (now_tell first c.opens q)) (of_parts job.mark (was.low first c.opens) (all_apart job.mark q (was.whole first c.opens q))).1,
    subst (λ (l : List Hist). HistPasses rules q (joined_history m.since.mark l)) (sym (since_tell first c.opens q))
        (subst (λ (a : ℕ). HistPasses rules q (joined_history a (hists q (take cut firsts)))) (sym (mark_is first c.opens)) (of_parts v.core.a (are.1.low view.store.meta (inl refl)) (stand first c.opens q)).0),
  )
    where
      c : IsContent rules view first
      c = content_before rules first content

      planned : PlanPasses rules v.core.work
      planned = subst (λ (x : View C). PlanPasses rules x.core.work) h.is plan

      parts : hists q firsts ≡ hists q (take cut firsts) ++ hists q (drop cut firsts)
      parts = sym (ap (hists q) (take-append-drop cut firsts)) ∙ hists_join q (take cut firsts) (drop cut firsts)

      of_parts : (a : ℕ) → view.store.meta.a ≤ a → AreApart a (hists q firsts) → HistPasses rules q (joined_history a (hists q (take cut firsts))) × HistPasses rules q (joined_history a (hists q (drop cut firsts)))
      of_parts a low apart = parts_pass rules q a (hists q (take cut firsts)) (hists q (drop cut firsts)) (subst (AreApart a) parts apart)
          (subst (λ (l : List Hist). HistPasses rules q (joined_history a l)) parts
          (passing_from log_tells log_seen tells seen faults readings view are.1 again.inputs again.reads grown sound shelved was.as_many was.free.0 calm t rules first c planned a low q apart))

  now_is : (first : Past) → Found first → (q : List ℕ) → hists q (taken_stores (takes_of job) v) ≡ hists_in q m.now
  now_is first opens q = ap (λ (t : Takes). hists q (taken_stores t v)) (takes_mems job.taken job.last_mem its.none) ∙ ap (hists q) own_are ∙ sym (now_tell first opens q)

  pub has_refrozen : m.since.inputs.columns ≡ map shape_of (other_columns view.store.meta.schema) → HasRefrozen tells n job m view after
  has_refrozen columns = record {
    many = many;
    frozen = h;
    upkeep = has;
    counted = (counted.0, counted.1 ∙ was.free.0);
    beside = refl;
    takes = takes_now;
    as_many = as_many_now;
    inputs = was.inputs;
    read = was.read;
    since = since_read;
    columns = columns;
    mark = (was.mark.0, subst (λ (t : View C). job.mark ≤ t.core.a) (sym h.is) was.mark.1);
    front = λ first opens q. subst (λ (w : Want). hists_of q was.inputs ≡ vacant_of w ++ hists_read w was.inputs q) flush (was.front first (found_before first opens) q);
    later = λ first opens q. subst (λ (w : Want). AllHaveLater job.bound (hists_read w was.inputs q) (hists_in q m.now)) flush
        (subst (AllHaveLater job.bound (hists_read job.want was.inputs q)) (now_is first (found_before first opens) q) (was.later first (found_before first opens) q));
    apart = λ first opens q. subst (λ (w : Want). AreApart job.mark (hists_read w was.inputs q) × AllUnder (suc job.bound) (hists_read w was.inputs q)) flush (was.apart first (found_before first opens) q);
    parts = λ first opens q. both_tell first (found_before first opens) q ∙ sym (ap (hists q) all_taken);
    whole = λ first opens q. subst (λ (t : View C). AreApart t.core.a (hists q (taken_stores (mems h.number) tablet))) (sym h.is) (subst (λ (ss : List Store). AreApart v.core.a (hists q ss)) (sym all_taken) (stand first (found_before first opens) q));
    faultless = λ first opens. without_fault first (found_before first opens);
    passes = passes_now;
  }
