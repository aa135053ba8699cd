-- A job has begun: what a flush takes lies behind an empty MemRowSet, and what a compaction takes is there.
use Rattle.std.proofs.Common.{◌≡◌, ◌≢◌, ℕ, zero, suc, ◌<◌, ◌≤◌, ◌+◌, ◌-◌, ◌^◌, List, ◌∷◌, ◌++◌, length, map, take, drop, Some, None, refl, sym, ap, ◌∙◌, subst, arith, inl, inr}
use Rattle.std.specs.Prelude.{◌==◌, Bool, true, false, [], slice_get}
use Rattle.std.specs.List.{list_any}
use Rattle.std.proofs.lemmas.Bool.{cases_eq}
use Rattle.kt_history.specs.declared.target.Target.{Target}
use Rattle.kt_history.specs.declared.target.Target.TheVariants.{Mem, Delta}
use Rattle.kt_content.specs.RunEvents.{StoresBelow}
use Rattle.kt_tablet.specs.Views.{View}
use Rattle.kt_tablet.specs.Jobs.{HasFrozen}
use Rattle.kt_pick.specs.declared.rules.Want.{Want}
use Rattle.kt_pick.specs.declared.rules.Want.TheVariants as want
use Rattle.kt_engine.specs.declared.upkeep.Stage.TheVariants as stage
use Rattle.kt_engine.specs.Memory.{name_of}
use Rattle.kt_engine.specs.Over.{AreLeft, AreShelved}
use Rattle.kt_engine.specs.Jobs.{JobView, UpkeepsView, HasRowset, HasUpkeep, upkeep_at, asked, is_rowset, taken_by}
use Rattle.kt_engine.specs.Near.{first_number}
use Rattle.kt_engine.specs.Engines.{EngineView}
use Rattle.kt_engine.specs.Stored.{numbers_of}
use Rattle.kt_engine.specs.JobSteps.{AreUpTo, LacksOne, TakesFrozen, TakesInputs, TakesBy, HasTaken, HasBegunJob, IsUntouched}
use Rattle.kt_engine.proofs.Rising.{given_same}
use Rattle.kt_engine.proofs.Shelved.{next_is, lower_shelved, shelved_upto, shelved_behind, names_behind, left_of}

pub next_number : (n : ℕ) → n + 1 ≡ suc n
next_number n = omega arith

-- the newest frozen one is the one that took inserts
pub last_is : {C : Type 0} (old new : View C) (last : ℕ) (h : HasFrozen old new) → (0 < new.frozen → slice_get new.names 1 ≡ Some (Mem last)) → last ≡ h.number
last_is old new last h at =
    let frozen : new.frozen ≡ old.frozen + 1 = ap (λ (t : View _). t.frozen) h.is in
    let names : new.names ≡ Mem (h.number + 1) ∷ Mem h.number ∷ h.others = ap (λ (t : View _). t.names) h.is ∙ ap (λ (ns : List Target). Mem (h.number + 1) ∷ ns) h.was in
    let there : Some (Mem last) ≡ Some (Mem h.number) = sym (at (omega arith)) ∙ ap (λ (ns : List Target). slice_get ns 1) names in
    cc

module _ {L D C : Type 0} (view : EngineView L D C) (tablet : View C) (upkeep : UpkeepsView) (h : HasFrozen view.tablet tablet) where
  pub takes_frozen : (job : JobView) → AreShelved (suc view.tablet.frozen) (2 ^ 64) view.tablet.names → job.taken ≡ [] → job.last_mem ≡ h.number → TakesFrozen (record view { tablet = tablet; upkeep = upkeep }) job
  takes_frozen job shelved none last =
      subst (λ (t : View C). TakesFrozen (record view { tablet = t; upkeep = upkeep }) job) (sym h.is) (record {
        none = none;
        vacant = refl;
        first = omega arith;
        frozen = subst (λ (k : ℕ). AreUpTo job.last_mem (take k view.tablet.names)) (next_is view.tablet.frozen)
            (shelved_upto (suc view.tablet.frozen) (h.number + 1) job.last_mem view.tablet.names (omega arith) (lower_shelved h.number view.tablet.frozen h.others view.tablet.names h.was shelved));
      })

  -- what a flush takes
  flush_takes : (job : JobView) → job.want ≡ want.Flush → AreShelved (suc view.tablet.frozen) (2 ^ 64) view.tablet.names → StoresBelow (numbers_of view) (map name_of view.tablet.names) → view.store.next_rowset ≢ 2 ^ 64 - 1 → view.store.meta.next_rowset ≤ view.store.next_rowset
      → job.taken ≡ [] → job.last_mem ≡ h.number → job.first_rowset ≡ view.store.next_rowset → job.many ≡ view.log.known.count + length (view.log.out ++ view.log.queued) → TakesInputs (record view { tablet = tablet; upkeep = upkeep }) job
  flush_takes job is shelved below not_last side none last first many = record {
    takes = subst (TakesBy (record view { tablet = tablet; upkeep = upkeep }) job) (sym is) (takes_frozen job shelved none last);
    left = subst (λ (t : View C). AreLeft job.first_rowset (drop t.frozen (drop 1 t.names))) (sym h.is)
        (subst (λ (k : ℕ). AreLeft job.first_rowset (drop k view.tablet.names)) (next_is view.tablet.frozen)
        (left_of (numbers_of view) job.first_rowset (drop (suc view.tablet.frozen) view.tablet.names) (given_same view.store.next_rowset not_last ∙ sym first)
        (shelved_behind (suc view.tablet.frozen) (2 ^ 64) view.tablet.names shelved) (names_behind (numbers_of view) (suc view.tablet.frozen) view.tablet.names below)));
    below = omega arith;
    many = many;
  }

-- the first number is that of the first name
pub first_is : (names : List Target) (n : ℕ) → slice_get names 0 ≡ Some (Mem n) → n ≡ first_number names
first_is [] n e = absurd (let no : None ≡ Some (Mem n) = e in cc)
first_is (Mem m ∷ names) n e = (let same : Some (Mem m) ≡ Some (Mem n) = e in cc)
first_is (Delta r m ∷ names) n e = absurd (let no : Some (Delta r m) ≡ Some (Mem n) = e in cc)

-- none of them is lacking
pub all_asked : (taken : List ℕ) (names : List Target) → ¬ LacksOne taken names → (r : ℕ) → list_any (λ (s : ℕ). s == r) taken ≡ true → HasRowset r names
all_asked taken names none r asked = by (list_any (is_rowset r) names) refl
  where
    by : (b : Bool) → list_any (is_rowset r) names ≡ b → HasRowset r names
    by true e = e
    by false e = absurd (none (record { r = r; asked = asked; lacks = λ has. let no : true ≡ false = sym has ∙ e in cc }))

pub drop_first : {A : Type 0} (n : ℕ) (xs : List A) → drop (suc n) xs ≡ drop n (drop 1 xs)
drop_first zero [] = refl
drop_first (suc n) [] = refl
drop_first n (x ∷ xs) = refl

module _ {L D C : Type 0} (view : EngineView L D C) (tablet : View C) (upkeep : UpkeepsView) where
  -- what a compaction takes
  compaction_takes : (job : JobView) (taken : List ℕ) → job.want ≡ want.Compact taken → tablet ≡ view.tablet → AreShelved (suc view.tablet.frozen) (2 ^ 64) view.tablet.names → StoresBelow (numbers_of view) (map name_of view.tablet.names) → view.store.next_rowset ≢ 2 ^ 64 - 1
      → view.store.meta.next_rowset ≤ view.store.next_rowset → job.taken ≡ taken → taken ≢ [] → ((r : ℕ) → list_any (λ (s : ℕ). s == r) taken ≡ true → HasRowset r view.tablet.names) → job.last_mem ≡ first_number view.tablet.names → job.first_rowset ≡ view.store.next_rowset
      → job.many ≡ view.log.known.count + length (view.log.out ++ view.log.queued) → TakesInputs (record view { tablet = tablet; upkeep = upkeep }) job
  compaction_takes job taken is same shelved below not_last side taken_is some there last first many = record {
    takes = subst (TakesBy (record view { tablet = tablet; upkeep = upkeep }) job) (sym is) (
      taken_is,
      record {
        some = λ none. some (sym taken_is ∙ none);
        there = λ r asked. subst (λ (t : View C). HasRowset r t.names) (sym same) (there r (subst (λ (l : List ℕ). list_any (λ (s : ℕ). s == r) l ≡ true) taken_is asked));
        first = (let n = ap (λ (t : View C). first_number t.names) same in omega arith);
      },
    );
    left = subst (λ (t : View C). AreLeft job.first_rowset (drop t.frozen (drop 1 t.names))) (sym same) (subst (AreLeft job.first_rowset) (drop_first view.tablet.frozen view.tablet.names)
        (left_of (numbers_of view) job.first_rowset (drop (suc view.tablet.frozen) view.tablet.names) (given_same view.store.next_rowset not_last ∙ sym first)
        (shelved_behind (suc view.tablet.frozen) (2 ^ 64) view.tablet.names shelved) (names_behind (numbers_of view) (suc view.tablet.frozen) view.tablet.names below)));
    below = omega arith;
    many = many;
  }

  -- the job has begun
  begun_is : (n k : ℕ) (w : Want) (job : JobView) → job.want ≡ w → job.taken ≡ taken_by w → job.stage ≡ stage.Begun → job.output ≡ None → k ≡ job.number → job.number ≡ view.upkeep.begun + 1 → (upkeep.begun ≡ job.number) × (upkeep.publishing ≡ None)
      → (job.first_rowset ≡ view.store.next_rowset) × (job.first_file ≡ view.store.next_file) → HasUpkeep n (asked w job (upkeep_at n view.upkeep.passes)) view.upkeep upkeep → HasTaken w view.tablet tablet → TakesInputs (record view { tablet = tablet; upkeep = upkeep }) job
      → length tablet.names ≡ length tablet.core.stores → HasBegunJob view (record view { tablet = tablet; upkeep = upkeep }) n w k
  begun_is n k w job want_is taken_is stage_is output same next counted numbers has taken takes as_many = record {
    job = job;
    number = (sym same, same ∙ next ∙ next_number view.upkeep.begun, counted.0 ∙ sym same, counted.1);
    want_is = want_is;
    taken_is = taken_is;
    stage_is = stage_is;
    output = output;
    numbers = numbers;
    upkeep = has;
    tablet = taken;
    beside = refl;
    takes = takes;
    as_many = as_many;
  }

  -- a flush has, which froze
  pub flush_begins : (h : HasFrozen view.tablet tablet) (n k : ℕ) (w : Want) (job : JobView) → w ≡ want.Flush → job.want ≡ w → job.taken ≡ [] → job.stage ≡ stage.Begun → job.output ≡ None → k ≡ job.number → job.number ≡ view.upkeep.begun + 1
      → (upkeep.begun ≡ job.number) × (upkeep.publishing ≡ None) → (job.first_rowset ≡ view.store.next_rowset) × (job.first_file ≡ view.store.next_file) → HasUpkeep n (asked w job (upkeep_at n view.upkeep.passes)) view.upkeep upkeep
      → AreShelved (suc view.tablet.frozen) (2 ^ 64) view.tablet.names → StoresBelow (numbers_of view) (map name_of view.tablet.names) → view.store.next_rowset ≢ 2 ^ 64 - 1 → view.store.meta.next_rowset ≤ view.store.next_rowset → job.last_mem ≡ h.number
      → job.many ≡ view.log.known.count + length (view.log.out ++ view.log.queued) → length tablet.names ≡ length tablet.core.stores → HasBegunJob view (record view { tablet = tablet; upkeep = upkeep }) n w k
  flush_begins h n k w job is want_is none stage_is output same next counted numbers has shelved below not_last side last many as_many =
      begun_is n k w job want_is (none ∙ ap taken_by (sym is)) stage_is output same next counted numbers has (subst (λ (x : Want). HasTaken x view.tablet tablet) (sym is) h)
      (flush_takes view tablet upkeep h job (want_is ∙ is) shelved below not_last side none last numbers.0 many) as_many

  -- and a compaction, which froze nothing
  pub compaction_begins : (n k : ℕ) (w : Want) (job : JobView) (taken : List ℕ) → w ≡ want.Compact taken → job.want ≡ w → job.taken ≡ taken → job.stage ≡ stage.Begun → job.output ≡ None → k ≡ job.number → job.number ≡ view.upkeep.begun + 1
      → (upkeep.begun ≡ job.number) × (upkeep.publishing ≡ None) → (job.first_rowset ≡ view.store.next_rowset) × (job.first_file ≡ view.store.next_file) → HasUpkeep n (asked w job (upkeep_at n view.upkeep.passes)) view.upkeep upkeep → tablet ≡ view.tablet
      → AreShelved (suc view.tablet.frozen) (2 ^ 64) view.tablet.names → StoresBelow (numbers_of view) (map name_of view.tablet.names) → view.store.next_rowset ≢ 2 ^ 64 - 1 → view.store.meta.next_rowset ≤ view.store.next_rowset → taken ≢ []
      → ((r : ℕ) → list_any (λ (s : ℕ). s == r) taken ≡ true → HasRowset r view.tablet.names) → job.last_mem ≡ first_number view.tablet.names → job.many ≡ view.log.known.count + length (view.log.out ++ view.log.queued) → length tablet.names ≡ length tablet.core.stores
      → HasBegunJob view (record view { tablet = tablet; upkeep = upkeep }) n w k
  compaction_begins n k w job taken is want_is taken_is stage_is output same next counted numbers has stays shelved below not_last side some there last many as_many =
      begun_is n k w job want_is (taken_is ∙ ap taken_by (sym is)) stage_is output same next counted numbers has (subst (λ (x : Want). HasTaken x view.tablet tablet) (sym is) stays)
      (compaction_takes job taken (want_is ∙ is) stays shelved below not_last side taken_is some there last numbers.0 many) as_many

-- ---- a place was made before

-- what each pass has is what it had
pub place_same : (n : ℕ) (old new : UpkeepsView) → HasUpkeep n (upkeep_at n old.passes) old new → (k : ℕ) → upkeep_at k new.passes ≡ upkeep_at k old.passes
place_same n old new has k = elim (cases_eq k n) [
  | inl is ↦ ap (λ (i : ℕ). upkeep_at i new.passes) is ∙ has.own ∙ sym (ap (λ (i : ℕ). upkeep_at i old.passes) is)
  | inr ne ↦ has.others k ne
]

pub untouched_is : {L D C : Type 0} (old : EngineView L D C) (n : ℕ) (upkeep : UpkeepsView) → HasUpkeep n (upkeep_at n old.upkeep.passes) old.upkeep upkeep → (upkeep.begun ≡ old.upkeep.begun) × (upkeep.publishing ≡ old.upkeep.publishing) → IsUntouched old (record old { upkeep = upkeep })
untouched_is old n upkeep has begun = record { beside = refl; same = place_same n old.upkeep upkeep has; begun = begun }
