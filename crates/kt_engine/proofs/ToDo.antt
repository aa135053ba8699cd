-- Whether there is something to do for a flush or a compaction.
use Rattle.std.proofs.Common.{◌≡◌, ◌≢◌, ℕ, zero, suc, ◌≤◌, ◌<◌, ◌+◌, ◌^◌, Bool, true, false, cond, IsTrue, List, [], ◌∷◌, ◌++◌, length, get_or, map, Option, Some, None, Result, Ok, Err, refl, sym, ap, ◌∙◌, subst, inl, inr, arith}
use Rattle.std.specs.Prelude.{◌⊎◌, ◌↔◌, ◌-◌, ◌==◌, ◌||◌, is_some, not, nat_le, IfOk}
use Rattle.std.specs.List.{sum_by, list_any}
use Rattle.std.proofs.lemmas.Bool.{leb-true, leb-false, le-leb, eqb-true, eq-eqb, or_right}
use Rattle.std.proofs.lemmas.List.{length-map}
use Rattle.std.proofs.lemmas.List.Folds.{list_any-append}
use Rattle.std.proofs.lemmas.List.Sums.{sum_by-cons}
use Rattle.kt_bytes.specs.declared.memory.NoMemory.{NoMemory}
use Rattle.kt_history.specs.declared.changes.KeyChange.{KeyChange}
use Rattle.kt_history.specs.Rows.{Row}
use Rattle.kt_pick.specs.declared.rules.Want.{Want}
use Rattle.kt_pick.specs.declared.rules.Want.TheVariants as want
use Rattle.kt_history.specs.declared.target.Target.{Target}
use Rattle.kt_history.specs.declared.target.Target.TheVariants.{Mem, Delta}
use Rattle.kt_stores.specs.Takes.{rowsets}
use Rattle.kt_tablet.specs.Views.{View}
use Rattle.kt_tablet.specs.Jobs.{changes_in_memory, filled_of, dms_in, entries_in, taken_stores}
use Rattle.kt_engine.specs.Engines.{EngineView}
use Rattle.kt_engine.specs.Jobs.{NoRows, HasRowset, is_rowset}
use Rattle.kt_engine.specs.JobSteps.{running, IsMerge, IsUntouched, LacksOne, IsNothing, no_rows, no_rowsets, not_there, lacks_one, too_many_rows, too_many, too_many_jobs, too_many_running, no_numbers, last_number}

-- too many jobs have begun or run, or no number is left
abbrev pub IsFull : {L D C : Type 0} → EngineView L D C → Type 0
IsFull v = (2 ^ 24 ≤ v.upkeep.begun) ⊎ ((512 ≤ running v.upkeep) ⊎ ((v.first_file + 2 ^ 44 ≤ v.store.next_file) ⊎ (v.store.next_rowset ≡ 2 ^ 64 - 1)))

-- a flush has nothing to write, or too much
abbrev pub HasNoFlush : {C : Type 0} → View C → Type 0
HasNoFlush t = NoRows t ⊎ (2 ^ 31 ≤ sum_by (λ (list : List KeyChange). length list) (changes_in_memory t.core.c t))

-- a compaction has nothing to take, lacks some of it, or has too much to read
abbrev pub HasNoCompaction : {C : Type 0} → List ℕ → View C → Type 0
HasNoCompaction taken t = (taken ≡ []) ⊎ (LacksOne taken t.names ⊎ (2 ^ 31 ≤ entries_in (taken_stores (rowsets taken) t)))

abbrev pub HasNone : {C : Type 0} → Want → View C → Type 0
HasNone want.Flush t = HasNoFlush t
HasNone (want.Compact taken) t = HasNoCompaction taken t
HasNone (want.FlushDeltas r) t = ⊥
HasNone (want.Minor r) t = ⊥
HasNone (want.Major r) t = ⊥

none_nothing : {L D C : Type 0} (v : EngineView L D C) (w : Want) → HasNone w v.tablet → IsNothing v w
none_nothing v want.Flush none = elim none [ inl vacant ↦ no_rows refl vacant | inr many ↦ too_many refl many ]
none_nothing v (want.Compact taken) none = elim none [
  | inl empty ↦ no_rowsets (ap want.Compact empty)
  | inr rest ↦ elim rest [ inl one ↦ lacks_one taken refl one | inr many ↦ too_many_rows taken refl many ]
]
none_nothing v (want.FlushDeltas r) none = absurd none
none_nothing v (want.Minor r) none = absurd none
none_nothing v (want.Major r) none = absurd none

not_one : (w : Want) (r : ℕ) → IsMerge w → (w ≡ want.FlushDeltas r) ⊎ ((w ≡ want.Minor r) ⊎ (w ≡ want.Major r)) → ⊥
not_one w r merges one = elim one [ inl a ↦ subst IsMerge a merges | inr rest ↦ elim rest [ inl b ↦ subst IsMerge b merges | inr c ↦ subst IsMerge c merges ] ]

-- one of these is why
why : {L D C : Type 0} (v : EngineView L D C) (w : Want) → IsMerge w → IsNothing v w → IsFull v ⊎ HasNone w v.tablet
why v w merges (no_rows e none) = inr (subst (λ (x : Want). HasNone x v.tablet) (sym e) (inl none))
why v w merges (no_rowsets e) = inr (subst (λ (x : Want). HasNone x v.tablet) (sym e) (inl refl))
why v w merges (not_there r e none) = absurd (not_one w r merges e)
why v w merges (lacks_one taken e one) = inr (subst (λ (x : Want). HasNone x v.tablet) (sym e) (inr (inl one)))
why v w merges (too_many_rows taken e many) = inr (subst (λ (x : Want). HasNone x v.tablet) (sym e) (inr (inr many)))
why v w merges (too_many e many) = inr (subst (λ (x : Want). HasNone x v.tablet) (sym e) (inr many))
why v w merges (too_many_jobs begun) = inl (inl begun)
why v w merges (too_many_running run) = inl (inr (inl run))
why v w merges (no_numbers file) = inl (inr (inr (inl file)))
why v w merges (last_number rowset) = inl (inr (inr (inr rowset)))

nothing_is : {L D C : Type 0} (v : EngineView L D C) (w : Want) → IsMerge w → ¬ IsFull v → (b : Bool) → (IsTrue b ↔ HasNone w v.tablet) → (IsTrue b ↔ IsNothing v w)
nothing_is v w merges open_ b same = ((λ so. none_nothing v w (same.0 so)), (λ n. same.1 (elim (why v w merges n) [ inl full ↦ absurd (open_ full) | inr none ↦ none ])))

-- where it is not full, there is nothing to do where the want has none
pub nothing_in : {L D C : Type 0} (v : EngineView L D C) (w : Want) → IsMerge w → ¬ IsFull v → (r : Result Bool NoMemory) → IfOk r (λ b. IsTrue b ↔ HasNone w v.tablet) → IfOk r (λ b. IsTrue b ↔ IsNothing v w)
nothing_in v w merges open_ (Ok b) same = nothing_is v w merges open_ b same
nothing_in v w merges open_ (Err e) same = tt

-- so where there is something to do it is not full, and none of it is lacking
begins_one : {L D C : Type 0} (v : EngineView L D C) (w : Want) → ¬ IsNothing v w → (v.upkeep.begun < 2 ^ 24) × (v.store.next_rowset ≢ 2 ^ 64 - 1)
begins_one v w some = (by (nat_le (2 ^ 24) v.upkeep.begun) refl, λ last. some (last_number last))
  where
    by : (b : Bool) → nat_le (2 ^ 24) v.upkeep.begun ≡ b → v.upkeep.begun < 2 ^ 24
    by true e = absurd (some (too_many_jobs (leb-true (2 ^ 24) v.upkeep.begun e)))
    by false e = leb-false (2 ^ 24) v.upkeep.begun e

compacts_some : {L D C : Type 0} (v : EngineView L D C) (taken : List ℕ) → ¬ IsNothing v (want.Compact taken) → (taken ≢ []) × ¬ LacksOne taken v.tablet.names
compacts_some v taken some = ((λ none. some (no_rowsets (ap want.Compact none))), (λ one. some (lacks_one taken refl one)))

-- where nothing has changed a job may begin then
pub begins_few : {L D C : Type 0} (old new : EngineView L D C) (w : Want) → IsUntouched old new → ¬ IsNothing old w → new.upkeep.begun < 2 ^ 24
begins_few old new w same some = subst (λ (n : ℕ). n < 2 ^ 24) (sym same.begun.0) (begins_one old w some).0

pub begins_last : {L D C : Type 0} (old new : EngineView L D C) (w : Want) → IsUntouched old new → ¬ IsNothing old w → new.store.next_rowset ≢ 2 ^ 64 - 1
begins_last old new w same some = λ last. (begins_one old w some).1 (ap (λ (v : EngineView _ _ _). v.store.next_rowset) (sym same.beside) ∙ last)

pub begins_taken : {L D C : Type 0} (old new : EngineView L D C) (w asked : Want) → IsUntouched old new → asked ≡ w → ¬ IsNothing old w → (taken : List ℕ) → asked ≡ want.Compact taken → (taken ≢ []) × ¬ LacksOne taken new.tablet.names
begins_taken old new w asked same as_wanted some taken is =
    let here = compacts_some old taken (subst (λ (x : Want). ¬ IsNothing old x) (sym as_wanted ∙ is) some) in (here.0, subst (λ (v : EngineView _ _ _). ¬ LacksOne taken v.tablet.names) (sym same.beside) here.1)

-- ---- what is there

pub rowset_there : (r dms : ℕ) (names : List Target) → dms_in r names ≡ Some dms → HasRowset r names
rowset_there r dms [] at = absurd (let no : None ≡ Some dms = at in cc)
rowset_there r dms (Mem n ∷ names) at = rowset_there r dms names at
rowset_there r dms (Delta s n ∷ names) at = by (s == r) at (rowset_there r dms names)
  where
    by : (b : Bool) → cond b (Some n) (dms_in r names) ≡ Some dms → (dms_in r names ≡ Some dms → HasRowset r names) → (b || list_any (is_rowset r) names) ≡ true
    by true e rest = refl
    by false e rest = rest e

pub some_dms : (o : Option ℕ) (none : Bool) → is_some o ≡ not none → none ≡ false → (dms : ℕ) × (o ≡ Some dms)
some_dms None none is not_ = absurd (let no_ : false ≡ true = is ∙ ap not not_ in cc)
some_dms (Some dms) none is not_ = (dms, refl)

pub no_dms : (o : Option ℕ) (none : Bool) → is_some o ≡ not none → none ≡ true → o ≡ None
no_dms None none is so = refl
no_dms (Some dms) none is so = absurd (let no_ : true ≡ false = is ∙ ap not so in cc)

-- those before a place are there
abbrev pub AreThere : List ℕ → List Target → Type 0
AreThere taken names = (r : ℕ) → list_any (λ (s : ℕ). s == r) taken ≡ true → HasRowset r names

pub there_more : (front : List ℕ) (x : ℕ) (names : List Target) → HasRowset x names → AreThere front names → AreThere (front ++ x ∷ []) names
there_more front x names own are r asked = by (list_any (λ (s : ℕ). s == r) front) refl (sym (list_any-append (λ (s : ℕ). s == r) front (x ∷ [])) ∙ asked)
  where
    last : (b : Bool) → (x == r) ≡ b → (b || false) ≡ true → HasRowset r names
    last true e is = subst (λ (k : ℕ). HasRowset k names) (eqb-true x r e) own
    last false e is = absurd (let no : false ≡ true = is in cc)

    by : (b : Bool) → list_any (λ (s : ℕ). s == r) front ≡ b → (b || list_any (λ (s : ℕ). s == r) (x ∷ [])) ≡ true → HasRowset r names
    by true e is = are r e
    by false e is = last (x == r) refl is

-- one that is among them is asked for
pub asked_at : (taken : List ℕ) (k d : ℕ) → k < length taken → list_any (λ (s : ℕ). s == get_or taken k d) taken ≡ true
asked_at [] k d lt = absurd (omega arith)
asked_at (x ∷ taken) zero d lt = ap (λ (b : Bool). b || list_any (λ (s : ℕ). s == x) taken) (eq-eqb x x refl)
asked_at (x ∷ taken) (suc k) d lt = or_right (x == get_or taken k d) (list_any (λ (s : ℕ). s == get_or taken k d) taken) (asked_at taken k d (omega arith))

-- whether a compaction has none, by these tests
pub no_compaction : {C : Type 0} (taken : List ℕ) (t : View C) (many : Bool) → taken ≢ [] → ¬ LacksOne taken t.names → many ≡ nat_le (2 ^ 31) (entries_in (taken_stores (rowsets taken) t)) → (IsTrue many ↔ HasNoCompaction taken t)
no_compaction taken t many some all test = (
  (λ so. inr (inr (leb-true (2 ^ 31) (entries_in (taken_stores (rowsets taken) t)) (sym test ∙ so)))),
  (λ none. elim none [ inl empty ↦ absurd (some empty) | inr rest ↦ elim rest [ inl one ↦ absurd (all one) | inr le ↦ test ∙ le-leb (2 ^ 31) (entries_in (taken_stores (rowsets taken) t)) le ] ]),
)

-- ---- too many changes

abbrev pub long : List KeyChange → ℕ
long list = length list

-- an insert that is filled is one change still
same_long : (fill : Row) (lists : List (List KeyChange)) → sum_by long (map (map (filled_of fill)) lists) ≡ sum_by long lists
same_long fill [] = refl
same_long fill (l ∷ ls) = sum_by-cons long (map (filled_of fill) l) (map (map (filled_of fill)) ls) ∙ ap (λ (n : ℕ). n + sum_by long (map (map (filled_of fill)) ls)) (length-map l (filled_of fill)) ∙ ap (λ (n : ℕ). long l + n) (same_long fill ls) ∙ sym (sum_by-cons long l ls)

-- what are many as they are listed are many as they are filled
pub many_so : {C : Type 0} (t : View C) (lists : List (List KeyChange)) (many : Bool) → map (map (filled_of t.core.work.fill)) lists ≡ changes_in_memory t.core.c t → many ≡ nat_le (2 ^ 31) (sum_by long lists) → ¬ NoRows t → (IsTrue many ↔ HasNoFlush t)
many_so t lists many told is rows =
    let same : sum_by long lists ≡ sum_by long (changes_in_memory t.core.c t) = sym (same_long t.core.work.fill lists) ∙ ap (sum_by long) told in
    let test : many ≡ nat_le (2 ^ 31) (sum_by long (changes_in_memory t.core.c t)) = is ∙ ap (nat_le (2 ^ 31)) same in (
      (λ so. inr (leb-true (2 ^ 31) (sum_by long (changes_in_memory t.core.c t)) (sym test ∙ so))),
      (λ none. elim none [ inl vacant ↦ absurd (rows vacant) | inr le ↦ test ∙ le-leb (2 ^ 31) (sum_by long (changes_in_memory t.core.c t)) le ]),
    )
