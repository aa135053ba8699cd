-- Whether there is something to do for a want on the files of a disk rowset.
use Rattle.std.proofs.Common.{◌≡◌, ℕ, Bool, true, false, cond, List, [], ◌∷◌, Some, None, Result, Ok, Err, refl, sym, ap, ◌∙◌, subst, inl, inr}
use Rattle.std.specs.Prelude.{◌⊎◌, ◌↔◌, ◌==◌, ◌||◌, IsTrue, IfOk}
use Rattle.std.specs.List.{list_any}
use Rattle.kt_bytes.specs.declared.memory.NoMemory.{NoMemory}
use Rattle.kt_history.specs.declared.target.Target.{Target}
use Rattle.kt_history.specs.declared.target.Target.TheVariants.{Mem, Delta}
use Rattle.kt_pick.specs.declared.rules.Want.{Want}
use Rattle.kt_pick.specs.declared.rules.Want.TheVariants as want
use Rattle.kt_tablet.specs.Jobs.{dms_in}
use Rattle.kt_engine.specs.Engines.{EngineView}
use Rattle.kt_engine.specs.Jobs.{is_rowset, HasRowset}
use Rattle.kt_engine.specs.JobSteps.{IsUntouched, IsNothing, no_rows, no_rowsets, not_there, lacks_one, too_many_rows, too_many, too_many_jobs, too_many_running, no_numbers, last_number}
use Rattle.kt_engine.specs.DeltaJobs.{IsOn, HasNoWork, nothing}
use Rattle.kt_engine.proofs.ToDo.{IsFull, rowset_there}

-- none of these names is of the rowset
pub absent : (r : ℕ) (names : List Target) → dms_in r names ≡ None → list_any (is_rowset r) names ≡ false
absent r [] none = refl
absent r (Mem n ∷ names) none = absent r names none
absent r (Delta s n ∷ names) none = elim (s == r) as (λ (b : Bool). cond b (Some n) (dms_in r names) ≡ None → (b || list_any (is_rowset r) names) ≡ false) [
  | true ↦ λ e. absurd (let no : Some n ≡ None = e in cc)
  | false ↦ λ e. absent r names e
] none

pub lacking : (r : ℕ) (names : List Target) → list_any (is_rowset r) names ≡ false → ¬ HasRowset r names
lacking r names none there = let no : false ≡ true = sym none ∙ there in cc

-- it is one of three
one_of : (r : ℕ) (w : Want) → IsOn r w → (w ≡ want.FlushDeltas r) ⊎ ((w ≡ want.Minor r) ⊎ (w ≡ want.Major r))
one_of r want.Flush on = absurd on
one_of r (want.FlushDeltas s) on = inl (ap want.FlushDeltas on)
one_of r (want.Minor s) on = inr (inl (ap want.Minor on))
one_of r (want.Major s) on = inr (inr (ap want.Major on))
one_of r (want.Compact rowsets) on = absurd on

-- so there is nothing to do where its rowset is not there
pub no_rowset : {L D C : Type 0} (v : EngineView L D C) (w : Want) (r : ℕ) → IsOn r w → dms_in r v.tablet.names ≡ None → IsNothing v w
no_rowset v w r on none = not_there r (one_of r w on) (lacking r v.tablet.names (absent r v.tablet.names none))

-- ---- what a test of a want tells

-- it is not full, and its rowset is there
pub on_of : (w : Want) (r : ℕ) → (w ≡ want.FlushDeltas r) ⊎ ((w ≡ want.Minor r) ⊎ (w ≡ want.Major r)) → IsOn r w
on_of w r one = elim one [
  | inl a ↦ subst (IsOn r) (sym a) refl
  | inr rest ↦ elim rest [ inl b ↦ subst (IsOn r) (sym b) refl | inr c ↦ subst (IsOn r) (sym c) refl ]
]

on_one : (w : Want) (r s : ℕ) → IsOn r w → (w ≡ want.FlushDeltas s) ⊎ ((w ≡ want.Minor s) ⊎ (w ≡ want.Major s)) → s ≡ r
on_one w r s on one = elim one [ inl a ↦ subst (IsOn r) a on | inr rest ↦ elim rest [ inl b ↦ subst (IsOn r) b on | inr c ↦ subst (IsOn r) c on ] ]

why_on : {L D C : Type 0} (v : EngineView L D C) (w : Want) (r : ℕ) → IsOn r w → IsNothing v w → IsFull v ⊎ (¬ HasRowset r v.tablet.names)
why_on v w r on (no_rows e none) = absurd (subst (IsOn r) e on)
why_on v w r on (no_rowsets e) = absurd (subst (IsOn r) e on)
why_on v w r on (not_there s e none) = inr (subst (λ (k : ℕ). ¬ HasRowset k v.tablet.names) (on_one w r s on e) none)
why_on v w r on (lacks_one taken e one) = absurd (subst (IsOn r) e on)
why_on v w r on (too_many_rows taken e many) = absurd (subst (IsOn r) e on)
why_on v w r on (too_many e many) = absurd (subst (IsOn r) e on)
why_on v w r on (too_many_jobs begun) = inl (inl begun)
why_on v w r on (too_many_running run) = inl (inr (inl run))
why_on v w r on (no_numbers file) = inl (inr (inr (inl file)))
why_on v w r on (last_number rowset) = inl (inr (inr (inr rowset)))

pub some_on : {L D C : Type 0} (v : EngineView L D C) (w : Want) (r dms : ℕ) → IsOn r w → ¬ IsFull v → dms_in r v.tablet.names ≡ Some dms → ¬ IsNothing v w
some_on v w r dms on open_ at none = elim (why_on v w r on none) [ inl full ↦ open_ full | inr lacks ↦ lacks (rowset_there r dms v.tablet.names at) ]

-- what an exact test tells
pub told_nothing : {L D C : Type 0} (v : EngineView L D C) (w : Want) (r : Result Bool NoMemory) → IfOk r (λ b. IsTrue b ↔ IsNothing v w) → IfOk r (λ b. IsTrue b → HasNoWork v w)
told_nothing v w (Ok b) same = λ so. nothing (same.0 so)
told_nothing v w (Err e) same = tt

-- where nothing has changed the rowset is there still
pub begins_there : {L D C : Type 0} (old new : EngineView L D C) (w asked : Want) → IsUntouched old new → asked ≡ w → ((r : ℕ) → IsOn r w → (dms : ℕ) × (dms_in r old.tablet.names ≡ Some dms)) → (r : ℕ) → IsOn r asked → (dms : ℕ) × (dms_in r new.tablet.names ≡ Some dms)
begins_there old new w asked same as_wanted there r on =
    let here = there r (subst (IsOn r) as_wanted on) in
    (here.0, ap (λ (v : EngineView _ _ _). dms_in r v.tablet.names) same.beside ∙ here.1)
