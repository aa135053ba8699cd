-- A tablet that was made ready for a job.
use Rattle.std.proofs.Common.{◌≡◌, ◌⊎◌, ℕ, [], Bool, Option, None, true, false, inl, inr, refl, sym, ap, subst, ◌∙◌}
use Rattle.std.specs.Prelude.{IsTrue, not, ◌&&◌}
use Rattle.kt_engine.specs.Engines.{EngineView}
use Rattle.kt_maint.specs.Runs.{is_pass, HasNoDevice, AppendsAs, SettlesAs, ReadyAs}
use Rattle.kt_maint.specs.declared.ready.Ready.{Ready}
use Rattle.kt_maint.specs.declared.ready.Ready.TheVariants as ready

pub none_has : (holder : Option ℕ) (n : ℕ) → holder ≡ None → is_pass holder n ≡ false
none_has holder n e = ap (λ (h : Option ℕ). is_pass h n) e

-- both devices are at home
pub no_device : {L D C : Type 0} (n : ℕ) (v : EngineView L D C) → v.log.holder ≡ None → v.store.holder ≡ None → HasNoDevice n v
no_device n v log store = record { log = none_has v.log.holder n log; store = none_has v.store.holder n store }

-- nothing waits for the log
pub settled : {L D C : Type 0} (n : ℕ) (old new : EngineView L D C) (r : Ready) → (new.tablet ≡ old.tablet) × (new.store ≡ old.store) × (new.upkeep ≡ old.upkeep) → new.tablet.core.stopped ≡ false
    → (new.log.queued ≡ []) × (new.log.out ≡ []) × (new.log.holder ≡ None) → is_pass old.store.holder n ≡ false
    → (r ≡ ready.Yes → (new.tablet.core.aloft ≡ []) × (new.log.holder ≡ None) × (new.store.holder ≡ None)) → (r ≡ ready.Yes) ⊎ (r ≡ ready.Wait) → ReadyAs n old new r
settled n old new r same goes log store calm (inl e) =
    subst (ReadyAs n old new) (sym e) (record { goes = goes; calm = (calm e).0; settled = log; home = (calm e).2 }, same.0, same.1, same.2)
settled n old new r same goes log store calm (inr e) =
    subst (ReadyAs n old new) (sym e) (same.0, same.1, same.2, record { log = none_has new.log.holder n log.2; store = ap (λ s. is_pass s.holder n) same.1 ∙ store })

-- while the tablet goes on its log is whole
pub whole_log : (log store stopped : Bool) → stopped ≡ not (log && store) → stopped ≡ false → IsTrue log
whole_log true store stopped is goes = refl
whole_log false store stopped is goes = let both : true ≡ false = sym is ∙ goes in absurd cc

-- a bit that is not true
pub not_true : (b : Bool) → (b ≡ true → ⊥) → b ≡ false
not_true true never = absurd (never refl)
not_true false never = refl

-- the log went out, and was appended to
pub settles_then : {L D C : Type 0} (n : ℕ) (a b c : EngineView L D C) (r : Ready) → b ≡ record a { log = b.log } → a.tablet.core.stopped ≡ false → AppendsAs n b c r → SettlesAs n a c r
settles_then n a b c ready.Yes beside goes h =
    let same = h.3 ∙ ap (λ v. v.tablet) beside in
    (record { goes = ap (λ t. t.core.stopped) same ∙ goes; settled = (h.0, h.1, h.2) }, same, h.4 ∙ ap (λ v. v.store) beside, h.5 ∙ ap (λ v. v.upkeep) beside)
settles_then n a b c ready.Wait beside goes never = absurd never
settles_then n a b c ready.Memory beside goes h = (h.1 ∙ ap (λ v. v.tablet) beside, h.2 ∙ ap (λ v. v.store) beside, h.3 ∙ ap (λ v. v.upkeep) beside, none_has c.log.holder n h.0)
settles_then n a b c ready.Stopped beside goes h = (h.0, h.2 ∙ ap (λ v. v.store) beside, h.3 ∙ ap (λ v. v.upkeep) beside, none_has c.log.holder n h.1)

-- nothing waits for the log, and the pass has no device
pub ready_of : {L D C : Type 0} (n : ℕ) (a b : EngineView L D C) (r : Ready) → HasNoDevice n a → (r ≡ ready.Yes → ⊥) → SettlesAs n a b r → ReadyAs n a b r
ready_of n a b ready.Yes home other h = absurd (other refl)
ready_of n a b ready.Wait home other h = (ap (λ v. v.tablet) h.0, ap (λ v. v.store) h.0, ap (λ v. v.upkeep) h.0, subst (HasNoDevice n) (sym h.0) home)
ready_of n a b ready.Memory home other h = (h.0, h.1, h.2, record { log = h.3; store = ap (λ s. is_pass s.holder n) h.1 ∙ home.store })
ready_of n a b ready.Stopped home other h = (h.0, h.2, record { log = h.3; store = ap (λ s. is_pass s.holder n) h.1 ∙ home.store })
