-- What holds from a mark on holds from a later one on.
use Rattle.std.proofs.Common.{◌≡◌, ◌≤◌, ◌<◌, ℕ, Bool, true, false, cond, List, [], ◌∷◌, refl, sym, ap, ◌∙◌, subst, arith}
use Rattle.std.specs.Prelude.{nat_lt}
use Rattle.std.proofs.lemmas.Bool.{ltb-true, ltb-false, le-ltb}
use Rattle.kt_history.specs.Stores.{Steps, Hist}
use Rattle.kt_histlaws.specs.Fitting.{Rises, steps_above, RiseAbove}
use Rattle.kt_rowfiles.specs.Flushing.{EachAbove}
use Rattle.kt_merge.proofs.Written.{each_above}
use Rattle.kt_joblaws.specs.Outputs.{marks_may_rise}

each_from : (j low : ℕ) (steps : Steps) → j ≤ low → Rises low steps → EachAbove j steps
each_from j low [] le r = tt
each_from j low (c ∷ steps) le r = (omega (arith, r.0), each_from j c.0 steps (omega (arith, r.0)) r.1)

rises_cut : (a low : ℕ) (steps : Steps) → Rises low steps → Rises a (steps_above a steps)
rises_cut a low [] r = tt
rises_cut a low (c ∷ steps) r = by (nat_lt a c.0) refl (rises_cut a c.0 steps r.1)
  where
    by : (b : Bool) → nat_lt a c.0 ≡ b → Rises a (steps_above a steps) → Rises a (cond b (c ∷ steps_above a steps) (steps_above a steps))
    by true e rest =
        let up : a < c.0 = ltb-true a c.0 e in
        (up, subst (Rises c.0) (sym (each_above a steps (each_from a c.0 steps (omega arith) r.1))) r.1)
    by false e rest = rest

pub above_twice : (j a : ℕ) (steps : Steps) → j ≤ a → steps_above a (steps_above j steps) ≡ steps_above a steps
above_twice j a [] le = refl
above_twice j a (c ∷ steps) le = by (nat_lt j c.0) refl (above_twice j a steps le)
  where
    by : (b : Bool) → nat_lt j c.0 ≡ b → steps_above a (steps_above j steps) ≡ steps_above a steps → steps_above a (cond b (c ∷ steps_above j steps) (steps_above j steps)) ≡ cond (nat_lt a c.0) (c ∷ steps_above a steps) (steps_above a steps)
    by true e rest = ap (λ (l : Steps). cond (nat_lt a c.0) (c ∷ l) l) rest
    by false e rest =
        let down = ltb-false j c.0 e in
        rest ∙ sym (ap (λ (b : Bool). cond b (c ∷ steps_above a steps) (steps_above a steps)) (le-ltb a c.0 (omega arith)))

rise_later : (j a : ℕ) (hs : List Hist) → j ≤ a → RiseAbove j hs → RiseAbove a hs
rise_later j a [] le r = tt
rise_later j a (h ∷ hs) le r = (subst (Rises a) (above_twice j a h.steps le) (rises_cut a j (steps_above j h.steps) r.0), rise_later j a hs le r.1)

pub may_rise : marks_may_rise
may_rise j a xs ys le = (
  λ h. record { rows = λ t up. h.rows t (omega arith); steps = λ t up. h.steps t (omega arith); one_row = λ t up. h.one_row t (omega arith); one_step = λ t up. h.one_step t (omega arith) },
  λ s. record { fit = λ t up. s.fit t (omega arith); rise = rise_later j a ys le s.rise },
)
