-- A job on the deltas of one rowset goes over.
use Rattle.std.proofs.Common.{◌≡◌, ◌≤◌, ◌<◌, ◌-◌, ℕ, List, [], ◌∷◌, ◌++◌, map, Some, None, Option, refl, sym, ap, ◌∙◌, subst, arith, cond, true, false, Bool, ◌⊎◌, inl, inr}
use Rattle.std.specs.Prelude.{nat_le, nat_lt, ◌==◌}
use Rattle.std.proofs.lemmas.List.Elements.{filter-append}
use Rattle.kt_history.specs.declared.change.Change.{Change}
use Rattle.kt_history.specs.Rows.{Row, apply}
use Rattle.kt_histlaws.specs.Histories.{or_else}
use Rattle.kt_history.specs.Stores.{Steps, Hist, after_steps, row_of, step_at, step_of}
use Rattle.kt_histlaws.specs.Fitting.{AreSound, IfFits, Rises, steps_above}
use Rattle.kt_histlaws.specs.Jobs.{AreAlike, push_all}
use Rattle.kt_content.specs.Places.{Super, Place, Held, at_first, held_in}
use Rattle.kt_content.specs.Agreement.{all_moved}
use Rattle.kt_content.specs.Publishing.{gone}
use Rattle.kt_content.specs.InMemory.{Name, Stores, stands_for, is_at, group, groups, hist_at, HasPlace}
use Rattle.kt_content.specs.StoreChanges.{steps_to}
use Rattle.kt_rowfiles.specs.Flushing.{cut, InOrderAt}
use Rattle.kt_content.specs.Lending.{with_changes}
use Rattle.kt_content.specs.DeltaJobs.{a_delta_job_goes_over}
use Rattle.kt_content.proofs.MoreOps.{is_same}
use Rattle.kt_content.proofs.TwoPhases.{has-gone}
use Rattle.kt_rowfiles.proofs.Flushing.{cut_alike}
use Rattle.kt_content.proofs.Lending.{alike_itself, outs_are}
use Rattle.kt_content.proofs.Options.{or_none, one_alone}

-- the same changes behind two histories

after-append : (t : ℕ) (xs ys : Steps) (row : Option Row) → after_steps t (xs ++ ys) row ≡ after_steps t ys (after_steps t xs row)
after-append t [] ys row = refl
after-append t (x ∷ xs) ys row = after-append t xs ys (cond (nat_le x.0 t) (apply x.1 row) row)

step-append : (t : ℕ) (xs ys : Steps) → step_at t (xs ++ ys) ≡ or_else (step_at t xs) (step_at t ys)
step-append t [] ys = refl
step-append t (x ∷ xs) ys = elim (x.0 == t) as (λ b. cond b (Some x.1) (step_at t (xs ++ ys)) ≡ or_else (cond b (Some x.1) (step_at t xs)) (step_at t ys)) [ true ↦ refl | false ↦ step-append t xs ys ]

pub alike_pushed : (j : ℕ) (steps : Steps) (g h : Hist) → AreAlike j (g ∷ []) (h ∷ []) → AreAlike j (push_all steps g ∷ []) (push_all steps h ∷ [])
alike_pushed j steps g h s = record {
  rows = λ t le. ap (λ o. or_else o None) (after-append t g.steps steps g.first ∙ ap (after_steps t steps) (row t le) ∙ sym (after-append t h.steps steps h.first));
  steps = λ t up. ap (λ o. or_else o None) (step-append t g.steps steps ∙ ap (λ o. or_else o (step_at t steps)) (step t up) ∙ sym (step-append t h.steps steps));
  one_row = λ t le. one_alone (row_of t (push_all steps h));
  one_step = λ t up. one_alone (step_of t (push_all steps h));
}
  where
    row : (t : ℕ) → j ≤ t → row_of t g ≡ row_of t h
    row t le = sym (or_none (row_of t g)) ∙ s.rows t le ∙ or_none (row_of t h)

    step : (t : ℕ) → j < t → step_of t g ≡ step_of t h
    step t up = sym (or_none (step_of t g)) ∙ s.steps t up ∙ or_none (step_of t h)

-- what is sound stays so in a history that is alike and has the same changes above the mark
pub sound_alike : (j : ℕ) (g h : Hist) → AreAlike j (g ∷ []) (h ∷ []) → steps_above j h.steps ≡ steps_above j g.steps → AreSound j (g ∷ []) → AreSound j (h ∷ [])
sound_alike j g h s same sound = record { fit = λ t up. (fits t up, tt); rise = (subst (Rises j) (sym same) sound.rise.0, tt) }
  where
    fits : (t : ℕ) → j < t → IfFits (step_of t h) (row_of (t - 1) h)
    fits t up =
        let step : step_of t g ≡ step_of t h = sym (or_none (step_of t g)) ∙ s.steps t up ∙ or_none (step_of t h) in
        let row : row_of (t - 1) g ≡ row_of (t - 1) h = sym (or_none (row_of (t - 1) g)) ∙ s.rows (t - 1) (omega arith) ∙ or_none (row_of (t - 1) h) in
        subst (λ o. IfFits o (row_of (t - 1) h)) step (subst (IfFits (step_of t g)) row (sound.fit t up).0)

above_twice : (j : ℕ) (steps : Steps) → steps_above j (steps_above j steps) ≡ steps_above j steps
above_twice j [] = refl
above_twice j (c ∷ steps) = either (nat_lt j c.0) refl (above_twice j steps)
  where
    either : (b : Bool) → nat_lt j c.0 ≡ b → steps_above j (steps_above j steps) ≡ steps_above j steps → steps_above j (cond b (c ∷ steps_above j steps) (steps_above j steps)) ≡ cond b (c ∷ steps_above j steps) (steps_above j steps)
    either true e rest = rw e (ap (λ s. c ∷ s) rest)
    either false e rest = rest

-- the stores of a group, all changed alike
group_mapped : (super : Super) (p : Place) (f : Hist → Hist) (stores : Stores) → group super p (map (λ (x : Name × Hist). (x.0, f x.1)) stores) ≡ map f (group super p stores)
group_mapped super p f [] = refl
group_mapped super p f (x ∷ stores) = elim (is_at p (stands_for super x.0)) as (λ b. cond b (f x.1 ∷ group super p (map (λ (y : Name × Hist). (y.0, f y.1)) stores)) (group super p (map (λ (y : Name × Hist). (y.0, f y.1)) stores)) ≡ map f (cond b (x.1 ∷ group super p stores) (group super p stores))) [
  | true ↦ ap (λ l. f x.1 ∷ l) (group_mapped super p f stores)
  | false ↦ group_mapped super p f stores
]

pub delta_over : a_delta_job_goes_over
delta_over fill keep old new j stores q xs ms p differ d =
    let steps = steps_to p xs d.moves in
    let files = hist_at p (at_first q new) in
    let now = with_changes q new xs d.moves p in
    let written : AreAlike j (d.read ∷ []) (files ∷ []) × (steps_above j files.steps ≡ steps_above j d.read.steps) = by_files files d.written in
    let alike : AreAlike j (d.live ∷ []) (now ∷ []) = subst (λ (h : Hist). AreAlike j (h ∷ []) (now ∷ [])) (sym d.since) (alike_pushed j steps d.read files written.0) in
    let above : steps_above j now.steps ≡ steps_above j d.live.steps =
    filter-append (λ (c : ℕ × Change). nat_lt j c.0) files.steps steps ∙ ap (λ s. s ++ steps_above j steps) written.1
    ∙ sym (filter-append (λ (c : ℕ × Change). nat_lt j c.0) d.read.steps steps) ∙ sym (ap (λ (h : Hist). steps_above j h.steps) d.since) in
    let shadows : Stores = map (λ (x : Name × Hist). (x.0, now)) stores in
    let shadow : group new p shadows ≡ now ∷ [] = group_mapped new p (λ h. now) stores ∙ ap (map (λ h. now)) d.new_store in
    let ends : held_in (gone keep (all_moved xs d.moves (at_first q new))) ≡ now ∷ [] =
    sym (outs_are keep new shadows q xs d.moves differ (λ r k has. subst (λ (x : Place). group new x shadows ≡ with_changes q new xs d.moves x ∷ []) (sym (here r k has)) shadow))
    ∙ ap (groups new shadows) d.new_place ∙ ap (λ l. l ++ []) shadow in
    record {
      moves = d.moves;
      fates = d.fates;
      outs = λ r k has. subst (λ (x : Place). AreAlike j (group new x stores) (with_changes q new xs d.moves x ∷ [])) (sym (here r k has)) (subst (λ (l : List Hist). AreAlike j l (now ∷ [])) (sym d.new_store) alike);
      alike = subst (λ (l : List Hist). AreAlike j l (held_in (gone keep (all_moved xs d.moves (at_first q new))))) (sym (ap (groups old stores) d.old_place ∙ ap (λ l. l ++ []) d.old_store))
          (subst (λ (l : List Hist). AreAlike j (d.live ∷ []) l) (sym ends) alike);
      sound = subst (λ (l : List Hist). AreSound j l) (sym ends) (sound_alike j d.live now alike above d.sound);
    }
  where
    by_files : (files : Hist) → (files ≡ d.read) ⊎ ((files ≡ cut j d.read) × InOrderAt j d.read.steps) → AreAlike j (d.read ∷ []) (files ∷ []) × (steps_above j files.steps ≡ steps_above j d.read.steps)
    by_files files (inl same) = (subst (λ (h : Hist). AreAlike j (d.read ∷ []) (h ∷ [])) (sym same) (alike_itself j d.read), ap (λ (h : Hist). steps_above j h.steps) same)
    by_files files (inr c) = (subst (λ (h : Hist). AreAlike j (d.read ∷ []) (h ∷ [])) (sym c.0) (cut_alike j d.read c.1), ap (λ (h : Hist). steps_above j h.steps) c.0 ∙ above_twice j d.read.steps)

    one_place : (r : Place) (h : Hist) → HasPlace r ((p, h) ∷ []) → r ≡ p
    one_place r h (inl same) = is_same r p same
    one_place r h (inr none) = absurd none

    here : (r : Place) → keep r ≡ false → HasPlace r (at_first q new) → r ≡ p
    here r k has = one_place r (hist_at p (at_first q new)) (subst (λ (l : Held). HasPlace r l) d.new_place (has-gone keep r (at_first q new) k has))
