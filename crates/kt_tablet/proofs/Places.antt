-- Where each session stands, as its place says it.
use Rattle.std.proofs.Common.{◌≡◌, ℕ, zero, suc, ◌-◌, ◌<◌, List, [], ◌∷◌, Some, None, refl, ap, ◌∙◌, arith, map, length}
use Rattle.std.specs.Prelude.{slice_get, slice_set, get_or, IsSome}
use Rattle.std.proofs.lemmas.List.{map-set}
use Rattle.std.proofs.lemmas.Bool.{false≢true}
use Rattle.kt_history.specs.declared.command.Command.{Command}
use Rattle.kt_history.specs.Machine.{Turn, nth, set_nth, first_turns}
use Rattle.kt_tablet.specs.declared.turns.Place.{Place}
use Rattle.kt_tablet.specs.Places.{turn_of}

-- each session is at its first command
pub turns_first : (places : List Place) (plan : List (List Command)) → places ≡ map (λ _. record { next = 1; look = None }) plan → map turn_of places ≡ first_turns plan
turns_first places plan e = ap (map turn_of) e ∙ first plan
  where
    first : (plan : List (List Command)) → map turn_of (map (λ _. record { next = 1; look = None }) plan) ≡ first_turns plan
    first [] = refl
    first (commands ∷ plan) = ap (λ r. record { next = 1; look = None } ∷ r) (first plan)

-- a session that has a turn has its place
pub counted : (turns : List Turn) (s : ℕ) → IsSome (nth turns s) → 0 < s
counted turns zero h = absurd (false≢true h)
counted turns (suc s) h = omega arith

pub placed : (places : List Place) (s : ℕ) → IsSome (nth (map turn_of places) s) → s - 1 < length places
placed places zero h = absurd (false≢true h)
placed places (suc s) h = let within = got places s h in omega (arith, within)
  where
    got : (places : List Place) (k : ℕ) → IsSome (slice_get (map turn_of places) k) → k < length places
    got [] k h = absurd (false≢true h)
    got (x ∷ xs) zero h = omega arith
    got (x ∷ xs) (suc k) h = let within = got xs k h in omega (arith, within)

pub set_turn : (places : List Place) (s : ℕ) (place : Place) → IsSome (nth (map turn_of places) s) → map turn_of (slice_set places (s - 1) place) ≡ set_nth (map turn_of places) s (turn_of place)
set_turn places zero place h = absurd (false≢true h)
set_turn places (suc s) place h = let e : suc s - 1 ≡ s = omega arith in ap (λ n. map turn_of (slice_set places n place)) e ∙ map-set turn_of places s place

-- what its place says
pub looked : (places : List Place) (s : ℕ) (turn : Turn) (d : Place) → nth (map turn_of places) s ≡ Some turn → (get_or places (s - 1) d).look ≡ turn.look
looked places zero turn d h = absurd (none_some h)
  where
    none_some : {A : Type 0} {x : A} → None ≡ Some x → ⊥
    none_some e = cc
looked places (suc s) turn d h = let e : suc s - 1 ≡ s = omega arith in ap (λ n. (get_or places n d).look) e ∙ got places s turn d h
  where
    got : (places : List Place) (k : ℕ) (turn : Turn) (d : Place) → slice_get (map turn_of places) k ≡ Some turn → (get_or places k d).look ≡ turn.look
    got [] k turn d h = absurd (none_some h)
      where
        none_some : None ≡ Some turn → ⊥
        none_some e = cc
    got (x ∷ xs) zero turn d h = some_look h
      where
        some_look : Some (turn_of x) ≡ Some turn → x.look ≡ turn.look
        some_look e = cc
    got (x ∷ xs) (suc k) turn d h = got xs k turn d h
