-- The line of each command, as sessions are answered.
use Rattle.std.proofs.Common.{◌≡◌, ◌≢◌, ℕ, zero, suc, ◌+◌, List, [], ◌∷◌, ◌++◌, Some, None, Option, refl, false, ◌&&◌, cond, sym, ap, ◌∙◌, arith, length, map, inl, inr}
use Rattle.std.specs.Prelude.{◌==◌, slice_get, slice_set}
use Rattle.std.specs.Option.{option_map, option_or}
use Rattle.std.proofs.lemmas.List.{map-set, length-append}
use Rattle.std.proofs.lemmas.Bool.Decides.{nat_tests, eqb_tells}
use Rattle.kt_history.specs.declared.event.Event.{Event}
use Rattle.kt_history.specs.Machine.{nth, set_nth}
use Rattle.kt_history.specs.Machine as model
use Rattle.kt_judge.specs.Turns.{Stand, turn_of, with_line}
use Rattle.kt_judge.specs.Machine.{line_in, line_of}
use Rattle.kt_judge.proofs.Steps.{nth-map}

get-set_same : {A : Type 0} (xs : List A) (k : ℕ) (x v : A) → slice_get xs k ≡ Some x → slice_get (slice_set xs k v) k ≡ Some v
get-set_same [] k x v at = cc
get-set_same (y ∷ ys) zero x v at = refl
get-set_same (y ∷ ys) (suc k) x v at = get-set_same ys k x v at

get-set_other : {A : Type 0} (xs : List A) (n k : ℕ) (v : A) → k ≢ n → slice_get (slice_set xs n v) k ≡ slice_get xs k
get-set_other [] n k v ne = refl
get-set_other (y ∷ ys) zero zero v ne = absurd (ne refl)
get-set_other (y ∷ ys) zero (suc k) v ne = refl
get-set_other (y ∷ ys) (suc n) zero v ne = refl
get-set_other (y ∷ ys) (suc n) (suc k) v ne = get-set_other ys n k v (λ e. ne (ap suc e))

pub nth-set_same : {A : Type 0} (xs : List A) (n : ℕ) (x v : A) → nth xs n ≡ Some x → nth (set_nth xs n v) n ≡ Some v
nth-set_same xs zero x v at = cc
nth-set_same xs (suc k) x v at = get-set_same xs k x v at

pub nth-set_other : {A : Type 0} (xs : List A) (n k : ℕ) (v : A) → k ≢ n → nth (set_nth xs n v) k ≡ nth xs k
nth-set_other xs zero k v ne = refl
nth-set_other xs (suc n) zero v ne = refl
nth-set_other xs (suc n) (suc k) v ne = get-set_other xs n k v (λ e. ne (ap suc e))

pub map-set_nth : {A B : Type 0} (f : A → B) (xs : List A) (n : ℕ) (v : A) → map f (set_nth xs n v) ≡ set_nth (map f xs) n (f v)
map-set_nth f xs zero v = refl
map-set_nth f xs (suc k) v = map-set f xs k v

get-push : {A : Type 0} (xs : List A) (x : A) (k : ℕ) → slice_get (xs ++ x ∷ []) k ≡ option_or (slice_get xs k) (cond (k == length xs) (Some x) None)
get-push [] x zero = refl
get-push [] x (suc k) = let e : (suc k == 0) ≡ false = grind (arith, nat_tests) in sym (ap (λ b. cond b (Some x) None) e)
get-push (y ∷ ys) x zero = refl
get-push (y ∷ ys) x (suc k) =
    let e : (k == length ys) ≡ (suc k == suc (length ys)) = grind (arith, nat_tests) in
    get-push ys x k ∙ ap (λ b. option_or (slice_get ys k) (cond b (Some x) None)) e

-- one line more, for the command after the last one
nth-push : {A : Type 0} (xs : List A) (x : A) (i k : ℕ) → length xs + 1 ≡ i → nth (xs ++ x ∷ []) k ≡ option_or (nth xs k) (cond (k == i) (Some x) None)
nth-push xs x i zero e = let f : (0 == i) ≡ false = grind (arith, nat_tests) in sym (ap (λ b. cond b (Some x) None) f)
nth-push xs x i (suc k) e =
    let f : (k == length xs) ≡ (suc k == i) = grind (arith, nat_tests) in
    get-push xs x k ∙ ap (λ b. option_or (slice_get xs k) (cond b (Some x) None)) f

or_none : {A : Type 0} (o : Option A) → o ≡ option_or o None
or_none None = refl
or_none (Some x) = refl

-- the lines of all sessions, after one more of session s
pub lines_more : (turns : List Stand) (s i : ℕ) (stand : Stand) (line : Event) (s' i' : ℕ) → nth turns s ≡ Some stand → length stand.lines + 1 ≡ i
    → line_of (set_nth turns s (with_line stand line)) s' i' ≡ option_or (line_of turns s' i') (cond ((s' == s) && (i' == i)) (Some line) None)
lines_more turns s i stand line s' i' at next =
    elim (eqb_tells s' s) [
      | inl same ↦
          let here : nth turns s' ≡ Some stand = ap (nth turns) same.1 ∙ at in
          let there : nth (set_nth turns s (with_line stand line)) s' ≡ Some (with_line stand line) = ap (nth (set_nth turns s (with_line stand line))) same.1 ∙ nth-set_same turns s stand (with_line stand line) at in
          ap (λ o. line_in o i') there ∙ nth-push stand.lines line i i' next ∙ ap (λ o. option_or (line_in o i') (cond (i' == i) (Some line) None)) (sym here)
          ∙ ap (λ b. option_or (line_of turns s' i') (cond (b && (i' == i)) (Some line) None)) (sym same.0)
      | inr other ↦
          ap (λ o. line_in o i') (nth-set_other turns s s' (with_line stand line) other.1) ∙ or_none (line_of turns s' i')
          ∙ ap (λ b. option_or (line_of turns s' i') (cond (b && (i' == i)) (Some line) None)) (sym other.0)
    ]

-- a look leaves the lines
pub lines_stay : (turns : List Stand) (s : ℕ) (stand : Stand) (look : Option ℕ) (s' i' : ℕ) → nth turns s ≡ Some stand
    → line_of (set_nth turns s (record stand { look = look })) s' i' ≡ option_or (line_of turns s' i') None
lines_stay turns s stand look s' i' at =
    elim (eqb_tells s' s) [
      | inl same ↦
          let here : nth turns s' ≡ Some stand = ap (nth turns) same.1 ∙ at in
          let there : nth (set_nth turns s (record stand { look = look })) s' ≡ Some (record stand { look = look }) = ap (nth (set_nth turns s (record stand { look = look }))) same.1 ∙ nth-set_same turns s stand (record stand { look = look }) at in
          ap (λ o. line_in o i') there ∙ ap (λ o. line_in o i') (sym here) ∙ or_none (line_of turns s' i')
      | inr other ↦ ap (λ o. line_in o i') (nth-set_other turns s s' (record stand { look = look }) other.1) ∙ or_none (line_of turns s' i')
    ]

-- the stand behind a turn
pub record StandOf (o : Option Stand) (turn : model.Turn) : Type 0 where
  pub stand : Stand
  pub at : o ≡ Some stand
  pub turn_is : turn_of stand ≡ turn

stand_in : (o : Option Stand) (turn : model.Turn) → option_map turn_of o ≡ Some turn → StandOf o turn
stand_in None turn e = cc
stand_in (Some stand) turn e = record { stand = stand; at = refl; turn_is = some_turn _ _ e }
  where
    some_turn : (x y : model.Turn) → Some x ≡ Some y → x ≡ y
    some_turn x y e = cc

pub stand_of : (turns : List Stand) (s : ℕ) (turn : model.Turn) → nth (map turn_of turns) s ≡ Some turn → StandOf (nth turns s) turn
stand_of turns s turn e = stand_in (nth turns s) turn (sym (nth-map turn_of turns s) ∙ e)

abbrev turn_at : ℕ → model.Turn
turn_at n = record { next = n; look = None }

-- the turn after a command is answered
pub turn_more : (stand : Stand) (line : Event) (i : ℕ) (look : Option ℕ) → turn_of stand ≡ record { next = i; look = look } → turn_of (with_line stand line) ≡ record { next = i + 1; look = None }
turn_more stand line i look e =
    let next : length stand.lines + 1 ≡ i = ap (λ (t : model.Turn). t.next) e in
    let more : length (stand.lines ++ line ∷ []) + 1 ≡ i + 1 = omega (arith, length-append stand.lines (line ∷ []), next) in
    let same : turn_of (with_line stand line) ≡ record { next = length (stand.lines ++ line ∷ []) + 1; look = None } = refl in
    same ∙ ap turn_at more
