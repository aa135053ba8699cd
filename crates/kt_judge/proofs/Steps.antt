-- What the tests of a machine say of its state.
use Rattle.std.proofs.Common.{◌≡◌, ℕ, ◌<◌, ◌≤◌, List, [], ◌∷◌, Some, None, Option, refl, true, false, Bool, ◌&&◌, ◌||◌, sym, ap, ◌∙◌, arith, min, map}
use Rattle.std.specs.Prelude.{not, nat_le, nat_lt, ◌==◌, zero, suc}
use Rattle.std.specs.List.{list_any}
use Rattle.std.specs.Option.{option_map, option_map_or}
use Rattle.std.proofs.lemmas.Option.{slice_get-map}
use Rattle.std.proofs.lemmas.Bool.Decides.{nat_tests}
use Rattle.kt_history.specs.Machine.{Flying, Workload, IsNext, nth, least}
use Rattle.kt_history.specs.History.{Past}
use Rattle.kt_judge.specs.Decided.{Decided}
use Rattle.kt_judge.specs.Turns.{Stand, turn_of}
use Rattle.kt_judge.specs.declared.machine.Machine.{Machine}
use Rattle.kt_judge.specs.Machine.{flown, state_of}

pub decided_true : (P : Type 0) (b : Bool) → b ≡ true → Decided b P → P
decided_true P true e d = d
decided_true P false e d = cc

pub decided_false : (P : Type 0) (b : Bool) → b ≡ false → Decided b P → P → ⊥
decided_false P true e d = cc
decided_false P false e d = d

pub decided_map : (P Q : Type 0) (b : Bool) → (P → Q) → (Q → P) → Decided b P → Decided b Q
decided_map P Q true f g d = f d
decided_map P Q false f g d = λ q. d (g q)

-- tests of the parts of a fact
pub decided_2 : (P Q X : Type 0) (a b : Bool) → (P → Q → X) → (X → P × Q) → Decided a P → Decided b Q → Decided (a && b) X
decided_2 P Q X true true f g p q = f p q
decided_2 P Q X true false f g p q = λ x. q (g x).1
decided_2 P Q X false b f g p q = λ x. p (g x).0

pub decided_3 : (P Q R X : Type 0) (a b c : Bool) → (P → Q → R → X) → (X → P × Q × R) → Decided a P → Decided b Q → Decided c R → Decided ((a && b) && c) X
decided_3 P Q R X a b c f g p q r = decided_2 (P × Q) R X (a && b) c (λ h. f h.0 h.1) (λ x. (((g x).0, (g x).1), (g x).2)) (decided_2 P Q (P × Q) a b (λ p q. (p, q)) (λ h. h) p q) r

pub decided_4 : (P Q R S X : Type 0) (a b c d : Bool) → (P → Q → R → S → X) → (X → P × Q × R × S) → Decided a P → Decided b Q → Decided c R → Decided d S → Decided (((a && b) && c) && d) X
decided_4 P Q R S X a b c d f g p q r s = decided_2 (P × Q × R) S X ((a && b) && c) d (λ h. f h.0 h.1 h.2) (λ x. (((g x).0, (g x).1, (g x).2), (g x).3)) (decided_3 P Q R (P × Q × R) a b c (λ p q r. (p, q, r)) (λ h. h) p q r) s

pub decided_5 : (P Q R S U X : Type 0) (a b c d e : Bool) → (P → Q → R → S → U → X) → (X → P × Q × R × S × U) → Decided a P → Decided b Q → Decided c R → Decided d S → Decided e U → Decided ((((a && b) && c) && d) && e) X
decided_5 P Q R S U X a b c d e f g p q r s u = decided_2 (P × Q × R × S) U X (((a && b) && c) && d) e (λ h. f h.0 h.1 h.2 h.3) (λ x. (((g x).0, (g x).1, (g x).2, (g x).3), (g x).4)) (decided_4 P Q R S (P × Q × R × S) a b c d (λ p q r s. (p, q, r, s)) (λ h. h) p q r s) u

pub decided_le : (a b : ℕ) → Decided (nat_le a b) (a ≤ b)
decided_le a b = elim (nat_le a b) as (λ v. nat_le a b ≡ v → Decided v (a ≤ b)) [ true ↦ λ e. le_from a b e | false ↦ λ e. not_le_from a b e ] refl
  where
    le_from : (a b : ℕ) → nat_le a b ≡ true → a ≤ b
    le_from a b e = grind (arith, nat_tests)

    not_le_from : (a b : ℕ) → nat_le a b ≡ false → a ≤ b → ⊥
    not_le_from a b e h = grind (arith, nat_tests)

pub decided_lt : (a b : ℕ) → Decided (nat_lt a b) (a < b)
decided_lt a b = elim (nat_lt a b) as (λ v. nat_lt a b ≡ v → Decided v (a < b)) [ true ↦ λ e. lt_from a b e | false ↦ λ e. not_lt_from a b e ] refl
  where
    lt_from : (a b : ℕ) → nat_lt a b ≡ true → a < b
    lt_from a b e = grind (arith, nat_tests)

    not_lt_from : (a b : ℕ) → nat_lt a b ≡ false → a < b → ⊥
    not_lt_from a b e h = grind (arith, nat_tests)

pub decided_eq : (a b : ℕ) → Decided (a == b) (a ≡ b)
decided_eq a b = elim (a == b) as (λ v. (a == b) ≡ v → Decided v (a ≡ b)) [ true ↦ λ e. eq_from a b e | false ↦ λ e. not_eq_from a b e ] refl
  where
    eq_from : (a b : ℕ) → (a == b) ≡ true → a ≡ b
    eq_from a b e = grind (arith, nat_tests)

    not_eq_from : (a b : ℕ) → (a == b) ≡ false → a ≡ b → ⊥
    not_eq_from a b e h = grind (arith, nat_tests)

-- a test decides what it is
pub decided_is : (b x : Bool) → b ≡ x → Decided b (x ≡ true)
decided_is true x e = sym e
decided_is false x e = λ h. cc

pub decided_not : (b x : Bool) → b ≡ x → Decided (not b) (x ≡ false)
decided_not true x e = λ h. cc
decided_not false x e = sym e

pub nth-map : {A B : Type 0} (f : A → B) (xs : List A) (n : ℕ) → nth (map f xs) n ≡ option_map f (nth xs n)
nth-map f xs zero = refl
nth-map f xs (suc k) = slice_get-map f xs k

pub list_any-map : {A B : Type 0} (p : B → Bool) (f : A → B) (xs : List A) → list_any p (map f xs) ≡ list_any (λ x. p (f x)) xs
list_any-map p f [] = refl
list_any-map p f (x ∷ xs) = ap (λ b. p (f x) || b) (list_any-map p f xs)

pub some_same : {A : Type 0} (x y : A) → Some x ≡ Some y → x ≡ y
some_same x y e = cc

-- a turn that is there, and no write of the session
pub next_tells : (work : Workload) (past : Past) (m : Machine) (s i : ℕ) (look : Option ℕ) (stand : Stand) (is flies : Bool)
    → nth m.turns.items s ≡ Some stand → Decided is (turn_of stand ≡ record { next = i; look = look }) → flies ≡ list_any (λ f. f.s == s) m.flying.items
    → Decided (is && not flies) (IsNext (state_of work past m) s i look)
next_tells work past m s i look stand true false at d fl = record {
  next = nth-map turn_of m.turns.items s ∙ ap (option_map turn_of) at ∙ ap Some d;
  rests = list_any-map (λ w. w.s == s) (flown work) m.flying.items ∙ sym fl;
}
next_tells work past m s i look stand true true at d fl = λ n.
    let e : list_any (λ f. f.s == s) m.flying.items ≡ false = sym (list_any-map (λ w. w.s == s) (flown work) m.flying.items) ∙ n.rests in
    cc
next_tells work past m s i look stand false flies at d fl = λ n.
    d (some_same _ _ (sym (ap (option_map turn_of) at) ∙ sym (nth-map turn_of m.turns.items s) ∙ n.next))

pub no_turn : (work : Workload) (past : Past) (m : Machine) (s i : ℕ) (look : Option ℕ) → nth m.turns.items s ≡ None → IsNext (state_of work past m) s i look → ⊥
no_turn work past m s i look at n =
    let e : option_map turn_of (nth m.turns.items s) ≡ Some (record { next = i; look = look }) = sym (nth-map turn_of m.turns.items s) ∙ n.next in
    let f : option_map turn_of (nth m.turns.items s) ≡ None = ap (option_map turn_of) at in
    cc

-- the least of one more
pub least_more : (w : Flying) (ws : List Flying) (o : Option ℕ) → least ws ≡ o → least (w ∷ ws) ≡ Some (option_map_or (λ m. min m w.ts) o w.ts)
least_more w ws None e = rw e refl
least_more w ws (Some m) e = rw e refl
