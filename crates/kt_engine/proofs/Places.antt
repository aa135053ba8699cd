-- The places of the REPLICATEs of flying writes, and flying writes by their sessions.
use Rattle.std.proofs.Common.{◌≡◌, ℕ, suc, zero, ◌<◌, List, [], ◌∷◌, ◌++◌, length, map, Some, None, refl, sym, true, false, Bool, cond, ap, ◌∙◌, subst, arith, not, ◌||◌, drop}
use Rattle.std.specs.Prelude.{◌==◌}
use Rattle.std.specs.List.{All, find, filter, list_any}
use Rattle.std.proofs.lemmas.Bool.Decides.{nat_tests}
use Rattle.std.proofs.lemmas.List.Elements.{All-filter}
use Rattle.kt_loglaws.proofs.LogOrder.{same, differs_down}
use Rattle.kt_histlaws.specs.Pending.{Aloft}
use Rattle.kt_histlaws.specs.Histories.{on_nth}
use Rattle.kt_histlaws.specs.Core.{flown_by}
use Rattle.kt_histlaws.specs.Events.{advance, IsOver}
use Rattle.kt_tablet.specs.Views.{place_at}
use Rattle.kt_engine.specs.Logged.{AreApart}
use Rattle.kt_engine.proofs.Lists.{all_none, all_head, all_tail, all_cons, all_more, all_found}

-- a place more leaves those before it
pub place-front : (s : ℕ) (places : List (ℕ × ℕ)) (p : ℕ × ℕ) (n : ℕ) → place_at s places ≡ Some n → place_at s (places ++ p ∷ []) ≡ Some n
place-front s [] p n h = absurd (let e : None ≡ Some n = h in cc)
place-front s (q ∷ places) p n h = elim (q.0 == s) as (λ b. cond b (Some q.1) (place_at s places) ≡ Some n → cond b (Some q.1) (place_at s (places ++ p ∷ [])) ≡ Some n) [
  | true ↦ λ e. e
  | false ↦ λ e. place-front s places p n e
] h

-- the place of a session that had none
pub place-new : (s : ℕ) (places : List (ℕ × ℕ)) (n : ℕ) → list_any (λ t. t == s) (map (λ p. p.0) places) ≡ false → place_at s (places ++ (s, n) ∷ []) ≡ Some n
place-new s [] n h = ap (λ b. cond b (Some n) None) (same s)
place-new s (q ∷ places) n h = elim (q.0 == s) as (λ b. (b || list_any (λ t. t == s) (map (λ p. p.0) places)) ≡ false → cond b (Some q.1) (place_at s (places ++ (s, n) ∷ [])) ≡ Some n) [
  | true ↦ λ e. absurd (let no : true ≡ false = e in cc)
  | false ↦ λ e. place-new s places n e
] h

other : (a s t : ℕ) → (a == s) ≡ true → (t == s) ≡ false → (a == t) ≡ false
other a s t h k = grind (arith, nat_tests)

-- the places of the other sessions stay
pub place-kept : (t s : ℕ) (places : List (ℕ × ℕ)) → (t == s) ≡ false → place_at t (filter (λ p. not (p.0 == s)) places) ≡ place_at t places
place-kept t s [] h = refl
place-kept t s (p ∷ places) h = elim (p.0 == s) as (λ b. (p.0 == s) ≡ b → place_at t (cond (not b) (p ∷ filter (λ q. not (q.0 == s)) places) (filter (λ q. not (q.0 == s)) places)) ≡ cond (p.0 == t) (Some p.1) (place_at t places)) [
  | true ↦ λ e. place-kept t s places h ∙ sym (ap (λ b. cond b (Some p.1) (place_at t places)) (other p.0 s t e h))
  | false ↦ λ e. ap (λ o. cond (p.0 == t) (Some p.1) o) (place-kept t s places h)
] refl

-- the sessions of flying writes, as the machine has them
pub any_session : (s : ℕ) (aloft : List Aloft) → list_any (λ w. w.s == s) (map flown_by aloft) ≡ list_any (λ t. t == s) (map (λ w. w.s) aloft)
any_session s [] = refl
any_session s (w ∷ aloft) = ap (λ b. (w.s == s) || b) (any_session s aloft)

-- a row applied leaves the sessions
pub advanced_sessions : (j : ℕ) (aloft : List Aloft) → map (λ w. w.s) (on_nth j advance aloft) ≡ map (λ w. w.s) aloft
advanced_sessions j [] = refl
advanced_sessions zero (w ∷ aloft) = refl
advanced_sessions (suc j) (w ∷ aloft) = ap (λ r. w.s ∷ r) (advanced_sessions j aloft)

pub advanced_length : (j : ℕ) (aloft : List Aloft) → length (on_nth j advance aloft) ≡ length aloft
advanced_length j [] = refl
advanced_length zero (w ∷ aloft) = refl
advanced_length (suc j) (w ∷ aloft) = ap suc (advanced_length j aloft)

pub advanced_all : (P : Aloft → Type 0) (j : ℕ) (aloft : List Aloft) → ((w : Aloft) → P w → P (advance w)) → All P aloft → All P (on_nth j advance aloft)
advanced_all P j [] f h = all_none P
advanced_all P zero (w ∷ aloft) f h = all_cons P (advance w) aloft (f w (all_head P w aloft h)) (all_tail P w aloft h)
advanced_all P (suc j) (w ∷ aloft) f h = all_cons P w (on_nth j advance aloft) (all_head P w aloft h) (advanced_all P j aloft f (all_tail P w aloft h))

pub advanced_apart : (j : ℕ) (aloft : List Aloft) → AreApart aloft → AreApart (on_nth j advance aloft)
advanced_apart j [] h = tt
advanced_apart zero (w ∷ aloft) h = h
advanced_apart (suc j) (w ∷ aloft) h = (advanced_all (λ v. (v.ts == w.ts) ≡ false) j aloft (λ v same. same) h.0, advanced_apart j aloft h.1)

pub turned : (a b : ℕ) → (a == b) ≡ false → (b == a) ≡ false
turned a b h = grind (arith, nat_tests)

-- the flying writes of other sessions have other timestamps
pub others_apart : (s : ℕ) (aloft : List Aloft) (f : Aloft) → find (λ w. w.s == s) aloft ≡ Some f → AreApart aloft → All (λ v. (v.ts == f.ts) ≡ false) (filter (λ w. not (w.s == s)) aloft)
others_apart s [] f h a = all_none (λ v. (v.ts == f.ts) ≡ false)
others_apart s (w ∷ aloft) f h a = elim (w.s == s) as (λ b. cond b (Some w) (find (λ v. v.s == s) aloft) ≡ Some f → All (λ v. (v.ts == f.ts) ≡ false) (cond (not b) (w ∷ filter (λ v. not (v.s == s)) aloft) (filter (λ v. not (v.s == s)) aloft))) [
  | true ↦ λ e. let is : w ≡ f = cc in let P : Aloft → Type 0 = λ x. All (λ v. (v.ts == x.ts) ≡ false) (filter (λ v. not (v.s == s)) aloft) in subst P is (All-filter (λ v. not (v.s == s)) (λ v. (v.ts == w.ts) ≡ false) aloft a.0)
  | false ↦ λ e. all_cons (λ v. (v.ts == f.ts) ≡ false) w (filter (λ v. not (v.s == s)) aloft) (turned f.ts w.ts (all_found (λ v. (v.ts == w.ts) ≡ false) (λ v. v.s == s) aloft f e a.0)) (others_apart s aloft f e a.1)
] h

pub apart_fewer : (p : Aloft → Bool) (aloft : List Aloft) → AreApart aloft → AreApart (filter p aloft)
apart_fewer p [] a = tt
apart_fewer p (w ∷ aloft) a = elim (p w) as (λ b. AreApart (cond b (w ∷ filter p aloft) (filter p aloft))) [
  | true ↦ (All-filter p (λ v. (v.ts == w.ts) ≡ false) aloft a.0, apart_fewer p aloft a.1)
  | false ↦ apart_fewer p aloft a.1
]

-- a write above all that fly
pub apart_more : (aloft : List Aloft) (w : Aloft) → AreApart aloft → All (λ v. v.ts < w.ts) aloft → AreApart (aloft ++ w ∷ [])
apart_more [] w a low = (all_none (λ v. (v.ts == w.ts) ≡ false), tt)
apart_more (v ∷ aloft) w a low = (
  all_more (λ x. (x.ts == v.ts) ≡ false) aloft w a.0 (differs_down v.ts w.ts (all_head (λ x. x.ts < w.ts) v aloft low)),
  apart_more aloft w a.1 (all_tail (λ x. x.ts < w.ts) v aloft low),
)

-- all rows of the one that is found are applied
pub over_found : (s : ℕ) (aloft : List Aloft) (f : Aloft) → find (λ w. w.s == s) aloft ≡ Some f → IsOver s aloft → drop f.applied f.ops ≡ []
over_found s [] f h over = absurd (let e : None ≡ Some f = h in cc)
over_found s (w ∷ aloft) f h over = elim (w.s == s) as (λ b. (w.s == s) ≡ b → cond b (Some w) (find (λ v. v.s == s) aloft) ≡ Some f → drop f.applied f.ops ≡ []) [
  | true ↦ λ p e. let is : w ≡ f = cc in subst (λ (x : Aloft). drop x.applied x.ops ≡ []) is (over.0 p)
  | false ↦ λ p e. over_found s aloft f e over.1
] refl h

-- a session's own test
pub is_session : (a s : ℕ) → (a == s) ≡ true → a ≡ s
is_session a s h = grind (arith, nat_tests)

-- what does not pass the test of a session
pub is_other : (a s : ℕ) → not (a == s) ≡ true → (a == s) ≡ false
is_other a s h = elim (a == s) as (λ b. not b ≡ true → b ≡ false) [ true ↦ λ e. absurd (let no : false ≡ true = e in cc) | false ↦ λ e. refl ] h
