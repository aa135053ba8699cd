-- The flying write of a session, among all that fly.
use Rattle.std.proofs.Common.{◌≡◌, ◌≢◌, ◌≤◌, ℕ, zero, suc, List, [], ◌∷◌, ◌++◌, Some, None, true, false, cond, refl, sym, ap, ◌∙◌, subst, map, eq-eqb}
use Rattle.std.specs.Prelude.{◌==◌, ◌||◌, not, drop, slice_get, slice_set}
use Rattle.std.specs.List.{filter, list_any, All, AllByRecursion}
use Rattle.std.proofs.lemmas.Bool.{eqb-true}
use Rattle.std.proofs.lemmas.List.Elements.{filter-append, recursion_from_All}
use Rattle.kt_history.specs.Machine.{nth, set_nth}
use Rattle.kt_histlaws.specs.Pending.{Aloft}
use Rattle.kt_histlaws.specs.Core.{flown_by}
use Rattle.kt_histlaws.specs.Events.{advance, IsNextOp, IsOver}
use Rattle.kt_histlaws.specs.Histories.{on_nth}
use Rattle.kt_histlaws.specs.Parts.{IsOfAnother}
use Rattle.kt_history.specs.declared.operation.RowOp.{RowOp}
use Rattle.kt_tablet.specs.Visits.{flight_of}
use Rattle.kt_tablet.specs.Views.{place_at}
use Rattle.kt_engine.specs.Logged.{IsPlaced}

-- where none is found, none flies
pub none_flies : (s : ℕ) (aloft : List Aloft) → filter (λ w. w.s == s) aloft ≡ [] → list_any (λ w. w.s == s) (map flown_by aloft) ≡ false
none_flies s [] h = refl
none_flies s (w ∷ aloft) h =
    elim (w.s == s) as (λ b. cond b (w ∷ filter (λ v. v.s == s) aloft) (filter (λ v. v.s == s) aloft) ≡ [] → (b || list_any (λ v. v.s == s) (map flown_by aloft)) ≡ false) [
      | true ↦ λ e. absurd (cc)
      | false ↦ λ e. none_flies s aloft e
    ] h

first_in : {A : Type 0} (x y : A) (xs ys : List A) → x ∷ xs ≡ y ∷ ys → Some x ≡ Some y
first_in x y xs ys e = cc

-- the one that is found
pub found_flight : (s : ℕ) (aloft : List Aloft) (w : Aloft) (rest : List Aloft) → filter (λ v. v.s == s) aloft ≡ w ∷ rest → flight_of s aloft ≡ Some w
found_flight s [] w rest h = absurd (cc)
found_flight s (v ∷ aloft) w rest h =
    elim (v.s == s) as (λ b. cond b (v ∷ filter (λ x. x.s == s) aloft) (filter (λ x. x.s == s) aloft) ≡ w ∷ rest → cond b (Some v) (flight_of s aloft) ≡ Some w) [
      | true ↦ λ e. first_in v w (filter (λ x. x.s == s) aloft) rest e
      | false ↦ λ e. found_flight s aloft w rest e
    ] h

-- one more of the session, where it had none
pub one_more : (s : ℕ) (aloft : List Aloft) (w : Aloft) → w.s ≡ s → filter (λ v. v.s == s) aloft ≡ [] → filter (λ v. v.s == s) (aloft ++ w ∷ []) ≡ w ∷ []
one_more s aloft w is none =
    filter-append (λ v. v.s == s) aloft (w ∷ [])
    ∙ ap (λ l. l ++ filter (λ v. v.s == s) (w ∷ [])) none
    ∙ ap (λ b. cond b (w ∷ []) []) (eq-eqb w.s s is)

get_set : {A : Type 0} (xs : List A) (k : ℕ) (x y : A) → slice_get xs k ≡ Some y → slice_get (slice_set xs k x) k ≡ Some x
get_set [] k x y h = cc
get_set (z ∷ xs) zero x y h = refl
get_set (z ∷ xs) (suc k) x y h = get_set xs k x y h

-- what stands where something stood
pub nth_set_nth : {A : Type 0} (xs : List A) (s : ℕ) (x y : A) → nth xs s ≡ Some y → nth (set_nth xs s x) s ≡ Some x
nth_set_nth xs zero x y h = cc
nth_set_nth xs (suc k) x y h = get_set xs k x y h

-- a flying write has its place
pub place_there : (s : ℕ) (places : List (ℕ × ℕ)) (aloft : List Aloft) (w : Aloft) (rest : List Aloft) → map (λ p. p.0) places ≡ map (λ v. v.s) aloft → filter (λ v. v.s == s) aloft ≡ w ∷ rest → (place : ℕ) × (place_at s places ≡ Some place)
place_there s places [] w rest e h = absurd (cc)
place_there s [] (v ∷ aloft) w rest e h = absurd (cc)
place_there s (p ∷ places) (v ∷ aloft) w rest e h =
    let one : p.0 ≡ v.s = cc in
    let others : map (λ p. p.0) places ≡ map (λ v. v.s) aloft = cc in
    elim (p.0 == s) as (λ b. p.0 == s ≡ b → (place : ℕ) × (cond b (Some p.1) (place_at s places) ≡ Some place)) [
      | true ↦ λ is. (p.1, refl)
      | false ↦ λ is. place_there s places aloft w rest others (subst (λ b. cond b (v ∷ filter (λ x. x.s == s) aloft) (filter (λ x. x.s == s) aloft) ≡ w ∷ rest) (ap (λ k. k == s) (sym one) ∙ is) h)
    ] refl

-- what is true of each write that flies is true of the session's
own_of : (P : Aloft → Type 0) (s : ℕ) (aloft : List Aloft) (w : Aloft) (rest : List Aloft) → AllByRecursion P aloft → filter (λ v. v.s == s) aloft ≡ w ∷ rest → P w × (w.s ≡ s)
own_of P s [] w rest all h = absurd (cc)
own_of P s (v ∷ aloft) w rest all h =
    elim (v.s == s) as (λ b. v.s == s ≡ b → cond b (v ∷ filter (λ x. x.s == s) aloft) (filter (λ x. x.s == s) aloft) ≡ w ∷ rest → P w × (w.s ≡ s)) [
      | true ↦ λ is e. let same : v ≡ w = cc in (subst P same all.0, ap (λ (x : Aloft). x.s) (sym same) ∙ eqb-true v.s s is)
      | false ↦ λ is e. own_of P s aloft w rest all.1 e
    ] refl h

-- its REPLICATE is placed among the records that there are
pub placed_within : (many s place : ℕ) (places : List (ℕ × ℕ)) (aloft : List Aloft) (w : Aloft) (rest : List Aloft) → All (IsPlaced many places) aloft → filter (λ v. v.s == s) aloft ≡ w ∷ rest → place_at s places ≡ Some place → place ≤ many
placed_within many s place places aloft w rest all h at =
    let own = own_of (IsPlaced many places) s aloft w rest (recursion_from_All (IsPlaced many places) aloft all) h in
    let both : Some own.0.place ≡ Some place = sym own.0.at ∙ ap (λ k. place_at k places) own.1 ∙ at in
    let same : own.0.place ≡ place = cc in
    subst (λ k. k ≤ many) same own.0.among

head_advanced : List Aloft → List Aloft
head_advanced [] = []
head_advanced (w ∷ l) = advance w ∷ l

-- the write that takes its next row is of the session
is_own : (s : ℕ) (v : Aloft) → ((k : ℕ) → k ≢ s → v.s ≢ k) → v.s == s ≡ false → ⊥
is_own s v own other = own v.s (λ e. let yes : v.s == s ≡ true = eq-eqb v.s s e in let both : true ≡ false = sym yes ∙ other in cc) refl

-- so the session has one that flies
own_there : (s j ts : ℕ) (op : RowOp) (aloft : List Aloft) → ((k : ℕ) → k ≢ s → IsOfAnother j aloft k) → IsNextOp j aloft ts op → filter (λ v. v.s == s) aloft ≡ [] → ⊥
own_there s j ts op [] own next h = absurd next
own_there s zero ts op (v ∷ aloft) own next h =
    elim (v.s == s) as (λ b. v.s == s ≡ b → cond b (v ∷ filter (λ x. x.s == s) aloft) (filter (λ x. x.s == s) aloft) ≡ [] → ⊥) [
      | true ↦ λ is e. cc
      | false ↦ λ is e. is_own s v own is
    ] refl h
own_there s (suc j) ts op (v ∷ aloft) own next h =
    elim (v.s == s) as (λ b. cond b (v ∷ filter (λ x. x.s == s) aloft) (filter (λ x. x.s == s) aloft) ≡ [] → ⊥) [
      | true ↦ λ e. cc
      | false ↦ λ e. own_there s j ts op aloft own next e
    ] h

tails : {A : Type 0} (x y : A) (xs ys : List A) → x ∷ xs ≡ y ∷ ys → xs ≡ ys
tails x y xs ys e = cc

-- after the next row of the session's write
pub advanced : (s j ts : ℕ) (op : RowOp) (aloft : List Aloft) (w : Aloft) → ((k : ℕ) → k ≢ s → IsOfAnother j aloft k) → IsNextOp j aloft ts op → filter (λ v. v.s == s) aloft ≡ w ∷ [] → filter (λ v. v.s == s) (on_nth j advance aloft) ≡ advance w ∷ []
unfolding head_advanced
advanced s j ts op [] w own next h = absurd next
advanced s zero ts op (v ∷ aloft) w own next h =
    elim (v.s == s) as (λ b. v.s == s ≡ b → cond b (v ∷ filter (λ x. x.s == s) aloft) (filter (λ x. x.s == s) aloft) ≡ w ∷ [] → cond b (advance v ∷ filter (λ x. x.s == s) aloft) (filter (λ x. x.s == s) aloft) ≡ advance w ∷ []) [
      | true ↦ λ is e. ap head_advanced e
      | false ↦ λ is e. absurd (is_own s v own is)
    ] refl h
advanced s (suc j) ts op (v ∷ aloft) w own next h =
    elim (v.s == s) as (λ b. cond b (v ∷ filter (λ x. x.s == s) aloft) (filter (λ x. x.s == s) aloft) ≡ w ∷ [] → cond b (v ∷ filter (λ x. x.s == s) (on_nth j advance aloft)) (filter (λ x. x.s == s) (on_nth j advance aloft)) ≡ advance w ∷ []) [
      | true ↦ λ e. absurd (own_there s j ts op aloft own next (tails v w (filter (λ x. x.s == s) aloft) [] e))
      | false ↦ λ e. advanced s j ts op aloft w own next e
    ] h

-- after its end none of the session flies
pub none_left : (s : ℕ) (aloft : List Aloft) → filter (λ v. v.s == s) (filter (λ v. not (v.s == s)) aloft) ≡ []
none_left s [] = refl
none_left s (v ∷ aloft) =
    elim (v.s == s) as (λ b. v.s == s ≡ b → filter (λ x. x.s == s) (cond (not b) (v ∷ filter (λ x. not (x.s == s)) aloft) (filter (λ x. not (x.s == s)) aloft)) ≡ []) [
      | true ↦ λ is. none_left s aloft
      | false ↦ λ is. ap (λ b. cond b (v ∷ filter (λ x. x.s == s) (filter (λ x. not (x.s == s)) aloft)) (filter (λ x. x.s == s) (filter (λ x. not (x.s == s)) aloft))) is ∙ none_left s aloft
    ] refl

none_over : (s : ℕ) (aloft : List Aloft) → filter (λ v. v.s == s) aloft ≡ [] → IsOver s aloft
none_over s [] h = tt
none_over s (v ∷ aloft) h =
    elim (v.s == s) as (λ b. cond b (v ∷ filter (λ x. x.s == s) aloft) (filter (λ x. x.s == s) aloft) ≡ [] → (b ≡ true → drop v.applied v.ops ≡ []) × IsOver s aloft) [
      | true ↦ λ e. absurd (cc)
      | false ↦ λ e. (λ t. absurd (cc), none_over s aloft e)
    ] h

-- all rows of the one that is found are applied
pub is_over : (s : ℕ) (aloft : List Aloft) (w : Aloft) → filter (λ v. v.s == s) aloft ≡ w ∷ [] → drop w.applied w.ops ≡ [] → IsOver s aloft
is_over s [] w h over = tt
is_over s (v ∷ aloft) w h over =
    elim (v.s == s) as (λ b. cond b (v ∷ filter (λ x. x.s == s) aloft) (filter (λ x. x.s == s) aloft) ≡ w ∷ [] → (b ≡ true → drop v.applied v.ops ≡ []) × IsOver s aloft) [
      | true ↦ λ e. (λ _. let same : v ≡ w = cc in subst (λ x. drop x.applied x.ops ≡ []) (sym same) over, none_over s aloft (tails v w (filter (λ x. x.s == s) aloft) [] e))
      | false ↦ λ e. (λ t. absurd (cc), is_over s aloft w e over)
    ] h

pub nth_set : {A : Type 0} (xs : List A) (s : ℕ) (x : A) → nth xs s ≢ None → nth (set_nth xs s x) s ≡ Some x
nth_set xs s x some =
    elim (nth xs s) as (λ o. nth xs s ≡ o → nth (set_nth xs s x) s ≡ Some x) [
      | None ↦ λ e. absurd (some e)
      | Some y ↦ λ e. nth_set_nth xs s x y e
    ] refl
