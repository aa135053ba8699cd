-- The row of a key at a time.
use Rattle.std.proofs.Common.{◌≡◌, ℕ, zero, suc, ◌+◌, ◌-◌, ◌<◌, ◌≤◌, [], ◌∷◌, ◌++◌, Some, None, Option, refl, true, false, cond, sym, ap, ◌∙◌, arith, length, take, get_or}
use Rattle.std.specs.Prelude.{nat_le, is_some}
use Rattle.std.specs.List.{AllWithin}
use Rattle.std.proofs.lemmas.Bool.Decides.{nat_tests}
use Rattle.std.proofs.lemmas.List.{take_more}
use Rattle.std.proofs.lemmas.List.Sorted.{IsNonDecreasingBy-push}
use Rattle.kt_history.specs.declared.change.Change.{Change}
use Rattle.kt_history.specs.declared.change.Change.TheVariants.{Upd}
use Rattle.kt_history.specs.Rows.{Row, apply}
use Rattle.kt_judge.specs.declared.versions.Version.{Version}
use Rattle.kt_judge.specs.declared.versions.Version.TheVariants.{Whole, Update}
use Rattle.kt_judge.specs.Tables.{Versions, stepped, row_after_all, row_from, AreOrdered, AreUpTo}

pub row_after_all-append : (row : Option Row) (vs ws : Versions) → row_after_all row (vs ++ ws) ≡ row_after_all (row_after_all row vs) ws
row_after_all-append row [] ws = refl
row_after_all-append row (v ∷ vs) ws = row_after_all-append (stepped v.1 row) vs ws

pub row_from-append : (row : Option Row) (t : ℕ) (vs ws : Versions) → row_from row t (vs ++ ws) ≡ row_from (row_from row t vs) t ws
row_from-append row t [] ws = refl
row_from-append row t (v ∷ vs) ws = row_from-append (cond (nat_le v.0 t) (stepped v.1 row) row) t vs ws

-- one version more
after_more : (vs : Versions) (k : ℕ) (d : ℕ × Version) → k < length vs → row_after_all None (take (k + 1) vs) ≡ stepped (get_or vs k d).1 (row_after_all None (take k vs))
after_more vs k d below = ap (row_after_all None) (take_more vs k d below) ∙ row_after_all-append None (take k vs) (get_or vs k d ∷ [])

pub after_next : (vs : Versions) (k : ℕ) (d : ℕ × Version) (row new : Option Row) → k < length vs → row ≡ row_after_all None (take k vs) → new ≡ stepped (get_or vs k d).1 row → new ≡ row_after_all None (take (k + 1) vs)
after_next vs k d row new below so is = is ∙ ap (stepped (get_or vs k d).1) so ∙ sym (after_more vs k d below)

pub after_whole : (vs : Versions) (k : ℕ) (d : ℕ × Version) (row : Option Row) → k < length vs → (get_or vs k d).1 ≡ Whole row → row_after_all None (take (k + 1) vs) ≡ row
after_whole vs k d row below whole = after_more vs k d below ∙ ap (λ w. stepped w (row_after_all None (take k vs))) whole

there_still : (cells : Row) (row : Option Row) → is_some (stepped (Update cells) row) ≡ is_some row
there_still cells None = refl
there_still cells (Some row) = refl

-- an update leaves a row where one was
pub after_update : (vs : Versions) (k : ℕ) (d : ℕ × Version) (cells : Row) → k < length vs → (get_or vs k d).1 ≡ Update cells → is_some (row_after_all None (take (k + 1) vs)) ≡ is_some (row_after_all None (take k vs))
after_update vs k d cells below update =
    ap is_some (after_more vs k d below ∙ ap (λ w. stepped w (row_after_all None (take k vs))) update)
    ∙ there_still cells (row_after_all None (take k vs))

-- those that are at or below t, all of which come first, tell the row at t
pub told_up_to : (row : Option Row) (t : ℕ) (vs : Versions) (n : ℕ) → n ≤ length vs → AllWithin (λ v. nat_le v.0 t ≡ true) vs 0 n → AllWithin (λ v. nat_le v.0 t ≡ false) vs n (length vs) → row_after_all row (take n vs) ≡ row_from row t vs
told_up_to row t [] zero le low high = refl
told_up_to row t [] (suc n) le low high = absurd (omega arith)
told_up_to row t (v ∷ vs) zero le low high =
    told_up_to row t vs zero (omega arith) (λ k d a b. absurd (omega arith)) (λ k d a b. high (suc k) d (omega arith) (omega arith))
    ∙ sym (ap (λ b. row_from (cond b (stepped v.1 row) row) t vs) (high zero v (omega arith) (omega arith)))
told_up_to row t (v ∷ vs) (suc n) le low high =
    told_up_to (stepped v.1 row) t vs n (omega arith) (λ k d a b. low (suc k) d (omega arith) (omega arith)) (λ k d a b. high (suc k) d (omega arith) (omega arith))
    ∙ sym (ap (λ b. row_from (cond b (stepped v.1 row) row) t vs) (low zero v (omega arith) (omega arith)))

is_le : (a b : ℕ) → a ≤ b → nat_le a b ≡ true
is_le a b h = grind (arith, nat_tests)

-- from the last version on the row stays
pub settled : (row : Option Row) (ts t : ℕ) (vs : Versions) → AreUpTo ts vs → ts ≤ t → row_from row t vs ≡ row_after_all row vs
settled row ts t [] h le = refl
settled row ts t (v ∷ vs) h le =
    ap (λ b. row_from (cond b (stepped v.1 row) row) t vs) (is_le v.0 t (omega (arith, h.0))) ∙ settled (stepped v.1 row) ts t vs h.1 le

pub later_too : (ts t : ℕ) (vs : Versions) → ts ≤ t → AreUpTo ts vs → AreUpTo t vs
later_too ts t [] le h = tt
later_too ts t (v ∷ vs) le h = (omega (arith, h.0), later_too ts t vs le h.1)

pub up_to_push : (ts : ℕ) (vs : Versions) (v : Version) → AreUpTo ts vs → AreUpTo ts (vs ++ (ts, v) ∷ [])
up_to_push ts [] v h = (omega arith, tt)
up_to_push ts (w ∷ vs) v h = (h.0, up_to_push ts vs v h.1)

up_to_at : (ts : ℕ) (vs : Versions) (k : ℕ) (d : ℕ × Version) → AreUpTo ts vs → k < length vs → (get_or vs k d).0 ≤ ts
up_to_at ts [] k d h lt = absurd (omega arith)
up_to_at ts (v ∷ vs) zero d h lt = h.0
up_to_at ts (v ∷ vs) (suc k) d h lt = up_to_at ts vs k d h.1 (omega arith)

pub ordered_push : (ts : ℕ) (vs : Versions) (v : Version) → AreOrdered vs → AreUpTo ts vs → AreOrdered (vs ++ (ts, v) ∷ [])
ordered_push ts vs v h up = IsNonDecreasingBy-push (λ (w : ℕ × Version). w.0) vs (ts, v) h (λ d some. up_to_at ts vs (length vs - 1) d up (omega arith))

-- the rows after a change, that is kept whole or as an update
abbrev pub IsChanged : ℕ → Change → Versions → Versions → Type 0
IsChanged ts change old new = (t : ℕ) → row_from None t new ≡ cond (nat_le ts t) (apply change (row_from None t old)) (row_from None t old)

le_from : (a b : ℕ) → nat_le a b ≡ true → a ≤ b
le_from a b h = grind (arith, nat_tests)

pub changed_update : (ts : ℕ) (change : Change) (cells copy : Row) (vs olds new : Versions) → change ≡ Upd cells → copy ≡ cells → olds ≡ vs → new ≡ olds ++ (ts, Update copy) ∷ [] → IsChanged ts change vs new
changed_update ts change cells copy vs olds new is same old push t =
    ap (row_from None t) (push ∙ ap (λ us. us ++ (ts, Update copy) ∷ []) old)
    ∙ row_from-append None t vs ((ts, Update copy) ∷ [])
    ∙ ap (λ w. cond (nat_le ts t) (apply w (row_from None t vs)) (row_from None t vs)) (ap Upd same ∙ sym is)

pub changed_whole : (ts : ℕ) (change : Change) (vs : Versions) (row : Option Row) → AreUpTo ts vs → row ≡ apply change (row_from None ts vs) → IsChanged ts change vs (vs ++ (ts, Whole row) ∷ [])
changed_whole ts change vs row up is t =
    row_from-append None t vs ((ts, Whole row) ∷ [])
    ∙ elim (nat_le ts t) as (λ b. nat_le ts t ≡ b → cond b row (row_from None t vs) ≡ cond b (apply change (row_from None t vs)) (row_from None t vs)) [
      | true ↦ λ e. is ∙ ap (apply change) (settled None ts ts vs up (omega arith) ∙ sym (settled None ts t vs up (le_from ts t e)))
      | false ↦ λ e. refl
    ] refl
