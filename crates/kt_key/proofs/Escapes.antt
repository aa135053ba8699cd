-- An escaped text, one run up to a zero byte after another.
use Rattle.std.proofs.Common.{◌≡◌, ℕ, ◌<◌, Bool, true, false, cond, List, [], ◌∷◌, ◌++◌, length, take, drop, zero, suc, ◌==◌, get_or, Some, None, Result, Ok, Err, OnOk, refl, sym, ap, subst, ◌∙◌, arith, append_assoc, length-take}
use Rattle.std.proofs.lemmas.List.{take-append-le}
use Rattle.std.proofs.lemmas.Bool.{eqb-true}
use Rattle.memchr.specs.Find.{IsFirstByte, is_byte}
use Rattle.kt_base.specs.Keys.{escaped}

-- a text without a zero byte
pub escaped-plain : (xs : List ℕ) → ((k : ℕ) → k < length xs → (get_or xs k 0 == 0) ≡ false) → escaped xs ≡ xs ++ 0 ∷ 0 ∷ []
escaped-plain [] plain = refl
escaped-plain (x ∷ xs) plain =
    let here : (x == 0) ≡ false = plain 0 (omega arith) in
    ap (λ b. x ∷ cond b (1 ∷ escaped xs) (escaped xs)) here ∙ ap (λ ys. x ∷ ys) (escaped-plain xs (λ k h. plain (suc k) (omega (arith, h))))

-- a text whose first zero byte stands at n
pub escaped-run : (xs : List ℕ) (n : ℕ) → n < length xs → (get_or xs n 0 == 0) ≡ true → ((k : ℕ) → k < n → (get_or xs k 0 == 0) ≡ false)
    → escaped xs ≡ take n xs ++ 0 ∷ 1 ∷ escaped (drop 1 (drop n xs))
escaped-run [] n within here plain = absurd (omega (arith, within))
escaped-run (x ∷ xs) zero within here plain = subst (λ z. escaped (z ∷ xs) ≡ 0 ∷ 1 ∷ escaped xs) (sym (eqb-true x 0 here)) refl
escaped-run (x ∷ xs) (suc n) within here plain =
    ap (λ b. x ∷ cond b (1 ∷ escaped xs) (escaped xs)) (plain 0 (omega arith)) ∙ ap (λ ys. x ∷ ys) (escaped-run xs n (omega (arith, within)) here (λ k h. plain (suc k) (omega (arith, h))))

pub not_true : (b : Bool) → ¬ (b ≡ true) → b ≡ false
not_true true h = absurd (h refl)
not_true false h = refl

-- where a search for a zero byte finds none, and where it finds the first
pub found_none : (xs : List ℕ) → IsFirstByte (is_byte 0) xs None → escaped xs ≡ xs ++ 0 ∷ 0 ∷ []
found_none xs nowhere = escaped-plain xs (λ k h. not_true _ (nowhere k (omega arith) h))

pub found_run : (xs : List ℕ) (n : ℕ) → IsFirstByte (is_byte 0) xs (Some n) → escaped xs ≡ take n xs ++ 0 ∷ 1 ∷ escaped (drop 1 (drop n xs))
found_run xs n first = escaped-run xs n first.0.high first.1 (λ k h. not_true _ (first.0.before k (omega arith) h))

-- one run is put out, and the rest is still to come
pub run_put : (out rest whole : List ℕ) (n : ℕ) → IsFirstByte (is_byte 0) rest (Some n) → out ++ escaped rest ≡ whole
    → ((out ++ take n rest) ++ 0 ∷ 1 ∷ []) ++ escaped (drop 1 (drop n rest)) ≡ whole
run_put out rest whole n first so_far =
    append_assoc (out ++ take n rest) (0 ∷ 1 ∷ []) (escaped (drop 1 (drop n rest))) ∙ append_assoc out (take n rest) (0 ∷ 1 ∷ escaped (drop 1 (drop n rest)))
    ∙ ap (λ ys. out ++ ys) (sym (found_run rest n first)) ∙ so_far

-- what stood before still stands at the front
pub still_front : (old out more : List ℕ) → take (length old) out ≡ old → take (length old) (out ++ more) ≡ old
still_front old out more front = take-append-le (length old) out more (omega (arith, ap length front, length-take (length old) out)) ∙ front

pub on_ok : {T E : Type 0} (r : Result T E) {P Q : Type 0} → OnOk r P → (P → Q) → OnOk r Q
on_ok (Ok x) p f = f p
on_ok (Err e) p f = tt
