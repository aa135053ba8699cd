-- Reading a text in a key, a run without zero bytes at a time.
use Rattle.std.proofs.Common.{◌≡◌, ℕ, zero, suc, ◌+◌, ◌-◌, ◌<◌, ◌≤◌, Bool, true, false, cond, ◌==◌, List, [], ◌∷◌, ◌++◌, length, take, drop, get_or, Some, None, refl, sym, ap, ◌∙◌, arith, append_assoc, length-drop}
use Rattle.std.proofs.lemmas.List.{append-nil, drop-drop}
use Rattle.std.proofs.lemmas.Bool.{eqb-true}
use Rattle.memchr.specs.Find.{IsFirstByte, is_byte}
use Rattle.kt_base.specs.Keys.{unescaped, after_text}
use Rattle.kt_scan.specs.Parts.{text_and_rest}

abbrev pub Read : Type 0
Read = List ℕ × List ℕ

-- a text that goes on with these bytes in front
abbrev pub prepend : List ℕ → Read → Read
prepend xs p = (xs ++ p.0, p.1)

prepend-prepend : (xs ys : List ℕ) (p : Read) → prepend xs (prepend ys p) ≡ prepend (xs ++ ys) p
prepend-prepend xs ys p = ap (λ zs. (zs, p.1)) (sym (append_assoc xs ys p.0))

not_true : (b : Bool) → ¬ (b ≡ true) → b ≡ false
not_true true h = absurd (h refl)
not_true false h = refl

-- a byte that is not zero, with another behind it
plain_byte : (b c : ℕ) (bytes : List ℕ) → (b == 0) ≡ false → text_and_rest (b ∷ c ∷ bytes) ≡ prepend (b ∷ []) (text_and_rest (c ∷ bytes))
plain_byte b c bytes plain =
    ap (λ is. (cond is (cond (c == 0) [] (0 ∷ unescaped bytes)) (b ∷ unescaped (c ∷ bytes)), cond is (cond (c == 0) bytes (after_text bytes)) (after_text (c ∷ bytes)))) plain

-- where no byte is zero, all but the last are the text
no_zero : (xs : List ℕ) → ((k : ℕ) → k < length xs → (get_or xs k 0 == 0) ≡ false) → text_and_rest xs ≡ (take (length xs - 1) xs, [])
no_zero [] plain = refl
no_zero (x ∷ []) plain = refl
no_zero (x ∷ y ∷ xs) plain =
    let more : text_and_rest (y ∷ xs) ≡ (take (length (y ∷ xs) - 1) (y ∷ xs), []) = no_zero (y ∷ xs) (λ k h. plain (suc k) (omega (arith, h))) in
    let count : length (x ∷ y ∷ xs) - 1 ≡ suc (length (y ∷ xs) - 1) = omega arith in
    plain_byte x y xs (plain 0 (omega arith)) ∙ ap (prepend (x ∷ [])) more ∙ ap (λ n. (take n (x ∷ y ∷ xs), [])) (sym count)

-- the text up to a place before which no byte is zero
run_then : (xs : List ℕ) (n : ℕ) → n < length xs → ((k : ℕ) → k < n → (get_or xs k 0 == 0) ≡ false) → text_and_rest xs ≡ prepend (take n xs) (text_and_rest (drop n xs))
run_then [] n within plain = absurd (omega (arith, within))
run_then (x ∷ xs) zero within plain = refl
run_then (x ∷ []) (suc n) within plain = absurd (omega (arith, within))
run_then (x ∷ y ∷ xs) (suc n) within plain =
    plain_byte x y xs (plain 0 (omega arith)) ∙ ap (prepend (x ∷ [])) (run_then (y ∷ xs) n (omega (arith, within)) (λ k h. plain (suc k) (omega (arith, h))))

none_then : (xs : List ℕ) → IsFirstByte (is_byte 0) xs None → text_and_rest xs ≡ (take (length xs - 1) xs, [])
none_then xs nowhere = no_zero xs (λ k h. not_true _ (nowhere k (omega arith) h))

up_to_zero : (xs : List ℕ) (n : ℕ) → IsFirstByte (is_byte 0) xs (Some n) → text_and_rest xs ≡ prepend (take n xs) (text_and_rest (drop n xs))
up_to_zero xs n first = run_then xs n first.0.high (λ k h. not_true _ (first.0.before k (omega arith) h))

-- ---- a zero byte

pub mark_end : (xs : List ℕ) → 2 ≤ length xs → get_or xs 0 0 ≡ 0 → get_or xs 1 0 ≡ 0 → text_and_rest xs ≡ ([], drop 2 xs)
mark_end [] long a b = absurd (omega (arith, long))
mark_end (x ∷ []) long a b = absurd (omega (arith, long))
mark_end (x ∷ y ∷ xs) long a b = ap (λ z. text_and_rest (z ∷ y ∷ xs)) a ∙ ap (λ z. text_and_rest (0 ∷ z ∷ xs)) b

pub mark_zero : (xs : List ℕ) → 2 ≤ length xs → get_or xs 0 0 ≡ 0 → (get_or xs 1 0 ≡ 0 → ⊥) → text_and_rest xs ≡ (0 ∷ unescaped (drop 2 xs), after_text (drop 2 xs))
mark_zero [] long a b = absurd (omega (arith, long))
mark_zero (x ∷ []) long a b = absurd (omega (arith, long))
mark_zero (x ∷ y ∷ xs) long a b =
    let other : (y == 0) ≡ false = not_true _ (λ h. b (eqb-true y 0 h)) in
    ap (λ z. text_and_rest (z ∷ y ∷ xs)) a ∙ ap (λ is. (cond is [] (0 ∷ unescaped xs), cond is xs (after_text xs))) other

pub mark_short : (xs : List ℕ) → length xs < 2 → text_and_rest xs ≡ ([], [])
mark_short [] short = refl
mark_short (x ∷ []) short = refl
mark_short (x ∷ y ∷ xs) short = absurd (omega (arith, short))

-- a text that ends at the first zero byte
pub plain_end : (bytes text after behind : List ℕ) (n : ℕ) → IsFirstByte (is_byte 0) bytes (Some n) → text ≡ take n bytes → after ≡ drop n bytes → behind ≡ drop 2 after → text_and_rest after ≡ ([], drop 2 after) → text_and_rest bytes ≡ (text, behind)
plain_end bytes text after behind n first text-is after-is behind-is ends =
    up_to_zero bytes n first ∙ ap (prepend (take n bytes)) (ap text_and_rest (sym after-is) ∙ ends) ∙ ap (λ xs. (xs, drop 2 after)) (append-nil (take n bytes) ∙ sym text-is) ∙ ap (λ ys. (text, ys)) (sym behind-is)

-- ---- the loop: what is read so far, and what is left

pub record IsSplit (bytes text rest : List ℕ) : Type 0 where
  pub read : text_and_rest bytes ≡ prepend text (text_and_rest rest)
  pub left : rest ≡ drop (length bytes - length rest) bytes
  pub within : length rest ≤ length bytes

pub split_start : (bytes text : List ℕ) → text ≡ [] → IsSplit bytes text bytes
split_start bytes text none =
    let e : length bytes - length bytes ≡ 0 = omega arith in
    record { read = ap (λ xs. prepend xs (text_and_rest bytes)) (sym none); left = ap (λ k. drop k bytes) (sym e); within = omega arith }

dropped : (bytes rest : List ℕ) (n : ℕ) → rest ≡ drop (length bytes - length rest) bytes → length rest ≤ length bytes → n ≤ length rest → drop n rest ≡ drop (length bytes - (length rest - n)) bytes
dropped bytes rest n is within short =
    let e : length bytes - length rest + n ≡ length bytes - (length rest - n) = omega (arith, within, short) in
    ap (drop n) is ∙ drop-drop n (length bytes - length rest) bytes ∙ ap (λ k. drop k bytes) e

all_dropped : (bytes : List ℕ) → drop (length bytes) bytes ≡ []
all_dropped [] = refl
all_dropped (b ∷ bytes) = all_dropped bytes

module _ (bytes text rest : List ℕ) (split : IsSplit bytes text rest) where
  pub split_none : (whole : List ℕ) → IsFirstByte (is_byte 0) rest None → whole ≡ text ++ take (length rest - 1) rest → (text_and_rest bytes ≡ (whole, drop (length bytes) bytes)) × (length bytes ≤ length bytes)
  split_none whole none is =
      (split.read ∙ ap (prepend text) (none_then rest none) ∙ ap (λ xs. (xs, [])) (sym is) ∙ ap (λ ys. (whole, ys)) (sym (all_dropped bytes)), omega arith)

  module _ (after : List ℕ) (n : ℕ) (first : IsFirstByte (is_byte 0) rest (Some n)) (after-is : after ≡ drop n rest) where
    split_run : text_and_rest bytes ≡ prepend (text ++ take n rest) (text_and_rest after)
    split_run = split.read ∙ ap (prepend text) (up_to_zero rest n first) ∙ prepend-prepend text (take n rest) (text_and_rest (drop n rest)) ∙ ap (λ xs. prepend (text ++ take n rest) (text_and_rest xs)) (sym after-is)

    pub split_short : (whole : List ℕ) → whole ≡ text ++ take n rest → text_and_rest after ≡ ([], []) → (text_and_rest bytes ≡ (whole, drop (length bytes) bytes)) × (length bytes ≤ length bytes)
    split_short whole is short =
        (split_run ∙ ap (prepend (text ++ take n rest)) short ∙ ap (λ xs. (xs, [])) (append-nil (text ++ take n rest) ∙ sym is) ∙ ap (λ ys. (whole, ys)) (sym (all_dropped bytes)), omega arith)

    left_behind : 2 ≤ length after → drop 2 after ≡ drop (length bytes - (length after - 2)) bytes
    left_behind long =
        let count : length after ≡ length rest - n = ap length after-is ∙ length-drop n rest in
        let e : length bytes - (length rest - (n + 2)) ≡ length bytes - (length after - 2) = omega (arith, count, long, split.within) in
        ap (drop 2) after-is ∙ drop-drop 2 n rest ∙ dropped bytes rest (n + 2) split.left split.within (omega (arith, long, count)) ∙ ap (λ k. drop k bytes) e

    pub split_end : (whole : List ℕ) → whole ≡ text ++ take n rest → 2 ≤ length after → text_and_rest after ≡ ([], drop 2 after)
        → (text_and_rest bytes ≡ (whole, drop (length bytes - (length after - 2)) bytes)) × (length bytes - (length after - 2) ≤ length bytes)
    split_end whole is long ends =
        (split_run ∙ ap (prepend (text ++ take n rest)) ends ∙ ap (λ xs. (xs, drop 2 after)) (append-nil (text ++ take n rest) ∙ sym is) ∙ ap (λ ys. (whole, ys)) (left_behind long), omega arith)

    pub split_zero : (whole behind : List ℕ) → whole ≡ (text ++ take n rest) ++ 0 ∷ [] → behind ≡ drop 2 after → 2 ≤ length after
        → text_and_rest after ≡ (0 ∷ unescaped (drop 2 after), after_text (drop 2 after)) → IsSplit bytes whole behind
    split_zero whole behind whole-is behind-is long goes =
        let left : length behind ≡ length after - 2 = ap length behind-is ∙ length-drop 2 after in
        let count : length after ≡ length rest - n = ap length after-is ∙ length-drop n rest in
        record {
          read = split_run ∙ ap (prepend (text ++ take n rest)) goes ∙ prepend-prepend (text ++ take n rest) (0 ∷ []) (text_and_rest (drop 2 after)) ∙ ap (λ xs. prepend xs (text_and_rest (drop 2 after))) (sym whole-is)
              ∙ ap (λ ys. prepend whole (text_and_rest ys)) (sym behind-is);
          left = behind-is ∙ left_behind long ∙ ap (λ k. drop (length bytes - k) bytes) (sym left);
          within = omega (arith, left, count, split.within);
        }
