-- Reading an escaped text.
use Rattle.std.proofs.Common.{◌≡◌, ℕ, zero, suc, ◌+◌, ◌-◌, ◌<◌, ◌≤◌, Bool, true, false, cond, ◌==◌, List, [], ◌∷◌, ◌++◌, length, take, drop, get_or, Option, Some, None, refl, sym, ap, subst, ◌∙◌, arith, append_assoc, length-drop, lit<}
use mathlib.Core.List.{append-nil}
use Rattle.std.proofs.lemmas.List.{drop-drop}
use Rattle.std.proofs.lemmas.Bool.{eqb-true}
use Rattle.memchr.specs.Find.{IsFirstByte, is_byte}
use Rattle.kt_base.specs.Keys.{escaped}
use Rattle.kt_key.specs.Reading.{with_byte, read_text}
use Rattle.kt_key.proofs.Escapes.{not_true}

-- a text that goes on with these bytes in front
abbrev pub prepend : List ℕ → Option (List ℕ × List ℕ) → Option (List ℕ × List ℕ)
prepend xs None = None
prepend xs (Some p) = Some (xs ++ p.0, p.1)

pub prepend-none : (o : Option (List ℕ × List ℕ)) → prepend [] o ≡ o
prepend-none None = refl
prepend-none (Some p) = refl

pub prepend-prepend : (xs ys : List ℕ) (o : Option (List ℕ × List ℕ)) → prepend xs (prepend ys o) ≡ prepend (xs ++ ys) o
prepend-prepend xs ys None = refl
prepend-prepend xs ys (Some p) = ap (λ zs. Some (zs, p.1)) (sym (append_assoc xs ys p.0))

pub prepend-byte : (xs : List ℕ) (b : ℕ) (o : Option (List ℕ × List ℕ)) → prepend xs (with_byte b o) ≡ prepend (xs ++ b ∷ []) o
prepend-byte xs b None = refl
prepend-byte xs b (Some p) = ap (λ zs. Some (zs, p.1)) (sym (append_assoc xs (b ∷ []) p.0))

byte-prepend : (b : ℕ) (xs : List ℕ) (o : Option (List ℕ × List ℕ)) → with_byte b (prepend xs o) ≡ prepend (b ∷ xs) o
byte-prepend b xs None = refl
byte-prepend b xs (Some p) = refl

-- a byte that is not zero
read_text-byte : (b : ℕ) (bytes : List ℕ) → (b == 0) ≡ false → read_text (b ∷ bytes) ≡ with_byte b (read_text bytes)
read_text-byte b [] plain = refl
read_text-byte b (c ∷ bytes) plain = ap (λ is. cond is (cond (c == 0) (Some ([], bytes)) (cond (c == 1) (with_byte 0 (read_text bytes)) None)) (with_byte b (read_text (c ∷ bytes)))) plain

-- where a text is read that was escaped, it is that text
pub read_text-escaped : (text more : List ℕ) → read_text (escaped text ++ more) ≡ Some (text, more)
read_text-escaped [] more = refl
read_text-escaped (b ∷ text) more = by (b == 0) refl (read_text-escaped text more)
  where
    by : (is : Bool) → (b == 0) ≡ is → read_text (escaped text ++ more) ≡ Some (text, more) → read_text (b ∷ cond is (1 ∷ escaped text) (escaped text) ++ more) ≡ Some (b ∷ text, more)
    by true is rest = subst (λ z. read_text (z ∷ 1 ∷ escaped text ++ more) ≡ Some (z ∷ text, more)) (sym (eqb-true b 0 is)) (ap (with_byte 0) rest)
    by false is rest = read_text-byte b (escaped text ++ more) is ∙ ap (with_byte b) rest

with_byte_some : (b : ℕ) (o : Option (List ℕ × List ℕ)) (p : List ℕ × List ℕ) → with_byte b o ≡ Some p → (q : List ℕ × List ℕ) × (o ≡ Some q) × (b ∷ q.0 ≡ p.0) × (q.1 ≡ p.1)
with_byte_some b None p h = absurd cc
with_byte_some b (Some q) p h = let e : (b ∷ q.0, q.1) ≡ p = cc in (q, refl, ap (λ r. r.0) e, ap (λ r. r.1) e)

-- what is read is what was escaped
pub escaped-read_text : (bytes : List ℕ) (p : List ℕ × List ℕ) → read_text bytes ≡ Some p → escaped p.0 ++ p.1 ≡ bytes
escaped-read_text [] p h = absurd cc
escaped-read_text (b ∷ []) p h = absurd cc
escaped-read_text (b ∷ c ∷ bytes) p h = by (b == 0) (c == 0) (c == 1) refl refl refl h (escaped-read_text bytes) (escaped-read_text (c ∷ bytes))
  where
    by : (is ends one : Bool) → (b == 0) ≡ is → (c == 0) ≡ ends → (c == 1) ≡ one
        → cond is (cond ends (Some ([], bytes)) (cond one (with_byte 0 (read_text bytes)) None)) (with_byte b (read_text (c ∷ bytes))) ≡ Some p
        → ((q : List ℕ × List ℕ) → read_text bytes ≡ Some q → escaped q.0 ++ q.1 ≡ bytes) → ((q : List ℕ × List ℕ) → read_text (c ∷ bytes) ≡ Some q → escaped q.0 ++ q.1 ≡ c ∷ bytes)
        → escaped p.0 ++ p.1 ≡ b ∷ c ∷ bytes
    by true true one b-is c-is c-one h behind more =
        let e : ([], bytes) ≡ p = cc in
        ap (λ (q : List ℕ × List ℕ). escaped q.0 ++ q.1) (sym e) ∙ ap (λ z. z ∷ 0 ∷ bytes) (sym (eqb-true b 0 b-is)) ∙ ap (λ z. b ∷ z ∷ bytes) (sym (eqb-true c 0 c-is))
    by true false true b-is c-is c-one h behind more =
        let q = with_byte_some 0 (read_text bytes) p h in
        ap (λ xs. escaped xs ++ p.1) (sym q.2) ∙ ap (λ ys. 0 ∷ 1 ∷ escaped q.0.0 ++ ys) (sym q.3) ∙ ap (λ ys. 0 ∷ 1 ∷ ys) (behind q.0 q.1)
        ∙ ap (λ z. z ∷ 1 ∷ bytes) (sym (eqb-true b 0 b-is)) ∙ ap (λ z. b ∷ z ∷ bytes) (sym (eqb-true c 1 c-one))
    by true false false b-is c-is c-one h behind more = absurd cc
    by false ends one b-is c-is c-one h behind more =
        let q = with_byte_some b (read_text (c ∷ bytes)) p h in
        ap (λ xs. escaped xs ++ p.1) (sym q.2) ∙ ap (λ is. (b ∷ cond is (1 ∷ escaped q.0.0) (escaped q.0.0)) ++ p.1) b-is ∙ ap (λ ys. b ∷ escaped q.0.0 ++ ys) (sym q.3) ∙ ap (λ ys. b ∷ ys) (more q.0 q.1)

read_plain : (xs : List ℕ) → ((k : ℕ) → k < length xs → (get_or xs k 0 == 0) ≡ false) → read_text xs ≡ None
read_plain [] plain = refl
read_plain (x ∷ xs) plain = read_text-byte x xs (plain 0 (omega arith)) ∙ ap (with_byte x) (read_plain xs (λ k h. plain (suc k) (omega (arith, h))))

read_run : (xs : List ℕ) (n : ℕ) → n < length xs → ((k : ℕ) → k < n → (get_or xs k 0 == 0) ≡ false) → read_text xs ≡ prepend (take n xs) (read_text (drop n xs))
read_run [] n within plain = absurd (omega (arith, within))
read_run (x ∷ xs) zero within plain = sym (prepend-none (read_text (x ∷ xs)))
read_run (x ∷ xs) (suc n) within plain =
    read_text-byte x xs (plain 0 (omega arith)) ∙ ap (with_byte x) (read_run xs n (omega (arith, within)) (λ k h. plain (suc k) (omega (arith, h)))) ∙ byte-prepend x (take n xs) (read_text (drop n xs))

-- where a search for a zero byte finds none, no text ends
pub no_end : (xs : List ℕ) → IsFirstByte (is_byte 0) xs None → read_text xs ≡ None
no_end xs nowhere = read_plain xs (λ k h. not_true _ (nowhere k (omega arith) h))

-- the text up to the first zero byte, and then what stands there
pub up_to_zero : (xs : List ℕ) (n : ℕ) → IsFirstByte (is_byte 0) xs (Some n) → read_text xs ≡ prepend (take n xs) (read_text (drop n xs))
up_to_zero xs n first = read_run xs n first.0.high (λ k h. not_true _ (first.0.before k (omega arith) h))

pub mark_end : (xs : List ℕ) → 2 ≤ length xs → get_or xs 0 0 ≡ 0 → get_or xs 1 0 ≡ 0 → read_text xs ≡ Some ([], drop 2 xs)
mark_end [] long a b = absurd (omega (arith, long))
mark_end (x ∷ []) long a b = absurd (omega (arith, long))
mark_end (x ∷ y ∷ xs) long a b = ap (λ z. read_text (z ∷ y ∷ xs)) a ∙ ap (λ z. read_text (0 ∷ z ∷ xs)) b

pub mark_zero : (xs : List ℕ) → 2 ≤ length xs → get_or xs 0 0 ≡ 0 → get_or xs 1 0 ≡ 1 → read_text xs ≡ with_byte 0 (read_text (drop 2 xs))
mark_zero [] long a b = absurd (omega (arith, long))
mark_zero (x ∷ []) long a b = absurd (omega (arith, long))
mark_zero (x ∷ y ∷ xs) long a b = ap (λ z. read_text (z ∷ y ∷ xs)) a ∙ ap (λ z. read_text (0 ∷ z ∷ xs)) b

pub mark_short : (xs : List ℕ) → length xs < 2 → read_text xs ≡ None
mark_short [] short = refl
mark_short (x ∷ []) short = refl
mark_short (x ∷ y ∷ xs) short = absurd (omega (arith, short))

pub mark_bad : (xs : List ℕ) → 2 ≤ length xs → get_or xs 0 0 ≡ 0 → (get_or xs 1 0 ≡ 0 → ⊥) → (get_or xs 1 0 ≡ 1 → ⊥) → read_text xs ≡ None
mark_bad [] long a b c = absurd (omega (arith, long))
mark_bad (x ∷ []) long a b c = absurd (omega (arith, long))
mark_bad (x ∷ y ∷ xs) long a b c =
    let none : (y == 0) ≡ false = not_true _ (λ h. b (eqb-true y 0 h)) in
    let one : (y == 1) ≡ false = not_true _ (λ h. c (eqb-true y 1 h)) in
    ap (λ z. read_text (z ∷ y ∷ xs)) a ∙ rw (none, one) refl

dropped : (bytes rest : List ℕ) (n : ℕ) → rest ≡ drop (length bytes - length rest) bytes → length rest ≤ length bytes → n ≤ length rest → drop n rest ≡ drop (length bytes - (length rest - n)) bytes
dropped bytes rest n is within short =
    let e : length bytes - length rest + n ≡ length bytes - (length rest - n) = omega (arith, within, short) in
    ap (drop n) is ∙ drop-drop n (length bytes - length rest) bytes ∙ ap (λ k. drop k bytes) e

-- a loop over the runs of a text: what is read so far, and what is left
pub record IsSplit (bytes text rest : List ℕ) : Type 0 where
  pub read : read_text bytes ≡ prepend text (read_text rest)
  pub left : rest ≡ drop (length bytes - length rest) bytes
  pub within : length rest ≤ length bytes

pub split_start : (bytes text : List ℕ) → text ≡ [] → IsSplit bytes text bytes
split_start bytes text none =
    let e : length bytes - length bytes ≡ 0 = omega arith in
    record { read = sym (prepend-none (read_text bytes)) ∙ ap (λ xs. prepend xs (read_text bytes)) (sym none); left = ap (λ k. drop k bytes) (sym e); within = omega arith }

split_run : (bytes text rest : List ℕ) (n : ℕ) → IsSplit bytes text rest → IsFirstByte (is_byte 0) rest (Some n) → read_text bytes ≡ prepend (text ++ take n rest) (read_text (drop n rest))
split_run bytes text rest n split first = split.read ∙ ap (prepend text) (up_to_zero rest n first) ∙ prepend-prepend text (take n rest) (read_text (drop n rest))

pub split_end : (bytes text rest after whole : List ℕ) (n : ℕ) → IsSplit bytes text rest → IsFirstByte (is_byte 0) rest (Some n) → after ≡ drop n rest → whole ≡ text ++ take n rest
    → 2 ≤ length after → read_text after ≡ Some ([], drop 2 after)
    → (read_text bytes ≡ Some (whole, drop (length bytes - (length after - 2)) bytes)) × (length bytes - (length after - 2) ≤ length bytes)
split_end bytes text rest after whole n split first after-is whole-is long ends =
    let count : length after ≡ length rest - n = ap length after-is ∙ length-drop n rest in
    let behind : drop 2 after ≡ drop (length bytes - (length after - 2)) bytes =
    ap (drop 2) after-is ∙ drop-drop 2 n rest ∙ dropped bytes rest (n + 2) split.left split.within (omega (arith, long, count))
    ∙ ap (λ k. drop k bytes) (omega (arith, count, long, split.within)) in (
      split_run bytes text rest n split first ∙ ap (λ xs. prepend (text ++ take n rest) (read_text xs)) (sym after-is) ∙ ap (prepend (text ++ take n rest)) ends
          ∙ ap (λ xs. Some (xs, drop 2 after)) (append-nil (text ++ take n rest) ∙ sym whole-is) ∙ ap (λ ys. Some (whole, ys)) behind,
      omega arith,
    )

pub split_zero : (bytes text rest after behind whole : List ℕ) (n : ℕ) → IsSplit bytes text rest → IsFirstByte (is_byte 0) rest (Some n) → after ≡ drop n rest → whole ≡ (text ++ take n rest) ++ 0 ∷ []
    → behind ≡ drop 2 after → 2 ≤ length after → read_text after ≡ with_byte 0 (read_text (drop 2 after)) → IsSplit bytes whole behind
split_zero bytes text rest after behind whole n split first after-is whole-is behind-is long goes =
    let count : length after ≡ length rest - n = ap length after-is ∙ length-drop n rest in
    let left : length behind ≡ length rest - (n + 2) = ap length behind-is ∙ length-drop 2 after ∙ omega (arith, count) in
    record {
      read = split_run bytes text rest n split first ∙ ap (λ xs. prepend (text ++ take n rest) (read_text xs)) (sym after-is) ∙ ap (prepend (text ++ take n rest)) goes
          ∙ prepend-byte (text ++ take n rest) 0 (read_text (drop 2 after)) ∙ ap (λ xs. prepend xs (read_text (drop 2 after))) (sym whole-is) ∙ ap (λ ys. prepend whole (read_text ys)) (sym behind-is);
      left = behind-is ∙ ap (drop 2) after-is ∙ drop-drop 2 n rest ∙ dropped bytes rest (n + 2) split.left split.within (omega (arith, long, count)) ∙ ap (λ k. drop (length bytes - k) bytes) (sym left);
      within = omega (arith, left, split.within);
    }

pub split_bad : (bytes text rest after : List ℕ) (n : ℕ) → IsSplit bytes text rest → IsFirstByte (is_byte 0) rest (Some n) → after ≡ drop n rest → read_text after ≡ None → read_text bytes ≡ None
split_bad bytes text rest after n split first after-is bad =
    split_run bytes text rest n split first ∙ ap (λ xs. prepend (text ++ take n rest) (read_text xs)) (sym after-is) ∙ ap (prepend (text ++ take n rest)) bad

pub split_none : (bytes text rest : List ℕ) → IsSplit bytes text rest → IsFirstByte (is_byte 0) rest None → read_text bytes ≡ None
split_none bytes text rest split none = split.read ∙ ap (prepend text) (no_end rest none)

pub take_small : (n : ℕ) (xs : List ℕ) → ((i : ℕ) → get_or xs i 0 < 256) → (i : ℕ) → get_or (take n xs) i 0 < 256
take_small zero xs small i = lit< tt
take_small (suc n) [] small i = lit< tt
take_small (suc n) (x ∷ xs) small zero = small zero
take_small (suc n) (x ∷ xs) small (suc i) = take_small n xs (λ k. small (suc k)) i
