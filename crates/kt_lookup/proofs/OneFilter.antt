-- The filter of the keys has the bits that the keys set, and no other bytes have them.
use Rattle.std.proofs.Common.{◌≡◌, ◌↔◌, ◌⊎◌, ℕ, zero, suc, ◌+◌, ◌*◌, ◌/◌, ◌%◌, ◌^◌, ◌<◌, Bool, true, false, cond, ◌||◌, eqb, List, [], ◌∷◌, length, get_or, map, replicate, refl, sym, ap, subst, ◌∙◌, zero-add, arith, inl, inr}
use Rattle.std.proofs.Math.Nat.{pow-succ'}
use Rattle.std.specs.Int.{bit_at}
use Rattle.std.specs.List.{list_any, range_with_len}
use Rattle.std.proofs.lemmas.Bool.{cases_lt, cases_eq, eqb-true, eq-eqb}
use Rattle.std.proofs.lemmas.List.{get_or-replicate, get_or_past, length-replicate, same_lists}
use Rattle.std.proofs.lemmas.Grind.{get_or_default_zero}
use Rattle.std.proofs.lemmas.List.FromFn.{get_or-range_with_len, length-map-range_with_len, get_or-map-range_with_len}
use Rattle.std.proofs.lemmas.List.Folds.{list_any_at}
use Rattle.std.proofs.lemmas.Nat.Bits.{bit_at_lowest, bit_at-suc, bit_at-zero, bit_at-lt, same_from_bits_below}
use Rattle.kt_lookup.specs.Hash.{hash_of, bit_of, Sets}
use Rattle.kt_lookup.specs.Filter.{sets, is_set, number_of, filter_len, filter_of, HasBit, HasAll, SetBy, IsFilter}

not_both : (b : ℕ) → b ≡ 1 → b ≡ 0 → ⊥
not_both b h k = omega (arith, h, k)

zero_byte : (bytes : List ℕ) (k : ℕ) → get_or bytes (k / 8) 0 ≡ 0 → HasBit bytes k → ⊥
zero_byte bytes k e h = not_both (bit_at (get_or bytes (k / 8) 0) (k % 8)) h (ap (λ (b : ℕ). bit_at b (k % 8)) e ∙ bit_at-zero (k % 8))

-- bytes that are all 0 have no bit
zeros_have_none : (n k : ℕ) → HasBit (replicate n 0) k → ⊥
zeros_have_none n k h = elim (cases_lt (k / 8) n) [
  | inl lt ↦ zero_byte (replicate n 0) k (get_or-replicate n (k / 8) 0 0 lt) h
  | inr le ↦ zero_byte (replicate n 0) k (get_or_past (replicate n 0) (k / 8) 0 (omega (arith, length-replicate {A = ℕ} n 0))) h
]

pub is_filter : (keys : List (List ℕ)) (zeros filter : List ℕ) (len : ℕ) → zeros ≡ replicate len 0 → len ≡ filter_len keys → length filter ≡ length zeros
    → ((k : ℕ) → HasBit filter k ↔ (HasBit zeros k ⊎ SetBy (8 * length zeros) keys (length keys) k)) → IsFilter keys filter
is_filter keys zeros filter len made size same bits = record {
  len = same ∙ ap length made ∙ length-replicate {A = ℕ} len 0 ∙ size;
  bits = λ k. ((λ h. there k ((bits k).0 h)), (λ s. (bits k).1 (inr (subst (λ (n : ℕ). SetBy (8 * n) keys (length keys) k) same s))));
}
  where
    there : (k : ℕ) → (HasBit zeros k ⊎ SetBy (8 * length zeros) keys (length keys) k) → SetBy (8 * length filter) keys (length keys) k
    there k (inl h) = absurd (zeros_have_none len k (subst (λ (z : List ℕ). HasBit z k) made h))
    there k (inr s) = subst (λ (n : ℕ). SetBy (8 * n) keys (length keys) k) (sym same) s

-- ---- the bits of a number

abbrev one : Bool → ℕ
one b = cond b 1 0

one_lt : (b : Bool) → one b < 2
one_lt true = omega arith
one_lt false = omega arith

bit_of_number : (bs : List Bool) (i : ℕ) → bit_at (number_of bs) i ≡ one (get_or bs i false)
bit_of_number [] i = bit_at-zero i
bit_of_number (b ∷ bs) zero = bit_at_lowest (one b + 2 * number_of bs) ∙ low (one b) (number_of bs) (one_lt b)
  where
    low : (x m : ℕ) → x < 2 → (x + 2 * m) % 2 ≡ x
    low x m lt = omega arith
bit_of_number (b ∷ bs) (suc i) = bit_at-suc (one b + 2 * number_of bs) i ∙ ap (λ (n : ℕ). bit_at n i) (high (one b) (number_of bs) (one_lt b)) ∙ bit_of_number bs i
  where
    high : (x m : ℕ) → x < 2 → (x + 2 * m) / 2 ≡ m
    high x m lt = omega arith

is_one : (b : Bool) → one b ≡ 1 → b ≡ true
is_one true e = refl
is_one false e = absurd (omega (arith, e))

-- ---- the bits that are set

abbrev PlaceOf : {X : Type 0} → (X → Bool) → List X → X → Type 0
PlaceOf p xs d = (j : ℕ) × (j < length xs) × (p (get_or xs j d) ≡ true)

either_false : (a b : Bool) → a ≡ false → (a || b) ≡ true → b ≡ true
either_false a b is e = sym (ap (λ (a : Bool). a || b) is) ∙ e

-- at the front or behind it
either : {X : Type 0} (p : X → Bool) (x : X) (xs : List X) (d : X) (b : Bool) → p x ≡ b → list_any p (x ∷ xs) ≡ true → (list_any p xs ≡ true → PlaceOf p xs d) → PlaceOf p (x ∷ xs) d
either p x xs d true is e more = (0, omega arith, is)
either p x xs d false is e more =
    let behind : list_any p xs ≡ true = either_false (p x) (list_any p xs) is e in
    let there = more behind in
    (suc there.0, omega (arith, there.1), there.2)

-- the place of an element that passes a test
place_of : {X : Type 0} (p : X → Bool) (xs : List X) (d : X) → list_any p xs ≡ true → PlaceOf p xs d
place_of p [] d e = absurd cc
place_of p (x ∷ xs) d e = either p x xs d (p x) refl e (λ h. place_of p xs d h)

six : (i : ℕ) → i < 6 → get_or (range_with_len 0 6) i 0 ≡ i
six i lt = get_or-range_with_len 0 6 i 0 lt ∙ zero-add i

sets_from : (bits hash k : ℕ) → Sets bits hash k → sets bits hash k ≡ true
sets_from bits hash k (i, lt, e) =
    let at = six i lt in
    list_any_at (λ (i : ℕ). eqb (bit_of bits hash i) k) (range_with_len 0 6) i 0 lt (rw at (eq-eqb (bit_of bits hash i) k e))

sets_to : (bits hash k : ℕ) → sets bits hash k ≡ true → Sets bits hash k
sets_to bits hash k e =
    let there = place_of (λ (i : ℕ). eqb (bit_of bits hash i) k) (range_with_len 0 6) 0 e in
    let at = six there.0 there.1 in
    (there.0, there.1, subst (λ (i : ℕ). bit_of bits hash i ≡ k) at (eqb-true _ _ there.2))

set_from : (bits : ℕ) (keys : List (List ℕ)) (k : ℕ) → SetBy bits keys (length keys) k → is_set bits keys k ≡ true
set_from bits keys k (j, lt, s) = list_any_at (λ (key : List ℕ). sets bits (hash_of key) k) keys j [] lt (sets_from bits (hash_of (get_or keys j [])) k s)

set_to : (bits : ℕ) (keys : List (List ℕ)) (k : ℕ) → is_set bits keys k ≡ true → SetBy bits keys (length keys) k
set_to bits keys k e =
    let there = place_of (λ (key : List ℕ). sets bits (hash_of key) k) keys [] e in
    (there.0, there.1, sets_to bits (hash_of (get_or keys there.0 [])) k there.2)

-- a key sets none but the filter's own bits
set_within : (bits : ℕ) (keys : List (List ℕ)) (n k : ℕ) → 0 < bits → SetBy bits keys n k → k < bits
set_within bits keys n k some (j, lt, (i, less, e)) = within (hash_of (get_or keys j []) % 4294967296 + i * _) e
  where
    within : (x : ℕ) → x % bits ≡ k → k < bits
    within x e = omega (arith, e, some)

pub len_filter : (keys : List (List ℕ)) → length (filter_of keys) ≡ filter_len keys
unfolding filter_of
len_filter keys = length-map-range_with_len _ 0 (filter_len keys)

bit_of_filter : (keys : List (List ℕ)) (k : ℕ) → k < 8 * filter_len keys → bit_at (get_or (filter_of keys) (k / 8) 0) (k % 8) ≡ one (is_set (8 * filter_len keys) keys k)
unfolding filter_of
bit_of_filter keys k lt =
    let has : ℕ → Bool = is_set (8 * filter_len keys) keys in
    let byte : ℕ → ℕ = λ at. number_of (map (λ i. has (8 * at + i)) (range_with_len 0 8)) in
    let here : get_or (map byte (range_with_len 0 (filter_len keys))) (k / 8) 0 ≡ byte (k / 8) = get_or-map-range_with_len byte 0 (filter_len keys) (k / 8) (k / 8) 0 (omega arith) (omega arith) in
    let bit = bit_of_number (map (λ i. has (8 * (k / 8) + i)) (range_with_len 0 8)) (k % 8) in
    let at = get_or-map-range_with_len (λ i. has (8 * (k / 8) + i)) 0 8 (k % 8) (k % 8) false (omega arith) (omega arith) in
    let whole : 8 * (k / 8) + k % 8 ≡ k = omega arith in
    ap (λ (b : ℕ). bit_at b (k % 8)) here ∙ bit ∙ ap one (at ∙ ap has whole)

pub filter_has : (keys : List (List ℕ)) → IsFilter keys (filter_of keys)
filter_has keys =
    let n = len_filter keys in
    record { len = n; bits = λ k. ((λ h. down k h), (λ s. up k s)) }
  where
    n : length (filter_of keys) ≡ filter_len keys
    n = len_filter keys

    down : (k : ℕ) → HasBit (filter_of keys) k → SetBy (8 * length (filter_of keys)) keys (length keys) k
    down k h = elim (cases_lt k (8 * filter_len keys)) [
      | inl lt ↦ subst (λ (m : ℕ). SetBy (8 * m) keys (length keys) k) (sym n) (set_to (8 * filter_len keys) keys k (is_one _ (sym (bit_of_filter keys k lt) ∙ h)))
      | inr le ↦ absurd (zero_byte (filter_of keys) k (get_or_past (filter_of keys) (k / 8) 0 (omega (arith, n))) h)
    ]

    up : (k : ℕ) → SetBy (8 * length (filter_of keys)) keys (length keys) k → HasBit (filter_of keys) k
    up k s =
        let s' : SetBy (8 * filter_len keys) keys (length keys) k = subst (λ (m : ℕ). SetBy (8 * m) keys (length keys) k) n s in
        let some : 0 < 8 * filter_len keys = omega (arith, s'.1) in
        bit_of_filter keys k (set_within (8 * filter_len keys) keys (length keys) k some s') ∙ ap one (set_from (8 * filter_len keys) keys k s')

-- ---- the only one

same_bit : (a b : ℕ) → a < 2 → b < 2 → (a ≡ 1 → b ≡ 1) → (b ≡ 1 → a ≡ 1) → a ≡ b
same_bit a b s t f g = elim (cases_eq a 1) [
  | inl one ↦ one ∙ sym (f one)
  | inr other ↦ elim (cases_eq b 1) [
    | inl one ↦ absurd (other (g one))
    | inr both ↦ omega arith
  ]
]

pub only_filter : (keys : List (List ℕ)) (a b : List ℕ) → IsFilter keys a → IsFilter keys b → ((i : ℕ) → get_or a i 0 < 256) → ((i : ℕ) → get_or b i 0 < 256) → a ≡ b
only_filter keys a b fa fb ba bb = same_lists a b len (λ k d lt. each k d lt)
  where
    len : length a ≡ length b
    len = fa.len ∙ sym fb.len

    there : (k : ℕ) → HasBit a k → HasBit b k
    there k h = (fb.bits k).1 (subst (λ (n : ℕ). SetBy (8 * n) keys (length keys) k) len ((fa.bits k).0 h))

    back : (k : ℕ) → HasBit b k → HasBit a k
    back k h = (fa.bits k).1 (subst (λ (n : ℕ). SetBy (8 * n) keys (length keys) k) (sym len) ((fb.bits k).0 h))

    bit : (at i : ℕ) → i < 8 → bit_at (get_or a at 0) i ≡ bit_at (get_or b at 0) i
    bit at i lt =
        let k : ℕ = 8 * at + i in
        let q : (8 * at + i) / 8 ≡ at = omega arith in
        let r : (8 * at + i) % 8 ≡ i = omega arith in
        let f = there (8 * at + i) in
        let g = back (8 * at + i) in
        same_bit _ _ (bit_at-lt (get_or a at 0) i) (bit_at-lt (get_or b at 0) i) (rw (q, r) at f) (rw (q, r) at g)

    each : (k : ℕ) (d : ℕ) → k < length a → get_or a k d ≡ get_or b k d
    each k d lt =
        let zeros : get_or a k 0 ≡ get_or b k 0 = same_from_bits_below 8 (get_or a k 0) (get_or b k 0) (ba k) (bb k) (λ i less. bit k i less) in
        get_or_default_zero a k d lt ∙ zeros ∙ sym (get_or_default_zero b k d (omega (arith, len)))

number_lt : (bs : List Bool) → number_of bs < 2 ^ length bs
number_lt [] = omega arith
number_lt (b ∷ bs) = rw (pow-succ' 2 (length bs)) (twice (one b) (number_of bs) (2 ^ length bs) (one_lt b) (number_lt bs))
  where
    twice : (x m p : ℕ) → x < 2 → m < p → x + 2 * m < 2 * p
    twice x m p s t = omega arith

pub filter_bytes : (keys : List (List ℕ)) (i : ℕ) → get_or (filter_of keys) i 0 < 256
unfolding filter_of
filter_bytes keys i =
    let byte : ℕ → ℕ = λ at. number_of (map (λ i. is_set (8 * filter_len keys) keys (8 * at + i)) (range_with_len 0 8)) in
    elim (cases_lt i (filter_len keys)) [
      | inl lt ↦ rw (get_or-map-range_with_len byte 0 (filter_len keys) i i 0 lt (zero-add i)) (number_lt (map (λ j. is_set (8 * filter_len keys) keys (8 * i + j)) (range_with_len 0 8)))
      | inr le ↦ rw (get_or_past (map byte (range_with_len 0 (filter_len keys))) i 0 (omega (arith, length-map-range_with_len byte 0 (filter_len keys)))) (omega arith)
    ]

pub is_filter_of : (keys : List (List ℕ)) (filter : List ℕ) → IsFilter keys filter → ((i : ℕ) → get_or filter i 0 < 256) → filter ≡ filter_of keys
is_filter_of keys filter is fits = only_filter keys filter (filter_of keys) is (filter_has keys) fits (filter_bytes keys)

-- a key sets its six bits
pub added : (keys : List (List ℕ)) (filter key : List ℕ) (j : ℕ) → filter ≡ filter_of keys → j < length keys → get_or keys j [] ≡ key → HasAll filter (hash_of key)
added keys filter key j made lt same i less =
    let is : IsFilter keys filter = subst (λ (f : List ℕ). IsFilter keys f) (sym made) (filter_has keys) in
    (is.bits (bit_of (8 * length filter) (hash_of key) i)).1 (j, lt, (i, less, ap (λ (k : List ℕ). bit_of (8 * length filter) (hash_of k) i) same))
