-- The slots of a block's cells, and their bits.
use Rattle.std.proofs.Common.{◌≡◌, ◌≤◌, ◌<◌, ◌+◌, ◌-◌, ◌*◌, ◌/◌, ◌%◌, ◌^◌, ◌==◌, ℕ, zero, suc, Bool, true, false, List, [], ◌∷◌, ◌++◌, length, map, take, drop, min, get_or, Option, None, Some, if◌then◌else◌, refl, sym, ap, ◌∙◌, subst, arith, length-append, length-drop, length-take, zero-add}
use Rattle.std.proofs.lemmas.List.{length-map, take-map, drop-map, take_all, drop_all, take-append-drop}
use Rattle.std.proofs.Math.ListN.{get_or-map}
use Rattle.std.proofs.Common.{pow-suc}
use Rattle.std.proofs.Common.{append_assoc, ◌⊎◌, inl, inr}
use Rattle.std.proofs.Math.Seq.{take-append_seam, drop-append_seam}
use Rattle.std.proofs.lemmas.List.{append-nil, drop_more}
use Rattle.std.proofs.lemmas.Bool.{cases_lt}
use Rattle.kt_column.specs.Nulls.{byte_len, bits_value, bit_bytes, null_bytes, count_present, is_none, AreSlots, bits_of, bits_in, ReadsNulls}

pub present_null : (nulls : List Bool) → count_present (nulls ++ true ∷ []) ≡ count_present nulls
present_null [] = refl
present_null (true ∷ nulls) = present_null nulls
present_null (false ∷ nulls) = ap suc (present_null nulls)

pub present_value : (nulls : List Bool) → count_present (nulls ++ false ∷ []) ≡ count_present nulls + 1
present_value [] = refl
present_value (true ∷ nulls) = present_value nulls
present_value (false ∷ nulls) = let more = present_value nulls in omega (arith, more)

pub present_le : (nulls : List Bool) → count_present nulls ≤ length nulls
present_le [] = omega arith
present_le (true ∷ nulls) = let rest = present_le nulls in omega (arith, rest)
present_le (false ∷ nulls) = let rest = present_le nulls in omega (arith, rest)

pub slots_null : (from : ℕ) (slots : List (Option ℕ)) → AreSlots from slots → AreSlots from (slots ++ None ∷ [])
slots_null from [] h = tt
slots_null from (None ∷ slots) h = slots_null from slots h
slots_null from (Some k ∷ slots) h = (h.0, slots_null (suc from) slots h.1)

pub slots_value : (from k : ℕ) (slots : List (Option ℕ)) → AreSlots from slots → k ≡ from + count_present (map is_none slots) → AreSlots from (slots ++ Some k ∷ [])
slots_value from k [] h e = (omega (arith, e), tt)
slots_value from k (None ∷ slots) h e = slots_value from k slots h e
slots_value from k (Some j ∷ slots) h e = (h.0, slots_value (suc from) k slots h.1 (omega (arith, e)))

-- a value's place is how many stand before it
pub slot_at : (from i k : ℕ) (slots : List (Option ℕ)) → AreSlots from slots → i < length slots → get_or slots i None ≡ Some k → k ≡ from + count_present (take i (map is_none slots))
slot_at from i k [] h lt e = absurd (omega arith)
slot_at from zero k (None ∷ slots) h lt e = cc
slot_at from zero k (Some j ∷ slots) h lt e = let same : j ≡ k = cc in omega (arith, h.0, same)
slot_at from (suc i) k (None ∷ slots) h lt e = slot_at from i k slots h (omega arith) e
slot_at from (suc i) k (Some j ∷ slots) h lt e = let rest = slot_at (suc from) i k slots h.1 (omega arith) e in omega (arith, rest)

-- the bits of the first eight cells, and of the rest
pub bytes_step : (nulls : List Bool) → 0 < length nulls → null_bytes nulls ≡ bits_value (take 8 nulls) ∷ null_bytes (drop 8 nulls)
bytes_step nulls some =
    let len : byte_len (length nulls) ≡ suc (byte_len (length (drop 8 nulls))) = omega (arith, length-drop 8 nulls) in
    ap (λ k. bit_bytes k nulls) len

-- slots that stand for their cells, with how many values there are
abbrev pub AreNulls : List (Option ℕ) → ℕ → Type 0
AreNulls slots p = AreSlots 0 slots × (p ≡ count_present (map is_none slots)) × (length slots ≤ 8192)

map_push : (slots : List (Option ℕ)) (o : Option ℕ) → map is_none (slots ++ o ∷ []) ≡ map is_none slots ++ is_none o ∷ []
map_push [] o = refl
map_push (x ∷ slots) o = ap (λ m. is_none x ∷ m) (map_push slots o)

pub pushed_null : (slots new : List (Option ℕ)) (p : ℕ) (nulls : List Bool) → AreNulls slots p → map is_none slots ≡ nulls → length nulls < 8192 → new ≡ slots ++ None ∷ [] → AreNulls new p
pushed_null slots new p nulls h view few e =
    let same : count_present (map is_none new) ≡ count_present (map is_none slots) = ap (λ s. count_present (map is_none s)) e ∙ ap count_present (map_push slots None) ∙ present_null (map is_none slots) in
    let len = ap length e in
    (subst (λ s. AreSlots 0 s) (sym e) (slots_null 0 slots h.0), h.1 ∙ sym same, omega (arith, len, length-append slots (None ∷ []), ap length view, length-map slots is_none))

pub pushed_value : (slots new : List (Option ℕ)) (p : ℕ) (nulls : List Bool) → AreNulls slots p → map is_none slots ≡ nulls → length nulls < 8192 → new ≡ slots ++ Some p ∷ [] → AreNulls new (p + 1)
pushed_value slots new p nulls h view few e =
    let more : count_present (map is_none new) ≡ count_present (map is_none slots) + 1 = ap (λ s. count_present (map is_none s)) e ∙ ap count_present (map_push slots (Some p)) ∙ present_value (map is_none slots) in
    let len = ap length e in
    (subst (λ s. AreSlots 0 s) (sym e) (slots_value 0 p slots h.0 (omega (arith, h.1))), omega (arith, more, h.1), omega (arith, len, length-append slots (Some p ∷ []), ap length view, length-map slots is_none))

pub few_present : (slots : List (Option ℕ)) (p : ℕ) → AreNulls slots p → p ≤ 8192
few_present slots p h = omega (arith, h.1, h.2, present_le (map is_none slots), length-map slots is_none)

get_or_any : (i : ℕ) (slots : List (Option ℕ)) (d e : Option ℕ) → i < length slots → get_or slots i e ≡ get_or slots i d
get_or_any i [] d e lt = absurd (omega arith)
get_or_any zero (x ∷ slots) d e lt = refl
get_or_any (suc i) (x ∷ slots) d e lt = get_or_any i slots d e (omega arith)

pub slot_value : (slots : List (Option ℕ)) (p i k : ℕ) (x : Option ℕ) (nulls : List Bool) → AreNulls slots p → map is_none slots ≡ nulls → i < length nulls → x ≡ get_or slots i x → x ≡ Some k → (get_or nulls i true ≡ false) × (k ≡ count_present (take i nulls))
slot_value slots p i k x nulls h view lt at some =
    let lt' : i < length slots = omega (arith, ap length view, length-map slots is_none) in
    let here : get_or slots i (Some k) ≡ Some k = sym (subst (λ (y : Option ℕ). y ≡ get_or slots i y) some at) in
    let here' : get_or slots i None ≡ Some k = get_or_any i slots (Some k) None lt' ∙ here in
    let bit : get_or (map is_none slots) i true ≡ false = get_or-map is_none slots i None ∙ ap is_none here' in
    (subst (λ (n : List Bool). get_or n i true ≡ false) view bit, subst (λ (n : List Bool). k ≡ count_present (take i n)) view (slot_at 0 i k slots h.0 lt' here' ∙ zero-add _))

take_eight : (m : ℕ) (slots : List (Option ℕ)) → m ≡ min (length slots) 8 → take m slots ≡ take 8 slots
take_eight m slots e = elim (cases_lt (length slots) 8) [
  | inl less ↦ take_all m slots (omega arith) ∙ sym (take_all 8 slots (omega arith))
  | inr ge ↦ let eight : m ≡ 8 = omega arith in ap (λ k. take k slots) eight
]

drop_eight : (m : ℕ) (slots : List (Option ℕ)) → m ≡ min (length slots) 8 → drop m slots ≡ drop 8 slots
drop_eight m slots e = elim (cases_lt (length slots) 8) [
  | inl less ↦ drop_all m slots (omega arith) ∙ sym (drop_all 8 slots (omega arith))
  | inr ge ↦ let eight : m ≡ 8 = omega arith in ap (λ k. drop k slots) eight
]

-- one more byte of the bits
pub put_step : (out out' : List ℕ) (slots front after : List (Option ℕ)) (m v : ℕ) → 0 < length slots → m ≡ min (length slots) 8 → front ≡ take m slots → after ≡ drop m slots → v ≡ bits_value (map is_none front) → out' ≡ out ++ v ∷ [] → out' ++ null_bytes (map is_none after) ≡ out ++ null_bytes (map is_none slots)
put_step out out' slots front after m v some m-is front-is after-is v-is out-is =
    let first : take m slots ≡ take 8 slots = take_eight m slots m-is in
    let last : drop m slots ≡ drop 8 slots = drop_eight m slots m-is in
    let v-is' : v ≡ bits_value (take 8 (map is_none slots)) = v-is ∙ ap (λ s. bits_value (map is_none s)) (front-is ∙ first) ∙ ap bits_value (sym (take-map is_none 8 slots)) in
    let rest : map is_none after ≡ drop 8 (map is_none slots) = ap (map is_none) (after-is ∙ last) ∙ sym (drop-map is_none 8 slots) in
    let whole = bytes_step (map is_none slots) (omega (arith, length-map slots is_none)) in
    rw (out-is, append_assoc, v-is', rest, whole) refl

-- bits and numbers

length-bits_of : (n b : ℕ) → length (bits_of n b) ≡ n
length-bits_of zero b = refl
length-bits_of (suc n) b = ap suc (length-bits_of n (b / 2))

odd_or_even : (b : ℕ) → (if b % 2 == 1 then 1 else 0) ≡ b % 2
odd_or_even b = elim (cases_lt (b % 2) 1) [
  | inl less ↦ let none : b % 2 ≡ 0 = omega arith in rw none refl
  | inr ge ↦ let one : b % 2 ≡ 1 = omega arith in rw one refl
]

value_of_bits : (n b : ℕ) → b < 2 ^ n → bits_value (bits_of n b) ≡ b
value_of_bits zero b lt = omega arith
value_of_bits (suc n) b lt =
    let half : b / 2 < 2 ^ n = (let double : 2 ^ suc n ≡ 2 ^ n * 2 = pow-suc 2 n in omega (arith, double)) in
    let rest = value_of_bits n (b / 2) half in
    rw (odd_or_even b, rest) (omega arith)

pub bits_below : (bits : List Bool) → bits_value bits < 2 ^ length bits
bits_below [] = omega arith
bits_below (true ∷ bits) = let rest = bits_below bits in let double : 2 ^ suc (length bits) ≡ 2 ^ length bits * 2 = pow-suc 2 (length bits) in omega (arith, rest, double)
bits_below (false ∷ bits) = let rest = bits_below bits in let double : 2 ^ suc (length bits) ≡ 2 ^ length bits * 2 = pow-suc 2 (length bits) in omega (arith, rest, double)

bits_of_value : (bits : List Bool) → bits_of (length bits) (bits_value bits) ≡ bits
bits_of_value [] = refl
bits_of_value (true ∷ bits) =
    let low : (1 + 2 * bits_value bits) % 2 ≡ 1 = omega arith in
    let high : (1 + 2 * bits_value bits) / 2 ≡ bits_value bits = omega arith in
    rw (low, high, bits_of_value bits) refl
bits_of_value (false ∷ bits) =
    let low : (0 + 2 * bits_value bits) % 2 ≡ 0 = omega arith in
    let high : (0 + 2 * bits_value bits) / 2 ≡ bits_value bits = omega arith in
    rw (low, high, bits_of_value bits) refl

-- each byte has bits for its cells alone
abbrev pub NoSpare : ℕ → List ℕ → Type 0
NoSpare n [] = Unit {0}
NoSpare n (b ∷ bs) = (b < 2 ^ min 8 n) × NoSpare (n - 8) bs

byte_first : (first rest : List Bool) (b : ℕ) → (length first ≡ 8) ⊎ ((length first ≤ 8) × (0 < length first) × (rest ≡ [])) → bits_value first ≡ b → null_bytes (first ++ rest) ≡ b ∷ null_bytes rest
byte_first first rest b (inl len) value =
    let front : take 8 (first ++ rest) ≡ first = subst (λ k. take k (first ++ rest) ≡ first) len (take-append_seam first rest) in
    let back : drop 8 (first ++ rest) ≡ rest = subst (λ k. drop k (first ++ rest) ≡ rest) len (drop-append_seam first rest) in
    let step = bytes_step (first ++ rest) (omega (arith, len, length-append first rest)) in
    rw (step, front, back, value) refl
byte_first first rest b (inr h) value =
    let whole : first ++ rest ≡ first = ap (λ r. first ++ r) h.2 ∙ append-nil first in
    let front : take 8 first ≡ first = take_all 8 first h.0 in
    let back : drop 8 first ≡ [] = drop_all 8 first h.0 in
    let step = bytes_step first h.1 in
    rw (whole, step, front, back, value, h.2) refl

bits_in_none : (n : ℕ) (bytes : List ℕ) → length bytes ≡ 0 → bits_in n bytes ≡ []
bits_in_none n [] len = refl
bits_in_none n (b ∷ bs) len = absurd (omega arith)

pub bytes_of_bits : (n : ℕ) (bytes : List ℕ) → length bytes ≡ byte_len n → NoSpare n bytes → null_bytes (bits_in n bytes) ≡ bytes
bytes_of_bits n [] len none = refl
bytes_of_bits n (b ∷ bs) len none =
    let first : length (bits_of (min 8 n) b) ≡ min 8 n = length-bits_of (min 8 n) b in
    let rest : null_bytes (bits_in (n - 8) bs) ≡ bs = bytes_of_bits (n - 8) bs (omega (arith, len)) none.1 in
    let cases : (length (bits_of (min 8 n) b) ≡ 8) ⊎ ((length (bits_of (min 8 n) b) ≤ 8) × (0 < length (bits_of (min 8 n) b)) × (bits_in (n - 8) bs ≡ [])) =
    elim (cases_lt n 8) [
      | inl less ↦ inr (omega (arith, first), omega (arith, first, len), bits_in_none (n - 8) bs (omega (arith, len)))
      | inr ge ↦ inl (omega (arith, first))
    ] in
    byte_first (bits_of (min 8 n) b) (bits_in (n - 8) bs) b cases (value_of_bits (min 8 n) b none.0) ∙ ap (λ r. b ∷ r) rest

pub length-bits_in : (n : ℕ) (bytes : List ℕ) → length bytes ≡ byte_len n → length (bits_in n bytes) ≡ n
length-bits_in n [] len = omega (arith, len)
length-bits_in n (b ∷ bs) len =
    let rest = length-bits_in (n - 8) bs (omega (arith, len)) in
    omega (arith, rest, length-bits_of (min 8 n) b, length-append (bits_of (min 8 n) b) (bits_in (n - 8) bs))

pub bits_of_bytes : (k : ℕ) (nulls : List Bool) → k ≡ byte_len (length nulls) → bits_in (length nulls) (bit_bytes k nulls) ≡ nulls
bits_of_bytes zero [] e = refl
bits_of_bytes zero (x ∷ nulls) e = absurd (omega arith)
bits_of_bytes (suc k) nulls e =
    let few : length (take 8 nulls) ≡ min 8 (length nulls) = length-take 8 nulls in
    let left : length (drop 8 nulls) ≡ length nulls - 8 = length-drop 8 nulls in
    let first : bits_of (min 8 (length nulls)) (bits_value (take 8 nulls)) ≡ take 8 nulls = ap (λ n. bits_of n (bits_value (take 8 nulls))) (sym few) ∙ bits_of_value (take 8 nulls) in
    let rest : bits_in (length nulls - 8) (bit_bytes k (drop 8 nulls)) ≡ drop 8 nulls = ap (λ n. bits_in n (bit_bytes k (drop 8 nulls))) (sym left) ∙ bits_of_bytes k (drop 8 nulls) (omega (arith, e, left)) in
    rw (first, rest) (take-append-drop 8 nulls)

pub no_spare_bits : (k : ℕ) (nulls : List Bool) → NoSpare (length nulls) (bit_bytes k nulls)
no_spare_bits zero nulls = tt
no_spare_bits (suc k) nulls =
    let few : length (take 8 nulls) ≡ min 8 (length nulls) = length-take 8 nulls in
    let left : length (drop 8 nulls) ≡ length nulls - 8 = length-drop 8 nulls in
    (subst (λ m. bits_value (take 8 nulls) < 2 ^ m) few (bits_below (take 8 nulls)), subst (λ n. NoSpare n (bit_bytes k (drop 8 nulls))) left (no_spare_bits k (drop 8 nulls)))

-- the last byte alone can have spare bits
pub no_spare : (n : ℕ) (bytes : List ℕ) → length bytes ≡ byte_len n → ((i : ℕ) → get_or bytes i 0 < 256) → (0 < n % 8 → get_or bytes (n / 8) 0 < 2 ^ (n % 8)) → NoSpare n bytes
no_spare n [] len small last = tt
no_spare n (b ∷ bs) len small last = elim (cases_lt n 8) [
  | inl less ↦ (
    let m : min 8 n ≡ n % 8 = omega arith in let at : n / 8 ≡ 0 = omega arith in rw m (subst (λ i. get_or (b ∷ bs) i 0 < 2 ^ (n % 8)) at (last (omega (arith, len)))),
    no_spare (n - 8) bs (omega (arith, len)) (λ i. small (suc i)) (λ more. absurd (omega arith)),
  )
  | inr ge ↦ (
    let m : min 8 n ≡ 8 = omega arith in rw m (small 0),
    no_spare (n - 8) bs (omega (arith, len)) (λ i. small (suc i))
        (λ more. let same : (n - 8) % 8 ≡ n % 8 = omega arith in let at : n / 8 ≡ suc ((n - 8) / 8) = omega arith in
        rw same (subst (λ i. get_or (b ∷ bs) i 0 < 2 ^ (n % 8)) at (last (omega arith)))),
  )
]

pub spare_below : (n : ℕ) (bytes : List ℕ) → length bytes ≡ byte_len n → NoSpare n bytes → 0 < n % 8 → get_or bytes (n / 8) 0 < 2 ^ (n % 8)
spare_below n [] len none some = absurd (omega (arith, len))
spare_below n (b ∷ bs) len none some = elim (cases_lt n 8) [
  | inl less ↦ (let m : min 8 n ≡ n % 8 = omega arith in let at : n / 8 ≡ 0 = omega arith in rw (at, ← m) none.0)
  | inr ge ↦
      (let same : (n - 8) % 8 ≡ n % 8 = omega arith in let at : n / 8 ≡ suc ((n - 8) / 8) = omega arith in
      rw at (subst (λ k. get_or bs ((n - 8) / 8) 0 < 2 ^ k) same (spare_below (n - 8) bs (omega (arith, len)) none.1 (omega arith))))
]

pub length-bit_bytes : (k : ℕ) (bits : List Bool) → length (bit_bytes k bits) ≡ k
length-bit_bytes zero bits = refl
length-bit_bytes (suc k) bits = ap suc (length-bit_bytes k (drop 8 bits))

-- the steps of the loops that read bits

bits_more : (m b : ℕ) → 0 < m → bits_of m b ≡ (b % 2 == 1) ∷ bits_of (m - 1) (b / 2)
bits_more zero b lt = absurd (omega arith)
bits_more (suc m) b lt = let one : suc m - 1 ≡ m = omega arith in rw one refl

pub bit_step : (nulls new all : List Bool) (n i b : ℕ) → i < n → nulls ++ bits_of (n - i) b ≡ all → new ≡ nulls ++ (b % 2 == 1) ∷ [] → new ++ bits_of (n - (i + 1)) (b / 2) ≡ all
bit_step nulls new all n i b lt so_far e =
    let one : (n - i) - 1 ≡ n - (i + 1) = omega arith in
    let more : bits_of (n - i) b ≡ (b % 2 == 1) ∷ bits_of (n - (i + 1)) (b / 2) = bits_more (n - i) b (omega arith) ∙ ap (λ k. (b % 2 == 1) ∷ bits_of k (b / 2)) one in
    rw (e, append_assoc) (ap (λ r. nulls ++ r) (sym more) ∙ so_far)

pub byte_step : (nulls new all : List Bool) (left here next i byte : ℕ) (bytes : List ℕ) → i < length bytes → byte ≡ get_or bytes i 0 → here ≡ min left 8 → next ≡ left - here → nulls ++ bits_in left (drop i bytes) ≡ all → new ≡ nulls ++ bits_of here byte → new ++ bits_in next (drop (i + 1) bytes) ≡ all
byte_step nulls new all left here next i byte bytes lt byte-is here-is next-is so_far e =
    let split : drop i bytes ≡ get_or bytes i 0 ∷ drop (i + 1) bytes = drop_more bytes i 0 lt in
    let m : here ≡ min 8 left = omega arith in
    let n : next ≡ left - 8 = omega arith in
    rw (e, append_assoc, byte-is, m, n) (ap (λ d. nulls ++ bits_in left d) (sym split) ∙ so_far)

pub len_step : (nulls new : List Bool) (left here next byte n : ℕ) → here ≡ min left 8 → next ≡ left - here → length nulls + left ≡ n → new ≡ nulls ++ bits_of here byte → length new + next ≡ n
len_step nulls new left here next byte n here-is next-is len e = omega (arith, ap length e, length-append nulls (bits_of here byte), length-bits_of here byte)

-- the bits of n cells at the front of bytes

small_front : (k : ℕ) (bytes : List ℕ) → ((i : ℕ) → get_or bytes i 0 < 256) → (i : ℕ) → get_or (take k bytes) i 0 < 256
small_front zero bytes small i = omega arith
small_front (suc k) [] small i = omega arith
small_front (suc k) (b ∷ bs) small zero = small 0
small_front (suc k) (b ∷ bs) small (suc i) = small_front k bs (λ j. small (suc j)) i

front_same : (k : ℕ) (bytes : List ℕ) (i : ℕ) → i < k → get_or (take k bytes) i 0 ≡ get_or bytes i 0
front_same zero bytes i lt = absurd (omega arith)
front_same (suc k) [] i lt = refl
front_same (suc k) (b ∷ bs) zero lt = refl
front_same (suc k) (b ∷ bs) (suc i) lt = front_same k bs i (omega arith)

pub reads_nulls : (n : ℕ) (bytes : List ℕ) → byte_len n ≤ length bytes → ((i : ℕ) → get_or bytes i 0 < 256) → (0 < n % 8 → get_or bytes (n / 8) 0 < 2 ^ (n % 8)) → ReadsNulls n bytes (bits_in n (take (byte_len n) bytes))
reads_nulls n bytes le small last =
    let len : length (take (byte_len n) bytes) ≡ byte_len n = omega (arith, length-take (byte_len n) bytes) in
    let none = no_spare n (take (byte_len n) bytes) len (small_front (byte_len n) bytes small)
    (λ some. rw (front_same (byte_len n) bytes (n / 8) (omega (arith, some))) (last some)) in
    record { counted = length-bits_in n (take (byte_len n) bytes) len; within = le; spelled = bytes_of_bits n (take (byte_len n) bytes) len none }

-- where bytes begin with the bits of cells, nothing is missing, no spare bit is 1, and those bits are read

front_is : (nulls : List Bool) (rest bytes : List ℕ) → bytes ≡ null_bytes nulls ++ rest → take (byte_len (length nulls)) bytes ≡ null_bytes nulls
front_is nulls rest bytes e =
    let len = length-bit_bytes (byte_len (length nulls)) nulls in
    ap (take (byte_len (length nulls))) e ∙ subst (λ k. take k (null_bytes nulls ++ rest) ≡ null_bytes nulls) len (take-append_seam (null_bytes nulls) rest)

pub none_missing : (n : ℕ) (nulls : List Bool) (rest bytes : List ℕ) → length nulls ≡ n → bytes ≡ null_bytes nulls ++ rest → byte_len n ≤ length bytes
none_missing n nulls rest bytes len e = omega (arith, ap length e, length-append (null_bytes nulls) rest, length-bit_bytes (byte_len (length nulls)) nulls, len)

pub none_spare : (n : ℕ) (nulls : List Bool) (rest bytes : List ℕ) → length nulls ≡ n → bytes ≡ null_bytes nulls ++ rest → 0 < n % 8 → get_or bytes (n / 8) 0 < 2 ^ (n % 8)
none_spare n nulls rest bytes len e some =
    let whole = length-bit_bytes (byte_len (length nulls)) nulls in
    let below = spare_below (length nulls) (null_bytes nulls) whole (no_spare_bits (byte_len (length nulls)) nulls) (omega (arith, len, some)) in
    let same : get_or bytes (n / 8) 0 ≡ get_or (null_bytes nulls) (n / 8) 0 = sym (front_same (byte_len n) bytes (n / 8) (omega (arith, some))) ∙ ap (λ b. get_or b (n / 8) 0) (ap (λ k. take (byte_len k) bytes) (sym len) ∙ front_is nulls rest bytes e) in
    rw same (subst (λ k. get_or (null_bytes nulls) (k / 8) 0 < 2 ^ (k % 8)) len below)

pub same_nulls : (n : ℕ) (nulls : List Bool) (rest bytes : List ℕ) → length nulls ≡ n → bytes ≡ null_bytes nulls ++ rest → bits_in n (take (byte_len n) bytes) ≡ nulls
same_nulls n nulls rest bytes len e =
    subst (λ k. bits_in k (take (byte_len k) bytes) ≡ nulls) len (ap (bits_in (length nulls)) (front_is nulls rest bytes e) ∙ bits_of_bytes (byte_len (length nulls)) nulls refl)
