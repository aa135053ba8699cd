-- The Bloom filter of a list of keys.
use Rattle.std.specs.Prelude.{◌≡◌, ◌<◌, ◌+◌, ◌*◌, ◌/◌, ◌%◌, ◌==◌, ◌↔◌, ℕ, Bool, List, [], ◌∷◌, length, map, slice_index, slice_index_or, if◌then◌else◌}
use Rattle.std.specs.List.{list_any, range_with_len}
use Rattle.std.specs.Int.{bit_at}
use Rattle.kt_lookup.specs.Hash.{hash_of, bit_of, Sets}

-- whether a hash sets the bit as one of its six
abbrev pub sets : ℕ → ℕ → ℕ → Bool
sets bits hash k = list_any (λ i. bit_of bits hash i == k) (range_with_len 0 6)

-- whether one of the keys sets the bit
abbrev pub is_set : ℕ → List (List ℕ) → ℕ → Bool
is_set bits keys k = list_any (λ key. sets bits (hash_of key) k) keys

-- the number with these bits, the lowest first
abbrev pub number_of : List Bool → ℕ
number_of [] = 0
number_of (b ∷ bs) = (if b then 1 else 0) + 2 * number_of bs

-- ten bits a key, in whole bytes
abbrev pub filter_len : List (List ℕ) → ℕ
filter_len keys = (length keys * 10 + 7) / 8

-- the filter of the keys: bit k is bit k mod 8 of byte k div 8, and is 1 where a key sets it
unfoldable pub filter_of : List (List ℕ) → List ℕ
filter_of keys = map (λ at. number_of (map (λ i. is_set (8 * filter_len keys) keys (8 * at + i)) (range_with_len 0 8))) (range_with_len 0 (filter_len keys))

-- bit k is bit k mod 8 of byte k div 8
abbrev pub HasBit : List ℕ → ℕ → Type 0
HasBit bytes k = bit_at (slice_index bytes (k / 8)) (k % 8) ≡ 1

-- the six bits of a hash are set
abbrev pub HasAll : List ℕ → ℕ → Type 0
HasAll filter hash = (i : ℕ) → i < 6 → HasBit filter (bit_of (8 * length filter) hash i)

-- one of the first n keys sets the bit
abbrev pub SetBy : ℕ → List (List ℕ) → ℕ → ℕ → Type 0
SetBy bits keys n k = (j : ℕ) × (j < n) × Sets bits (hash_of (slice_index_or keys j [])) k

-- ten bits a key, in whole bytes, of which exactly those are set that a key sets
pub record IsFilter (keys : List (List ℕ)) (filter : List ℕ) : Type 0 where
  pub len : length filter ≡ filter_len keys
  pub bits : (k : ℕ) → HasBit filter k ↔ SetBy (8 * length filter) keys (length keys) k

-- the filter of the keys has these bits, and no other bytes have them
abbrev pub filter_has_its_bits : Type 0
filter_has_its_bits = (keys : List (List ℕ)) → IsFilter keys (filter_of keys)

abbrev pub filter_is_the_only_one : Type 0
filter_is_the_only_one = (keys : List (List ℕ)) (filter : List ℕ) → IsFilter keys filter → ((i : ℕ) → slice_index filter i < 256) → filter ≡ filter_of keys
