-- The hash of a key, and the bits that it sets.
use Rattle.std.specs.Prelude.{◌≡◌, ◌<◌, ◌+◌, ◌*◌, ◌/◌, ◌%◌, ◌^◌, ℕ, List, bit_xor, bit_or, fold}

-- FNV-1a of 64 bits: each byte is xored in, and the hash multiplied
abbrev pub mixed : ℕ → ℕ → ℕ
mixed hash byte = bit_xor hash byte * 1099511628211 % 2 ^ 64

abbrev pub hash_of : List ℕ → ℕ
hash_of key = fold mixed 14695981039346656037 key

-- the i-th bit of a hash among so many: the low half, and i times the high half with its lowest bit set
abbrev pub bit_of : ℕ → ℕ → ℕ → ℕ
bit_of bits hash i = (hash % 4294967296 + i * bit_or (hash / 4294967296) 1) % bits

-- the hash sets the bit as one of its six
abbrev pub Sets : ℕ → ℕ → ℕ → Type 0
Sets bits hash k = (i : ℕ) × (i < 6) × (bit_of bits hash i ≡ k)
