-- The keys of changes in the tree, whose order is that of ordinals, and then of timestamps.
use Rattle.std.specs.Prelude.{◌≡◌, ℕ, ◌^◌, ◌<◌, ◌++◌, List, drop}
use Rattle.byteorder.specs.Endian.{big_bytes, big_number}

-- the key of the change of a row at a timestamp: its ordinal and then the timestamp, the highest byte first
abbrev pub key_of : ℕ → ℕ → List ℕ
key_of ordinal ts = big_bytes 4 ordinal ++ big_bytes 8 ts

-- and what a key says
abbrev pub ordinal_of : List ℕ → ℕ
ordinal_of key = big_number 4 key

abbrev pub ts_of : List ℕ → ℕ
ts_of key = big_number 8 (drop 4 key)

-- it is the key of some change
pub record IsKey (key : List ℕ) : Type 0 where
  pub ordinal : ordinal_of key < 2 ^ 32
  pub ts : ts_of key < 2 ^ 64
  pub is : key ≡ key_of (ordinal_of key) (ts_of key)
