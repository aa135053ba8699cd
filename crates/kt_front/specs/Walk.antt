-- How the reader goes over a block, from left to right, up to the first fault, which is told by how many bytes stand from
-- its place on.
use Rattle.std.specs.Prelude.{ℕ, zero, suc, ◌+◌, Bool, false, List, [], ◌∷◌, ◌++◌, length, take, drop, Result, Ok, Err, nat_le, ◌==◌, if◌then◌else◌}
use Rattle.std.specs.Int.{w32}
use Rattle.kt_bytes.specs.Reading.{◌>>=◌, checked_at, bytes_at}
use Rattle.kt_front.specs.Spelling.{base}

-- both lists have a first byte, and it is the same
abbrev pub begin_alike : List ℕ → List ℕ → Bool
begin_alike [] ys = false
begin_alike (x ∷ xs) [] = false
begin_alike (x ∷ xs) (y ∷ ys) = x == y

-- no more bytes than there are to share
abbrev pub is_shared : List ℕ → ℕ → Bool
is_shared with n = nat_le n (length with)

-- that many bytes more are not too many
abbrev pub is_more : ℕ → ℕ → ℕ → Bool
is_more most shared n = nat_le (shared + n) most

-- an item that may share bytes with this list, and has no more bytes than a limit
unfoldable pub cell_at : ℕ → List ℕ → List ℕ → Result (List ℕ × List ℕ) ℕ
cell_at most with bytes = do
  n ← checked_at w32 (is_shared with) bytes
  m ← checked_at w32 (is_more most n.0) n.1
  rest ← bytes_at m.0 m.1
  if begin_alike (drop n.0 with) rest.0 then Err (length bytes) else Ok (take n.0 with ++ rest.0, rest.1)

-- n items from number i on, behind this one
unfoldable pub items_at : ℕ → ℕ → ℕ → List ℕ → List ℕ → Result (List (List ℕ) × List ℕ) ℕ
items_at most zero i before bytes = Ok ([], bytes)
items_at most (suc n) i before bytes = do
  first ← cell_at most (base i before) bytes
  others ← items_at most n (suc i) first.0 first.1
  Ok (first.0 ∷ others.0, others.1)

-- n items that are all of the bytes
unfoldable pub block_at : ℕ → ℕ → List ℕ → Result (List (List ℕ)) ℕ
block_at most n bytes = do
  all ← items_at most n 0 [] bytes
  if length all.1 == 0 then Ok all.0 else Err (length all.1)

-- the bytes behind the items
abbrev pub behind_of : Result (List (List ℕ) × List ℕ) ℕ → Result (List ℕ) ℕ
behind_of (Ok x) = Ok x.1
behind_of (Err left) = Err left

-- nothing is behind them
abbrev pub ended_of : Result (List ℕ) ℕ → Result ℕ ℕ
ended_of (Ok rest) = if length rest == 0 then Ok 0 else Err (length rest)
ended_of (Err left) = Err left
