-- How the reader goes over a block, from left to right, up to the first fault. The fields of a list tell the place of a
-- fault by themselves; these are the steps that find it. A fault is told by how many bytes stand from its place on.
use Rattle.std.specs.Prelude.{ℕ, zero, suc, ◌+◌, Bool, false, true, not, ◌&&◌, ◌||◌, List, [], ◌∷◌, ◌++◌, length, Result, Ok, Err, nat_lt, nat_le, ◌==◌, if◌then◌else◌}
use Rattle.std.specs.Int.{w16, w32}
use Rattle.kt_bytes.specs.Reading.{◌>>=◌, checked_at, bytes_at}
use Rattle.kt_dict.specs.Spelling.{has}

-- how many entries the dictionary of n cells can have
abbrev pub is_count : ℕ → ℕ → Bool
is_count n d = nat_le d 4096 && nat_le d n && (nat_lt 0 d || n == 0)

unfoldable pub count_at : ℕ → List ℕ → Result (ℕ × List ℕ) ℕ
count_at n bytes = checked_at w16 (is_count n) bytes

-- one of the bytes below n is no entry by itself
unfoldable pub has_free : List (List ℕ) → ℕ → Bool
has_free known zero = false
has_free known (suc b) = not (has known (b ∷ [])) || has_free known b

-- some byte string of this length is not among them
unfoldable pub is_open : List (List ℕ) → ℕ → Bool
is_open known len = if len == 0 then not (has known []) else (if len == 1 then has_free known 256 else true)

-- the length of an entry that can stand behind these
abbrev pub is_length : ℕ → List (List ℕ) → ℕ → Bool
is_length most known len = nat_le len most && is_open known len

-- an entry, which is at fault at its bytes where it stands before
unfoldable pub text_at : ℕ → List (List ℕ) → List ℕ → Result (List ℕ × List ℕ) ℕ
text_at most known bytes = do
  len ← checked_at w32 (is_length most known) bytes
  bytes_at len.0 len.1

unfoldable pub entry_at : ℕ → List (List ℕ) → List ℕ → Result (List ℕ × List ℕ) ℕ
entry_at most known bytes = do
  x ← text_at most known bytes
  if has known x.0 then Err (length x.0 + length x.1) else Ok x

-- n more entries behind these
unfoldable pub entries_at : ℕ → ℕ → List (List ℕ) → List ℕ → Result (List (List ℕ) × List ℕ) ℕ
entries_at most zero known bytes = Ok (known, bytes)
entries_at most (suc n) known bytes = do
  x ← entry_at most known bytes
  entries_at most n (known ++ x.0 ∷ []) x.1

-- A code that can stand here, where the first so many of d entries were used before and n cells are left behind it: that
-- of an entry used before, as long as the cells behind it are enough for the entries not yet used; or that of the next.
abbrev pub is_code : ℕ → ℕ → ℕ → ℕ → Bool
is_code n d used c = if nat_lt c used then nat_le d (used + n) else c == used && nat_lt c d

unfoldable pub code_at : ℕ → ℕ → ℕ → List ℕ → Result (ℕ × List ℕ) ℕ
code_at n d used bytes = checked_at w16 (is_code n d used) bytes

-- how many entries are used once this code stands there
abbrev pub used_with : ℕ → ℕ → ℕ
used_with used c = if nat_lt c used then used else used + 1

-- n more codes behind these, where the first so many of d entries are used
unfoldable pub codes_at : ℕ → ℕ → ℕ → List ℕ → List ℕ → Result (List ℕ × List ℕ) ℕ
codes_at zero d used codes bytes = Ok (codes, bytes)
codes_at (suc n) d used codes bytes = do
  c ← code_at n d used bytes
  codes_at n d (used_with used c.0) (codes ++ c.0 ∷ []) c.1

-- the entries and the codes of n items, none of more bytes, that are all of the bytes
unfoldable pub block_at : ℕ → ℕ → List ℕ → Result (List (List ℕ) × List ℕ) ℕ
block_at most n bytes = do
  d ← count_at n bytes
  known ← entries_at most d.0 [] d.1
  codes ← codes_at n (length known.0) 0 [] known.1
  if length codes.1 == 0 then Ok (known.0, codes.0) else Err (length codes.1)
