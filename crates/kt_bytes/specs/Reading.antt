-- Reading from left to right. A fault is told by how many bytes stand from its place to the end: none where bytes are
-- missing, and all from its first byte on where a field is wrong.
use Rattle.std.specs.Prelude.{◌≡◌, ℕ, zero, suc, ◌-◌, Bool, List, [], ◌∷◌, ◌++◌, length, take, drop, Result, Ok, Err, nat_lt, if◌then◌else◌}
use Rattle.std.specs.Int.{Width, byte_len, from_le_bytes}
use Rattle.kt_bytes.specs.declared.fault.Stop.{Stop}
use Rattle.kt_bytes.specs.declared.fault.Stop.TheVariants as stops
use Rattle.kt_bytes.specs.declared.fault.CodecNo.{CodecNo}
use Rattle.kt_bytes.specs.declared.fault.CodecNo.TheVariants as answers

infixl 10 ◌>>=◌
abbrev pub ◌>>=◌ : {A B : Type 0} → Result A ℕ → (A → Result B ℕ) → Result B ℕ
(Ok x) >>= f = f x
(Err left) >>= f = Err left

-- ---- fields: a value, and the bytes after it

-- a number of this width, its least byte first
abbrev pub number_at : Width → List ℕ → Result (ℕ × List ℕ) ℕ
number_at w bytes = if nat_lt (length bytes) (byte_len w) then Err 0 else Ok (from_le_bytes w (take (byte_len w) bytes), drop (byte_len w) bytes)

-- a number that passes a test; else the fault is where it begins
abbrev pub checked_at : Width → (ℕ → Bool) → List ℕ → Result (ℕ × List ℕ) ℕ
checked_at w passes bytes = do
  n ← number_at w bytes
  if passes n.0 then Ok n else Err (length bytes)

-- so many bytes
abbrev pub bytes_at : ℕ → List ℕ → Result (List ℕ × List ℕ) ℕ
bytes_at n bytes = if nat_lt (length bytes) n then Err 0 else Ok (take n bytes, drop n bytes)

-- bytes behind their count
abbrev pub counted_at : Width → List ℕ → Result (List ℕ × List ℕ) ℕ
counted_at w bytes = do
  n ← number_at w bytes
  bytes_at n.0 n.1

-- so many items, each read behind those before it
unfoldable pub many_at : {X : Type 0} → (List X → List ℕ → Result (X × List ℕ) ℕ) → ℕ → List X → List ℕ → Result (List X × List ℕ) ℕ
many_at item zero front bytes = Ok (front, bytes)
many_at item (suc n) front bytes = do
  x ← item front bytes
  many_at item n (front ++ x.0 ∷ []) x.1

-- each item of a list keeps to this, behind those before it
abbrev pub EachAfter : {X : Type 0} → (List X → X → Type 0) → List X → List X → Type 0
EachAfter Keeps front [] = Unit {0}
EachAfter Keeps front (x ∷ xs) = Keeps front x × EachAfter Keeps (front ++ x ∷ []) xs

-- ---- what a function answers

-- what a function returned, seen by view, is what reading gives, unless memory ran out
abbrev pub Fails : {Y : Type 0} → Stop → Result Y ℕ → Type 0
Fails stops.Memory read = Unit {0}
Fails (stops.Left left) read = read ≡ Err left

abbrev pub Gives : {X Y : Type 0} → (X → Y) → Result X Stop → Result Y ℕ → Type 0
Gives view (Ok x) read = read ≡ Ok (view x)
Gives view (Err e) read = Fails e read

-- the offset of a fault among so many bytes
abbrev pub with_offset : {X : Type 0} → ℕ → Result X ℕ → Result X ℕ
with_offset total (Ok x) = Ok x
with_offset total (Err left) = Err (total - left)

abbrev pub IsAmong : ℕ → Stop → CodecNo → Type 0
IsAmong total stops.Memory answer = answer ≡ answers.Memory
IsAmong total (stops.Left left) answer = answer ≡ answers.Place (total - left)

-- this was answered, unless memory ran out
abbrev pub Answers : {X : Type 0} → Result X CodecNo → Result X ℕ → Type 0
Answers (Ok x) read = read ≡ Ok x
Answers (Err (answers.Place offset)) read = read ≡ Err offset
Answers (Err answers.Memory) read = Unit {0}

-- what holds of the place, where there is one
abbrev pub IfPlace : {X : Type 0} → Result X CodecNo → (ℕ → Type 0) → Type 0
IfPlace (Ok x) P = Unit {0}
IfPlace (Err (answers.Place offset)) P = P offset
IfPlace (Err answers.Memory) P = Unit {0}

-- these, unless memory ran out
abbrev pub IsOrMemory : {X : Type 0} → Result X CodecNo → X → Type 0
IsOrMemory (Ok found) x = found ≡ x
IsOrMemory (Err answers.Memory) x = Unit {0}
IsOrMemory (Err (answers.Place offset)) x = ⊥
