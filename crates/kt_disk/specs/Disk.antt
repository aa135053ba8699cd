-- What the files of a disk hold, what its calls do to them, and what a crash may do between two syncs.
use Rattle.std.specs.Ordering.{nat_cmp}
use Rattle.std.specs.List.{Contains}
use Rattle.std.specs.List.Sorted.{IsStrictlySortedBy}
use Rattle.std.specs.List.{All}
use Rattle.std.specs.Prelude.{◌↔◌, ◌≡◌, ◌≢◌, ◌⊎◌, ◌+◌, ◌<◌, ◌≤◌, ℕ, min, max, List, [], ◌∷◌, ◌++◌, length, take, drop, Option, Some, None, IsSome}

-- the bytes of each file by its number, and none where there is no such file
abbrev pub Files : Type 0
Files = ℕ → Option (List ℕ)

abbrev pub bytes_of : Option (List ℕ) → List ℕ
bytes_of None = []
bytes_of (Some bytes) = bytes

-- the bytes of a file, of which a missing one has none
abbrev pub held : Files → ℕ → List ℕ
held files file = bytes_of (files file)

-- each file is of bytes
abbrev pub HoldBytes : Files → Type 0
HoldBytes files = (n : ℕ) → All (λ b. b < 256) (held files n)

-- These are the numbers of the files, rising.
pub record AreFiles (found : List ℕ) (files : Files) : Type 0 where
  pub rising : IsStrictlySortedBy nat_cmp found
  pub each : (n : ℕ) → Contains found n ↔ IsSome (files n)

-- old with these bytes at this offset
abbrev pub put : List ℕ → ℕ → List ℕ → List ℕ
put old at bytes = take at old ++ bytes ++ drop (at + length bytes) old

-- a file shortened to a length
abbrev pub shortened : ℕ → Option (List ℕ) → Option (List ℕ)
shortened to None = None
shortened to (Some bytes) = Some (take to bytes)

-- After a write of n bytes that is not yet stable: any bytes in the range and past the old end, any length
-- from the old to the new one, the same elsewhere.
pub record Torn (at n : ℕ) (old new : Option (List ℕ)) : Type 0 where
  pub no_shorter : length (bytes_of old) ≤ length (bytes_of new)
  pub no_longer : length (bytes_of new) ≤ max (length (bytes_of old)) (at + n)
  pub before : take (min at (length (bytes_of old))) (bytes_of new) ≡ take at (bytes_of old)
  pub after : drop (at + n) (bytes_of new) ≡ drop (at + n) (bytes_of old)
  pub stays : IsSome old → IsSome new

-- After a cut that is not yet stable: any length from the old to the new one, and the same bytes.
pub record Cut (to : ℕ) (old new : Option (List ℕ)) : Type 0 where
  pub no_shorter : min to (length (bytes_of old)) ≤ length (bytes_of new)
  pub front : take (length (bytes_of new)) (bytes_of old) ≡ bytes_of new
  pub stays : IsSome old → IsSome new

-- After a removal that is not yet stable: the file is gone, or it comes back.
abbrev pub Gone : Option (List ℕ) → Option (List ℕ) → Type 0
Gone old new = (new ≡ old) ⊎ (new ≡ None)

-- a step of one file alone
pub record On (file : ℕ) (step : Option (List ℕ) → Option (List ℕ) → Type 0) (old new : Files) : Type 0 where
  pub here : step (old file) (new file)
  pub others : (n : ℕ) → n ≢ file → new n ≡ old n

abbrev pub Same : Files → Files → Type 0
Same old new = new ≡ old

-- Time goes on by a call. Each past moment keeps its images, and what a crash at a new moment may leave is
-- what one at the last moment before might have left, after this move.
pub record Turns {D : Type 0} (now : D → ℕ) (leaves : D → ℕ → Files → Type 0) (Moves : Files → Files → Type 0) (old new : D) : Type 0 where
  pub later : now old ≤ now new
  pub past : (m : ℕ) (c : Files) → m ≤ now old → leaves new m c → leaves old m c
  pub keeps : (m : ℕ) (c : Files) → m ≤ now old → leaves old m c → leaves new m c
  pub each : (m : ℕ) (c : Files) → now old < m → m ≤ now new → leaves new m c → (d : Files) × leaves old (now old) d × Moves d c

-- A crash at each moment from old to new leaves files that have P, and the moments before are as they were.
pub record LeavesOnly {D : Type 0} (now : D → ℕ) (leaves : D → ℕ → Files → Type 0) (P : Files → Type 0) (old new : D) : Type 0 where
  pub later : now old ≤ now new
  pub each : (m : ℕ) (c : Files) → now old ≤ m → m ≤ now new → leaves new m c → P c
  pub past : (m : ℕ) (c : Files) → m ≤ now old → leaves new m c → leaves old m c
  pub keeps : (m : ℕ) (c : Files) → m ≤ now old → leaves old m c → leaves new m c

-- nothing of the file is pending: a crash now leaves what a read gives
abbrev pub Stable : {D : Type 0} → (D → Files) → (D → ℕ) → (D → ℕ → Files → Type 0) → ℕ → D → Type 0
Stable seen now leaves file disk = (c : Files) → leaves disk (now disk) c → c file ≡ seen disk file

-- the number is none of these
abbrev pub IsNoneOf : List ℕ → ℕ → Type 0
IsNoneOf [] n = Unit {0}
IsNoneOf (file ∷ files) n = (n ≢ file) × IsNoneOf files n

-- all files but these are as an image of the disk has them
pub record ButFiles {D : Type 0} (now : D → ℕ) (leaves : D → ℕ → Files → Type 0) (disk : D) (files : List ℕ) (c : Files) : Type 0 where
  pub image : Files
  pub was_left : leaves disk (now disk) image
  pub others : (n : ℕ) → IsNoneOf files n → c n ≡ image n
