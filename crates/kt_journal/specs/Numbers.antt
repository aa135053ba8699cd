-- The numbers of an image, and what a run may add to them.
use Rattle.std.specs.Prelude.{◌⊎◌, ℕ, ◌+◌, ◌^◌, ◌<◌, ◌≤◌, IsSome}
use Rattle.std.specs.List.{Contains}
use Rattle.kt_disk.specs.Disk.{Files}
use Rattle.kt_records.specs.Numbers.{all_numbers}
use Rattle.kt_journal.specs.Log.{records_of}

-- a number that a record of the log names, or the number of a file
abbrev pub IsNumberOf : Files → ℕ → Type 0
IsNumberOf files n = Contains (all_numbers (records_of files)) n ⊎ IsSome (files n)

-- no number of these images is greater
abbrev pub AreUpTo : ℕ → (Files → Type 0) → Type 0
AreUpTo bound images = (c : Files) → images c → (n : ℕ) → IsNumberOf c n → n ≤ bound

-- Every number of the images after is less than 2^45 above the greater of 3 and the greatest number of those before.
abbrev pub AreNear : (Files → Type 0) → (Files → Type 0) → Type 0
AreNear before after = (bound : ℕ) → 3 ≤ bound → AreUpTo bound before → (c : Files) → after c → (n : ℕ) → IsNumberOf c n → n < bound + 2 ^ 45
