-- Runs of one number.
use Rattle.std.specs.Prelude.{◌≢◌, ◌<◌, ◌+◌, ℕ, zero, suc, ℤ, List, [], ◌∷◌, ◌++◌, drop, replicate}
use Rattle.std.specs.Int.{w32, to_le_bytes}
use Rattle.byteorder.specs.Endian.{little_number}
use Rattle.kt_plain.specs.declared.widths.NumberWidth.{NumberWidth as Width}
use Rattle.kt_plain.specs.Widths.{field_len, number, value, IsInWidth}
use Rattle.kt_rle.specs.declared.runs.Run.{Run}

-- the numbers of a run
abbrev pub expand : Run → List ℤ
expand r = replicate r.len r.value

-- a run's length in four bytes, and its number
abbrev pub run_bytes : Width → Run → List ℕ
run_bytes w r = to_le_bytes w32 r.len ++ number w r.value

-- how many bytes a run takes
abbrev pub run_len : Width → ℕ
run_len w = 4 + field_len w

-- the first run, if any, has another number
abbrev pub DiffersFirst : ℤ → List Run → Type 0
DiffersFirst z [] = Unit {0}
DiffersFirst z (r ∷ rs) = z ≢ r.value

-- neighbours have different numbers
abbrev pub Differ : List Run → Type 0
Differ [] = Unit {0}
Differ (r ∷ rs) = DiffersFirst r.value rs × Differ rs

-- lengths are at least 1, the numbers are of the width, and neighbours differ
abbrev pub AreRuns : Width → List Run → Type 0
AreRuns w [] = Unit {0}
AreRuns w (r ∷ rs) = (0 < r.len) × IsInWidth w r.value × DiffersFirst r.value rs × AreRuns w rs

-- the run whose bytes stand at the front
abbrev pub run_at : Width → List ℕ → Run
run_at w bytes = record { len = little_number 4 bytes; value = value w (drop 4 bytes) }

-- the runs in the first fields
abbrev pub runs_in : Width → ℕ → List ℕ → List Run
runs_in w zero bytes = []
runs_in w (suc k) bytes = run_at w bytes ∷ runs_in w k (drop (run_len w) bytes)
