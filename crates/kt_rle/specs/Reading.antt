-- What a decoder reads run by run.
use Rattle.std.specs.Prelude.{◌≡◌, ◌<◌, ◌≤◌, ◌⊎◌, ℕ, ℤ, pos, List, Option, Some}
use Rattle.std.specs.List.{flat_map}
use Rattle.kt_plain.specs.declared.widths.NumberWidth.{NumberWidth as Width}
use Rattle.kt_plain.specs.declared.widths.NumberWidth.TheVariants.{Bit}
use Rattle.kt_rle.specs.declared.runs.Run.{Run}
use Rattle.kt_rle.specs.declared.runs.Held.{Held}
use Rattle.kt_rle.specs.Runs.{run_bytes, AreRuns}
use Rattle.kt_rle.specs.Held.{runs_of, end_of, AreHeld}

-- what was read in a number's width is such a number: a bit is 0 or 1
abbrev pub IsNumber : Width → ℤ → Type 0
IsNumber Bit z = (z ≡ pos 0) ⊎ (z ≡ pos 1)
IsNumber _ z = Unit {0}

-- a run that may follow, where so many items are left and this was the last number
pub record MayFollow (w : Width) (left : ℕ) (last : Option ℤ) (r : Run) : Type 0 where
  pub some : 0 < r.len
  pub few : r.len ≤ left
  pub number : IsNumber w r.value
  pub differs : last ≡ Some r.value → ⊥

-- its length may stand there, and its number is none of the width
pub record HasWrongNumber (w : Width) (left : ℕ) (r : Run) : Type 0 where
  pub some : 0 < r.len
  pub few : r.len ≤ left
  pub wrong : ¬ IsNumber w r.value

-- so far behind the first byte of a run that may not follow its fault is told
abbrev pub IsBehind : Width → ℕ → Run → ℕ → Type 0
IsBehind w left r k = (HasWrongNumber w left r × (k ≡ 4)) ⊎ ((¬ HasWrongNumber w left r) × (k ≡ 0))

-- the bytes are these runs, of n items
pub record AreRead (w : Width) (n : ℕ) (bytes : List ℕ) (hs : List Held) : Type 0 where
  pub held : AreHeld hs
  pub are : AreRuns w (runs_of 0 hs)
  pub counted : end_of 0 hs ≡ n
  pub spelled : bytes ≡ flat_map (run_bytes w) (runs_of 0 hs)
