-- The one spelling of each list of numbers, and the fields that it is made of.
use Rattle.std.specs.Prelude.{◌≡◌, ◌<◌, ◌≤◌, ◌+◌, ◌^◌, ◌⊎◌, ℕ, ℤ, List, ◌++◌, length, map, All}
use Rattle.std.specs.List.{flat_map, concat}
use Rattle.std.specs.Int.{w32, to_le_bytes}
use Rattle.kt_bytes.specs.Places.{GoesOn, Stands, IsFault}
use Rattle.kt_plain.specs.declared.widths.NumberWidth.{NumberWidth as Width}
use Rattle.kt_plain.specs.Widths.{field_len, number, IsInWidth}
use Rattle.kt_rle.specs.declared.runs.Run.{Run}
use Rattle.kt_rle.specs.Runs.{expand, run_bytes, AreRuns}

-- the items have a spelling in the width: numbers of it, and fewer than 2^32
abbrev pub Fits : Width → List ℤ → Type 0
Fits width items = (length items < 2 ^ 32) × All (IsInWidth width) items

-- the bytes are those of runs, and the runs are these n items
pub record Spells (width : Width) (n : ℕ) (items : List ℤ) (bytes : List ℕ) : Type 0 where
  pub runs : List Run
  pub are : AreRuns width runs
  pub expanded : items ≡ flat_map expand runs
  pub counted : length items ≡ n
  pub few : n < 2 ^ 32
  pub spelled : bytes ≡ flat_map (run_bytes width) runs

-- the spelling of the items takes so many bytes
abbrev pub Takes : Width → List ℤ → ℕ → Type 0
Takes width items n = (bytes : List ℕ) × Spells width (length items) items bytes × (length bytes ≡ n)

-- bytes spell one list of items at most
abbrev pub SpellsOne : Type 0
SpellsOne = (width : Width) (n : ℕ) (bytes : List ℕ) (a b : List ℤ) → Spells width n a bytes → Spells width n b bytes → a ≡ b

-- items have one spelling at most
abbrev pub IsSpelledOnce : Type 0
IsSpelledOnce = (width : Width) (n : ℕ) (items : List ℤ) (a b : List ℕ) → Spells width n items a → Spells width n items b → a ≡ b

-- these are the fields of n items: a run, its length and number together, is one
pub record Spelled (width : Width) (n : ℕ) (fs : List (List ℕ)) : Type 0 where
  pub runs : List Run
  pub are : AreRuns width runs
  pub counted : length (flat_map expand runs) ≡ n
  pub few : n < 2 ^ 32
  pub spelled : fs ≡ map (run_bytes width) runs

-- a spelling is its fields joined
abbrev pub IsJoined : Type 0
IsJoined = (width : Width) (n : ℕ) (items : List ℤ) (bytes : List ℕ) → Spells width n items bytes → (fs : List (List ℕ)) × Spelled width n fs × (bytes ≡ concat fs)

-- The run at this place has a length that can stand there, with some number of the width behind it, and what stands
-- behind it is no number of the width.
pub record IsWrongNumber (width : Width) (n : ℕ) (bytes : List ℕ) (at : ℕ) : Type 0 where
  pub front : List (List ℕ)
  pub run : Run
  pub rest : List ℕ
  pub parts : bytes ≡ concat front ++ (to_le_bytes w32 run.len ++ rest)
  pub begins : length (concat front) ≡ at
  pub goes : GoesOn (Spelled width n) front (run_bytes width run)
  pub whole : field_len width ≤ length rest
  pub wrong : (z : ℤ) → IsInWidth width z → ¬ Stands (number width z) rest

-- the first fault is told at the run's number, 4 bytes on, where that alone is wrong, and else where it is
pub record IsTold (width : Width) (n : ℕ) (bytes : List ℕ) (place : ℕ) : Type 0 where
  pub at : ℕ
  pub fault : IsFault (Spelled width n) bytes at
  pub told : (IsWrongNumber width n bytes at × (place ≡ at + 4)) ⊎ ((¬ IsWrongNumber width n bytes at) × (place ≡ at))

-- bytes are refused at one place at most
abbrev pub IsToldOnce : Type 0
IsToldOnce = (width : Width) (n : ℕ) (bytes : List ℕ) (a b : ℕ) → IsTold width n bytes a → IsTold width n bytes b → a ≡ b
