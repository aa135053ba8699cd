-- The words of the checker's command line.
use Rattle.std.specs.Prelude.{ℕ, List, [], ◌∷◌, take, drop, Option, Some, None, if◌then◌else◌, codes}
use Rattle.kt_base.specs.Literals.{same}
use Rattle.kt_words.specs.Numbers.{number_said}

-- a pool has 1,024 to 4,194,304 cells
abbrev pub cells_said : List ℕ → Option ℕ
cells_said digits = number_said 1024 4194304 digits

-- `--pool CELLS` or `--pool=CELLS`, or nothing
abbrev pub pool_said : List (List ℕ) → Option ℕ
pool_said [] = Some 262144
pool_said (word ∷ []) = if same (take 7 word) (codes "--pool=") then cells_said (drop 7 word) else None
pool_said (word ∷ cells ∷ []) = if same word (codes "--pool") then cells_said cells else None
pool_said _ = None

-- the cells of the pool, where the words are in the form
abbrev pub pool_in : List (List ℕ) → Option ℕ
pool_in [] = None
pool_in (word ∷ more) = if same word (codes "check") then pool_said more else None
