-- A source: a script, an opening and an output, one behind the other.
use Rattle.std.specs.Prelude.{ℕ, Bool, List, [], ◌∷◌, ◌+◌, take, drop, length, if◌then◌else◌, codes}
use Rattle.kt_base.specs.Literals.{same}
use Rattle.kt_script.specs.Pieces.{cut}

-- a line that begins an opening. No line of a script does
abbrev pub begins_opening : List ℕ → Bool
begins_opening line = same (take 8 line) (codes "opening ")

-- how many bytes stand before the first of these lines that begins an opening, or all where none does
abbrev pub len_before : List (List ℕ) → ℕ
len_before [] = 0
len_before (rest ∷ []) = if begins_opening rest then 0 else length rest
len_before (line ∷ more ∷ pieces) = if begins_opening line then 0 else length line + 1 + len_before (more ∷ pieces)

abbrev pub script_len : List ℕ → ℕ
script_len text = len_before (cut 10 text)

abbrev pub script_part : List ℕ → List ℕ
script_part text = take (script_len text) text

-- what stands behind the script
abbrev pub rest_part : List ℕ → List ℕ
rest_part text = drop (script_len text) text
