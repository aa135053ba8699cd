-- Cutting a text into lines, and a line into words.
use Rattle.std.specs.Prelude.{◌≡◌, ℕ, Bool, false, Option, Some, None, List, [], ◌∷◌, if◌then◌else◌, ◌==◌}
use Rattle.std.proofs.Common.{Bor}
use Rattle.std.specs.List.{onto_first}
use Rattle.kt_script.specs.declared.word.Side.{Side}
use Rattle.kt_script.specs.declared.word.Side.TheVariants.{Outside, Inside, Slashed}

-- the pieces between the bytes of a kind
abbrev pub cut : ℕ → List ℕ → List (List ℕ)
cut byte [] = [] ∷ []
cut byte (b ∷ bytes) = if b == byte then [] ∷ cut byte bytes else onto_first b (cut byte bytes)

abbrev pub side_after : Side → ℕ → Side
side_after Outside b = if b == 34 then Inside else Outside
side_after Inside b = if b == 34 then Outside else (if b == 92 then Slashed else Inside)
side_after Slashed b = Inside

-- a space that is not between quotes ends a word
abbrev pub ends_word : Side → ℕ → Bool
ends_word Outside b = b == 32
ends_word Inside b = false
ends_word Slashed b = false

abbrev pub words_from : Side → List ℕ → List (List ℕ)
words_from side [] = [] ∷ []
words_from side (b ∷ bytes) = if ends_word side b then [] ∷ words_from Outside bytes else onto_first b (words_from (side_after side b) bytes)

abbrev pub words_of : List ℕ → List (List ℕ)
words_of line = words_from Outside line

-- what a slice that may be there points to
abbrev pub text_now : Option (Bor (List ℕ)) → Option (List ℕ)
text_now None = None
text_now (Some text) = Some text.now

-- the words of what is left of a line
abbrev pub words_in : Option (Bor (List ℕ)) → List (List ℕ)
words_in None = []
words_in (Some rest) = words_of rest.now

-- a word and what is left behind it
abbrev pub IsCut : List (List ℕ) → List ℕ → Option (Bor (List ℕ)) → Type 0
IsCut words word rest = words ≡ word ∷ words_in rest
