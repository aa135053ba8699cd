-- The lines of a text.
use Rattle.std.specs.Prelude.{◌≡◌, ◌≤◌, ℕ, ◌+◌, List, [], ◌∷◌, length, drop, Option, Some, None}
use Rattle.std.proofs.Common.{Bor}
use Rattle.kt_script.specs.Pieces.{cut}

-- the line that begins at a place, or none where it has no newline
abbrev pub IsLineFrom : List ℕ → ℕ → Option (Bor (List ℕ)) → Type 0
IsLineFrom text at None = cut 10 (drop at text) ≡ drop at text ∷ []
IsLineFrom text at (Some l) = (cut 10 (drop at text) ≡ l.now ∷ cut 10 (drop (at + length l.now + 1) text)) × (at + length l.now + 1 ≤ length text)
