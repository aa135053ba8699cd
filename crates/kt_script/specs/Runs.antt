-- Runs of bytes inside a word.
use Rattle.std.specs.Prelude.{◌≡◌, ℕ, false}
use Rattle.kt_script.specs.declared.word.Side.{Side}
use Rattle.kt_script.specs.Pieces.{side_after, ends_word}

-- the byte neither ends a word nor changes where the next one stands
abbrev pub Quiet : Side → ℕ → Type 0
Quiet side b = (ends_word side b ≡ false) × (side_after side b ≡ side)
