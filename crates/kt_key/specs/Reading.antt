-- What some bytes are the spelling of.
use Rattle.std.specs.Prelude.{◌≡◌, ℕ, true, ◌==◌, List, [], ◌∷◌, Option, Some, None, if◌then◌else◌}
use Rattle.kt_base.specs.declared.cell.Kind.{Kind}
use Rattle.kt_base.specs.declared.cell.Cell.{Cell}
use Rattle.kt_key.specs.Fit.{is_key}
use Rattle.kt_key.specs.Spelling.{spelling}

-- the bytes are the one spelling of the key's cells
pub record Spells (kinds : List Kind) (cells : List Cell) (bytes : List ℕ) : Type 0 where
  pub key : is_key kinds cells ≡ true
  pub spelled : spelling kinds cells ≡ bytes

-- the cells that the bytes spell, or none where no cells do
abbrev pub IsRead : List Kind → List ℕ → Option (List Cell) → Type 0
IsRead kinds bytes None = (cells : List Cell) → ¬ Spells kinds cells bytes
IsRead kinds bytes (Some cells) = Spells kinds cells bytes

-- an escaped text at the front of some bytes, and the bytes behind its end
abbrev pub with_byte : ℕ → Option (List ℕ × List ℕ) → Option (List ℕ × List ℕ)
with_byte b None = None
with_byte b (Some p) = Some (b ∷ p.0, p.1)

abbrev pub read_text : List ℕ → Option (List ℕ × List ℕ)
read_text [] = None
read_text (b ∷ []) = None
read_text (b ∷ c ∷ bytes) = if b == 0 then (if c == 0 then Some ([], bytes) else (if c == 1 then with_byte 0 (read_text bytes) else None)) else with_byte b (read_text (c ∷ bytes))
