-- What stands at the front of the bytes of a key.
use Rattle.std.specs.Prelude.{◌≡◌, ℕ, ◌≤◌, List, [], ◌∷◌, length, drop}
use Rattle.kt_base.specs.declared.cell.Kind.{Kind}
use Rattle.kt_base.specs.Keys.{unescaped, after_text, first_cell, after_first}
use Rattle.kt_scan.specs.declared.key_cells.Mark.{Mark}
use Rattle.kt_scan.specs.declared.key_cells.Mark.TheVariants as mark
use Rattle.kt_scan.specs.declared.key_cells.Text.{Text}
use Rattle.kt_scan.specs.declared.key_cells.Taken.{Taken}

-- the text before its end, and the bytes behind that
abbrev pub text_and_rest : List ℕ → List ℕ × List ℕ
text_and_rest bytes = (unescaped bytes, after_text bytes)

abbrev pub IsTextAt : List ℕ → Text → Type 0
IsTextAt bytes read = (text_and_rest bytes ≡ (read.text, drop read.len bytes)) × (read.len ≤ length bytes)

-- what stands behind the zero byte at which the bytes begin
abbrev pub IsMark : List ℕ → Mark → Type 0
IsMark bytes mark.End = (2 ≤ length bytes) × (text_and_rest bytes ≡ ([], drop 2 bytes))
IsMark bytes mark.Zero = (2 ≤ length bytes) × (text_and_rest bytes ≡ (0 ∷ unescaped (drop 2 bytes), after_text (drop 2 bytes)))
IsMark bytes mark.Short = text_and_rest bytes ≡ ([], [])

-- a key cell that has others behind it
abbrev pub IsFirst : Kind → List ℕ → Taken → Type 0
IsFirst kind bytes read = (read.cell ≡ first_cell kind bytes) × (drop read.len bytes ≡ after_first kind bytes) × (read.len ≤ length bytes)
