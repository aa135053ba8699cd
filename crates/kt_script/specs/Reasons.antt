-- The reasons for which a line is refused are numbered. The least one that holds is told.
use Rattle.std.specs.Prelude.{◌≡◌, ◌<◌, ℕ, Bool, true, false, List, Option, Some, None, if◌then◌else◌, Result, Ok, Err}
use Rattle.kt_base.specs.declared.cell.Kind.{Kind}
use Rattle.kt_base.specs.declared.cell.Kind.TheVariants as kind
use Rattle.kt_base.specs.declared.cell.Cell.{Cell}
use Rattle.kt_base.specs.declared.cell.Cell.TheVariants as cell
use Rattle.kt_base.specs.declared.literal.LiteralNo.{LiteralNo}
use Rattle.kt_base.specs.declared.literal.LiteralNo.TheVariants as no
use Rattle.kt_base.specs.Literals.{cell_in}
use Rattle.kt_schema.specs.declared.column.Column.{Column}
use Rattle.kt_script.specs.declared.columns.LineNo.{LineNo}
use Rattle.kt_script.specs.declared.columns.LineNo.TheVariants as line

-- No reason holds: more than each reason, which is a byte.
abbrev pub sound : ℕ
sound = 256

-- the least reason, or that none holds
abbrev pub no_of : Option ℕ → ℕ
no_of None = sound
no_of (Some reason) = reason

-- what is read where no reason holds, or the least reason
abbrev pub Reads : {A : Type 0} → ℕ → A → Result A LineNo → Type 0
Reads least value (Ok a) = (least ≡ sound) × (a ≡ value)
Reads least value (Err (line.Reason r)) = (least ≡ r) × (r < sound)
Reads least value (Err line.Memory) = Unit {0}

abbrev pub reason_if : Bool → ℕ → ℕ
reason_if test reason = if test then reason else sound

-- the cell that was read, or null
abbrev pub cell_or_null : Result Cell LiteralNo → Cell
cell_or_null (Ok c) = c
cell_or_null (Err e) = cell.Null

abbrev pub cell_value : Kind → List ℕ → Cell
cell_value kind text = cell_or_null (cell_in kind text)

-- why a text gives no cell of a column
abbrev pub cell_reason : Bool → Result Cell LiteralNo → ℕ
cell_reason nullable (Ok c) = sound
cell_reason nullable (Err no.Form) = 12
cell_reason nullable (Err no.Kind) = 14
cell_reason true (Err no.Null) = sound
cell_reason false (Err no.Null) = 15
cell_reason nullable (Err no.Long) = 16
cell_reason nullable (Err no.Memory) = sound

abbrev pub cell_no : Column → List ℕ → ℕ
cell_no column text = cell_reason column.nullable (cell_in column.kind text)

-- why a text is no literal of any kind
abbrev pub form_reason : Result Cell LiteralNo → ℕ
form_reason (Err no.Form) = 12
form_reason read = sound

abbrev pub form_no : List ℕ → ℕ
form_no text = form_reason (cell_in kind.Bool text)
