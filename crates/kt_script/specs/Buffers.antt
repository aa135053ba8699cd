-- Operations in the buffers in which they are read.
use Rattle.std.specs.Prelude.{◌≡◌, ◌<◌, ◌^◌, ℕ, Bool, true, false, List, [], ◌∷◌, Result, Ok, Err, length}
use Rattle.kt_cells.specs.Spelling.{cell_list}
use Rattle.kt_cells.specs.Reading.{cells_behind}
use Rattle.kt_cells.specs.Spelled.{SpellsCells}
use Rattle.kt_history.specs.declared.command.Command.{Command}
use Rattle.kt_history.specs.declared.command.Command.TheVariants as command
use Rattle.kt_history.specs.declared.operation.RowOp.{RowOp}
use Rattle.kt_script.specs.declared.columns.LineNo.{LineNo}
use Rattle.kt_script.specs.declared.columns.LineNo.TheVariants as line
use Rattle.kt_script.specs.declared.writes.LineCommand.{LineCommand}
use Rattle.kt_script.specs.declared.writes.LineCommand.TheVariants.{Lone, Held}
use Rattle.kt_script.specs.declared.writes.SpelledOp.{SpelledOp}
use Rattle.kt_script.specs.Reasons.{sound}

-- the buffers spell an operation
pub record Spells (s : SpelledOp) (o : RowOp) : Type 0 where
  pub kind : s.kind ≡ o.kind
  pub key : s.key ≡ o.key
  pub cells : s.cells.added ≡ cell_list o.cells

-- they spell some operation
pub record HasSpelling (s : SpelledOp) : Type 0 where
  pub key : length s.key < 2 ^ 16
  pub cells : SpellsCells s.cells.added

-- the operation that is read from them
abbrev pub spelled_op : SpelledOp → RowOp
spelled_op s = record { kind = s.kind; key = s.key; cells = cells_behind s.cells.added }

-- the operations of a line: the one in the buffers where it is alone, and else those of the list
abbrev pub line_ops : SpelledOp → Bool → List RowOp
line_ops s true = spelled_op s ∷ []
line_ops s false = s.ops

abbrev pub IsLineRead : SpelledOp → Bool → Type 0
IsLineRead s true = HasSpelling s
IsLineRead s false = Unit {0}

-- the command of a line, of which a lone write is in the buffers
abbrev pub line_command : SpelledOp → LineCommand → Command
line_command s Lone = command.Write (record { ops = spelled_op s ∷ [] })
line_command s (Held c) = c

abbrev pub IsLine : SpelledOp → LineCommand → Type 0
IsLine s Lone = HasSpelling s
IsLine s (Held c) = Unit {0}

-- a line with this least reason and this command is read
abbrev pub ReadsLine : ℕ → Command → SpelledOp → Result LineCommand LineNo → Type 0
ReadsLine least c s (Ok l) = (least ≡ sound) × (line_command s l ≡ c) × IsLine s l
ReadsLine least c s (Err (line.Reason r)) = (least ≡ r) × (r < sound)
ReadsLine least c s (Err line.Memory) = Unit {0}
