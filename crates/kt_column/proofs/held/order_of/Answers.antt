use Rattle.std.proofs.Common.{◌≡◌, get_or, subst}
use Rattle.kt_base.specs.declared.cell.Cell.TheVariants.{Null, Bytes}
use Rattle.kt_column.specs.Forms.{width}
use Rattle.kt_column.specs.Blocks.{value_cells}
use Rattle.kt_column.specs.Held.{items_of}
use Rattle.kt_column.proofs.HeldValues.{no_text}
use Rattle.kt_column.proofs.held.order_of.Goals as goal

pub returns-in-Runs : goal.returns-in-Runs
returns-in-Runs c = λ bytes e. absurd (no_text (width c.args.form) c.in-Runs.field-0 c.args.i bytes (subst (λ v. get_or (value_cells (width c.args.form) (items_of v)) c.args.i Null ≡ Bytes bytes) c.in-Runs.is e))
