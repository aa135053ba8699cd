use Rattle.std.proofs.Common.{◌∙◌, sym}
use Rattle.kt_column.proofs.Weaving.{numbers_in_width}
use Rattle.kt_column.proofs.block.values_of.Goals as goal

pub of-requires : goal.of-requires
of-requires c = rw (c.deref.ensures.value, c.in-Ok-numbers_of.ensures) (numbers_in_width c.args.form c.in-Numbers.width c.args.cells.now (sym c.width.ensures ∙ c.in-Numbers.is) c.requires)
