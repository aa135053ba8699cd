use Rattle.std.proofs.Common.{ap}
use Rattle.kt_column.proofs.Contents.{make}
use Rattle.kt_column.proofs.Weaving.{made_of, held_of}
use Rattle.kt_column.proofs.block.Block.build.Goals as goal

pub invariant_of-result : goal.invariant_of-result
invariant_of-result c = (held_of c.args.form c.args.cells.now c.in_ok-nulls.nulls c.in-Ok.value c.requires c.in_ok-nulls.ensures c.in-Ok.ensures, tt)

pub returns : goal.returns
returns c = ap (make c.args.form) (made_of c.args.form c.args.cells.now c.in_ok-nulls.nulls c.in-Ok.value c.requires c.in_ok-nulls.ensures c.in-Ok.ensures)
