use Rattle.std.proofs.Common.{length}
use Rattle.kt_column.proofs.nulls.+bits_value.Given as goal

abbrev pub decreases-bits_value : goal.decreases-bits_value
decreases-bits_value l = length l.slots.now
