use Rattle.std.proofs.Common.{◌-◌, length}
use Rattle.kt_column.specs.declared.form.Form.TheVariants.{Keys}
use Rattle.kt_column.specs.Keys.{AreRising}
use Rattle.kt_column.proofs.Progress.{Progress}
use Rattle.kt_column.proofs.rising.decode_rising.Given as goal

abbrev pub invariant-parts : goal.invariant-parts
invariant-parts l = record {
  read : Progress Keys l.rows l.bytes l.column l.used;
  rise : AreRising l.column.cells;
}

abbrev pub decreases-parts : goal.decreases-parts
decreases-parts l = l.rows - length l.column.cells
