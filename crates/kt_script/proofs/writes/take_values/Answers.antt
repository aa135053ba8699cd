use Rattle.std.proofs.Common.{◌<◌, ◌^◌, List, length, sym, subst}
use Rattle.kt_schema.specs.declared.column.Column.{Column}
use Rattle.kt_script.proofs.OpSpelled.{few_others}
use Rattle.kt_script.proofs.writes.take_values.Goals as goal

pub put_others-requires : goal.put_others-requires
put_others-requires c = subst (λ (cs : List Column). length cs < 2 ^ 16) (sym c.other_columns.ensures) (few_others c.args.schema.now c.requires)
