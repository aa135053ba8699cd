use Rattle.std.proofs.lemmas.List.Elements.{All-same}
use Rattle.kt_column.specs.declared.form.Form.TheVariants.{Keys}
use Rattle.kt_column.specs.Blocks.{IsCell}
use Rattle.kt_baseset.specs.Rows.{keys_in}
use Rattle.kt_baseset.specs.Tables.{key_cells}
use Rattle.kt_baseset.proofs.Spelled.{keys_may_stand}
use Rattle.kt_baseset.proofs.keys.column_of.Goals as goal

pub build_keys-requires-clause-each : goal.build_keys-requires-clause-each
build_keys-requires-clause-each c = All-same (IsCell Keys) c.in_ok-cells.cells (key_cells (keys_in c.args.rows.now)) c.in_ok-cells.ensures (keys_may_stand (keys_in c.args.rows.now) c.requires.short)
