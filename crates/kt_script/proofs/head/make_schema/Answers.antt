use Rattle.std.proofs.Common.{sym, ap, ◌∙◌}
use Rattle.kt_schema.specs.Columns.{columns_no}
use Rattle.kt_script.proofs.Tables.{table_schema}
use Rattle.kt_script.proofs.head.make_schema.Goals as goal

pub no_memory-requires : goal.no_memory-requires
no_memory-requires c = sym c.in-Err.ensures.refused ∙ (ap columns_no c.of.ensures ∙ table_schema c.args.columns.items c.requires.table c.requires.key)
