use Rattle.std.proofs.Common.{sym, ap, ◌∙◌, arith}
use Rattle.kt_schema.specs.Columns.{columns_no}
use Rattle.kt_super.proofs.ColumnLists.{columns_make}
use Rattle.kt_super.proofs.body.schema_of.Goals as goal

pub no_memory-requires : goal.no_memory-requires
no_memory-requires c =
    sym c.in-Err-new.ensures.refused
    ∙ (ap columns_no c.of.ensures ∙ columns_make c.args.next c.args.bytes.now (c.in-Ok.value.0.items, c.in-Ok.value.1.now) (omega (arith, c.ranges.next.fits)) (λ i. omega (arith, c.type_inv.bytes i)) c.in-Ok.ensures)
