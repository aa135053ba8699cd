use Rattle.std.proofs.Common.{sym, subst}
use Rattle.kt_column.specs.Blocks.{values_in}
use Rattle.kt_column.specs.Values.{IsShortest}
use Rattle.kt_column.specs.Held.{items_of, cells_of}
use Rattle.kt_column.proofs.HeldValues.{chosen}
use Rattle.kt_column.proofs.decoding.block_of.Goals as goal

pub as_block-requires-clause-chosen : goal.as_block-requires-clause-chosen
as_block-requires-clause-chosen c =
    let form = c.args.form in
    let v = c.args.read.values in
    let bytes = c.requires.stands.0 in
    let p : IsShortest form (values_in form (cells_of form c.args.read.nulls v)) c.args.encoding bytes = c.in-Ok.ensures.yes bytes c.requires.stands.1 in
    chosen form v bytes (subst (λ e. IsShortest form (items_of v) e bytes) (sym c.requires.own) (subst (λ items. IsShortest form items c.args.encoding bytes) (sym c.requires.held.2) p))
