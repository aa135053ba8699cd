use Rattle.std.proofs.Common.{◌≡◌, List, sym, ap, ◌∙◌, subst}
use Rattle.kt_column.specs.Blocks.{BlockValue, SpellsBlock}
use Rattle.kt_column.specs.Columns.{ColumnValue, AreParts, cells_in}
use Rattle.kt_column.proofs.Columns.{spelled_more, spelled_all}
use Rattle.kt_column.proofs.Places.{make_column}
use Rattle.kt_column.proofs.column.ColumnData.spell.Goals as goal

pub loop-block-init : goal.loop-block-init
loop-block-init c = c.new-out.ensures.items

pub loop-block-preserved : goal.loop-block-preserved
loop-block-preserved c =
    let form-is : c.self.inside.form ≡ c.args.self.now.form = ap (λ (v : ColumnValue). v.form) c.self.view_is in
    let parts : AreParts c.args.self.now.form c.deref-block-items.result.now = subst (λ f. AreParts f c.deref-block-items.result.now) form-is (subst (λ (bs : List BlockValue). AreParts c.self.inside.form bs) (sym c.deref-block-items.ensures.value) c.self.invariant.0) in
    spelled_more c.args.self.now.form c.deref-block-items.result.now c.loop-block.block-index c.block-item.result c.loop-block.out.items c.as_slice.result.now c.extend_from_slice.new.self.items parts c.loop-block-test.true c.block-item.is c.loop-block.invariant
    (subst (λ l. SpellsBlock c.block-item.result.form c.block-item.result.cells l) (sym c.as_slice.ensures) c.in-Ok.ensures) c.in_ok-extend_from_slice.ensures.items

pub returns : goal.returns
returns c =
    let form-is : c.self.inside.form ≡ c.args.self.now.form = ap (λ (v : ColumnValue). v.form) c.self.view_is in
    let view : make_column c.args.self.now.form (cells_in c.deref-block-items.result.now) ≡ c.args.self.now = ap (λ (bs : List BlockValue). make_column c.args.self.now.form (cells_in bs)) c.deref-block-items.ensures.value ∙ ap (λ f. make_column f (cells_in c.self.inside.blocks.items)) (sym form-is) ∙ c.self.view_is in
    spelled_all c.args.self.now.form c.deref-block-items.result.now c.loop-block.block-index c.args.self.now c.loop-block.out.items c.of.result c.loop-block-test.false view c.loop-block.invariant c.of.ensures
