use Rattle.std.proofs.Common.{◌≡◌, List, sym, ap, ◌∙◌, subst}
use Rattle.kt_plain.specs.declared.widths.Width.TheVariants as widths
use Rattle.kt_column.specs.Blocks.{BlockValue}
use Rattle.kt_column.specs.Columns.{ColumnValue, AreParts, cells_in}
use Rattle.kt_column.proofs.Places.{make_column}
use Rattle.kt_column.proofs.TextsIn.{width_of, more_texts, all_texts}
use Rattle.kt_column.proofs.column.ColumnData.push_texts.Goals as goal

pub push_texts-requires : goal.push_texts-requires
push_texts-requires c =
    let form-is : c.self.inside.form ≡ c.args.self.now.form = ap (λ (v : ColumnValue). v.form) c.self.view_is in
    let parts : AreParts c.args.self.now.form c.deref-block-items.result.now = subst (λ f. AreParts f c.deref-block-items.result.now) form-is (subst (λ (bs : List BlockValue). AreParts c.self.inside.form bs) (sym c.deref-block-items.ensures.value) c.self.invariant.0) in
    width_of c.args.self.now.form c.deref-block-items.result.now c.loop-block.block-index c.block-item.result widths.Bytes parts c.loop-block-test.true c.block-item.is c.requires

pub loop-block-preserved : goal.loop-block-preserved
loop-block-preserved c =
    more_texts c.args.out.now c.loop-block.out c.push_texts.new.out c.deref-block-items.result.now c.loop-block.block-index c.block-item.result c.loop-block-test.true c.block-item.is c.loop-block.invariant c.in_ok-push_texts.ensures

pub returns : goal.returns
returns c =
    let form-is : c.self.inside.form ≡ c.args.self.now.form = ap (λ (v : ColumnValue). v.form) c.self.view_is in
    let view : make_column c.args.self.now.form (cells_in c.deref-block-items.result.now) ≡ c.args.self.now = ap (λ (bs : List BlockValue). make_column c.args.self.now.form (cells_in bs)) c.deref-block-items.ensures.value ∙ ap (λ f. make_column f (cells_in c.self.inside.blocks.items)) (sym form-is) ∙ c.self.view_is in
    all_texts c.args.self.now.form c.deref-block-items.result.now c.loop-block.block-index c.args.self.now c.args.out.now c.loop-block.out c.loop-block-test.false view c.loop-block.invariant
