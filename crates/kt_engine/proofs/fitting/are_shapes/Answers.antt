use Rattle.std.proofs.Common.{◌+◌, ◌≤◌, ℕ, drop, false, get_or, sym, subst, arith}
use Rattle.kt_base.specs.declared.cell.Kind.TheVariants as kinds
use Rattle.kt_baseset.specs.declared.schema.ColumnShape.{ColumnShape}
use Rattle.kt_merge.proofs.FitFiles.{itself_at}
use Rattle.kt_engine.proofs.TableCells.{RiseFit, shapes_on, shapes_over}
use Rattle.kt_engine.proofs.fitting.are_shapes.Goals as goal

abbrev none : ColumnShape
none = record { id = 0; kind = kinds.Bool; nullable = false }

pub columns-preserved : goal.columns-preserved
columns-preserved c =
    let columns = c.args.columns.now in
    let i = c.columns.column-index in
    let same = c.wide-id.ensures.same in
    subst (λ (n : ℕ). RiseFit (n + 1) (drop (i + 1) columns) → RiseFit 0 columns) (sym same)
    (shapes_on columns i c.columns.least (get_or columns i none) (RiseFit 0 columns) c.columns-test.true (itself_at columns i none c.columns-test.true)
    (subst (λ (n : ℕ). c.columns.least ≤ n) same c.if-id-least.false) c.wide-id.ensures.range c.columns.invariant)

pub returns : goal.returns
returns c = shapes_over c.args.columns.now c.columns.column-index c.columns.least c.columns-test.false (omega arith) c.columns.invariant
