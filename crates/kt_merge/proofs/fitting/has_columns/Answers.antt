use Rattle.std.proofs.Common.{◌<◌, false, length, get_or, arith}
use Rattle.std.proofs.lemmas.Bool.{OnTrue_at, OnFalse_at}
use Rattle.kt_base.specs.declared.cell.Kind.TheVariants as kinds
use Rattle.kt_baseset.specs.declared.schema.ColumnShape.{ColumnShape}
use Rattle.kt_baseset.specs.Rows.{RowFits}
use Rattle.kt_merge.proofs.FitFiles.{itself_at, same_count, columns_on, columns_back, columns_stop, columns_over}
use Rattle.kt_merge.proofs.fitting.has_columns.Goals as goal

abbrev none : ColumnShape
none = record { id = 0; kind = kinds.Bool; nullable = false }

pub returns-then-columns-row-clause-no : goal.returns-then-columns-row-clause-no
returns-then-columns-row-clause-no c = λ all. let same = same_count c.args.columns.now c.args.row.now all in omega (arith, same)

pub returns-then-not-stands_under-clause-no : goal.returns-then-not-stands_under-clause-no
returns-then-not-stands_under-clause-no c =
    let low : c.columns.at < length c.args.columns.now = omega arith in
    columns_stop c.args.columns.now c.args.row.now c.columns.at (get_or c.args.columns.now c.columns.at none) c.index-row-at.result low (omega arith) (itself_at c.args.columns.now c.columns.at none low) c.index-row-at.is (RowFits c.args.columns.now c.args.row.now)
    c.columns.invariant.back (OnFalse_at c.if-not-stands_under.true c.stands_under.ensures.no)

pub columns-preserved : goal.columns-preserved
columns-preserved c =
    let low : c.columns.at < length c.args.columns.now = omega arith in
    let x = get_or c.args.columns.now c.columns.at none in
    let is = itself_at c.args.columns.now c.columns.at none low in
    record {
      on = columns_on c.args.columns.now c.args.row.now c.columns.at x c.index-row-at.result low (omega arith) is c.index-row-at.is (RowFits c.args.columns.now c.args.row.now) (OnTrue_at c.if-not-stands_under.false c.stands_under.ensures.yes) c.columns.invariant.on;
      back = columns_back c.args.columns.now c.args.row.now c.columns.at x c.index-row-at.result low (omega arith) is c.index-row-at.is (RowFits c.args.columns.now c.args.row.now) c.columns.invariant.back;
    }

pub returns-clause-yes : goal.returns-clause-yes
returns-clause-yes c = columns_over c.args.columns.now c.args.row.now c.columns.at (RowFits c.args.columns.now c.args.row.now) (omega arith) (omega arith) c.columns.invariant.on
