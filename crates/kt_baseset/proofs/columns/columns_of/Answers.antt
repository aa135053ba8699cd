use Rattle.kt_baseset.proofs.Transposed.{have_places, cells_fit, columns_more, ids_more}
use Rattle.kt_baseset.proofs.columns.columns_of.Goals as goal

pub column_at-requires-clause-places : goal.column_at-requires-clause-places
column_at-requires-clause-places c = have_places c.args.schema.now c.args.rows.now c.columns.j c.requires.fit c.columns-test.true

pub column_at-requires-clause-fit : goal.column_at-requires-clause-fit
column_at-requires-clause-fit c = cells_fit c.args.schema.now c.args.rows.now c.columns.j _ c.requires.fit c.columns-test.true

pub columns-preserved : goal.columns-preserved
columns-preserved c = record {
  made = columns_more c.args.schema.now c.args.rows.now c.columns.j _ c.columns.columns.items c.in_ok-column_at.field-0 c.push.new.self.items c.columns-test.true c.columns.invariant.made c.in_ok-column_at.ensures.made c.in_ok-push.ensures.items;
  ids = ids_more c.args.schema.now c.columns.j _ c.columns-test.true c.columns.invariant.ids c.column_at.ensures.id;
}
