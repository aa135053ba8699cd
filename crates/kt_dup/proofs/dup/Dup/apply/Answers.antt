use Rattle.kt_history.specs.Stores.{change_of}
use Rattle.kt_dup.proofs.Pair.{of_row, splits_keep}
use Rattle.kt_dup.proofs.dup.Dup.apply.Goals as goal

pub returns-clause-split : goal.returns-clause-split
returns-clause-split g c = λ j missed le s.
    splits_keep j c.args.self.now.bound c.args.ts c.args.op.now.key (change_of c.args.change c.args.op.now.cells) missed
    (g.I.RowStore.store c.args.self.now.input c.args.pool.now) (g.O.RowStore.store c.args.self.now.output c.args.pool.now)
    (g.I.RowStore.store c.apply_to_both.new.input c.apply_to_both.new.pool) (g.O.RowStore.store c.apply_to_both.new.output c.apply_to_both.new.pool)
    le c.requires.above (of_row c.args.change c.args.op.now.cells c.requires.no_insert) c.requires.above_input c.requires.fits_input
    c.apply_to_both.ensures.input.has c.apply_to_both.ensures.output.has s
