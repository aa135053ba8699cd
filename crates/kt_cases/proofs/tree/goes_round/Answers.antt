use Rattle.kt_cases.proofs.tree.goes_round.Goals as goal

pub put_all-requires : goal.put_all-requires
put_all-requires g c = c.new-tree.ensures.tree c.args.pool.now
