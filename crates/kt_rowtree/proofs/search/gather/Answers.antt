use Rattle.kt_rowtree.proofs.Deep.{held}
use Rattle.kt_rowtree.proofs.search.gather.Goals as goal

pub returns-clause-holders : goal.returns-clause-holders
returns-clause-holders c = held c.args.key.now c.args.ranges.now c.collect.new.out.items c.sort_unstable.new.self.items c.collect.ensures.ids c.sort_unstable.ensures.permutation c.sort_unstable.ensures.sorted
