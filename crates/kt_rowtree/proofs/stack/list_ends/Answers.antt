use Rattle.std.proofs.Common.{rules}
use Rattle.std.proofs.lemmas.Fn.{always_returns_same}
use Rattle.kt_rowtree.proofs.Counted.{ends_first, ends_weak, ends_are}
use Rattle.kt_rowtree.proofs.stack.list_ends.Goals as goal

pub returns-clause-ends : goal.returns-clause-ends
returns-clause-ends c =
    ends_are c.args.ranges.now c.list_places.new.places.items c.sort_unstable_by.new.self.items c.list_places.ensures.all c.sort_unstable_by.ensures.permutation
    (c.sort_unstable_by.ensures.sorted (ends_first c.args.ranges.now) (ends_weak c.args.ranges.now) (always_returns_same _ _ _ (λ a r f' k. (search rules, search rules))))
