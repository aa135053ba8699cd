use Rattle.std.proofs.Common.{Option, subst}
use Rattle.kt_tree.specs.InOrder.{IsFirst, to_come}
use Rattle.kt_tree.specs.declared.tree.Pair.{Pair}
use Rattle.kt_dms.proofs.Listing.{entry_stands, walk_next}
use Rattle.kt_dms.proofs.store.DeltaMem.list_changes.Goals as goal

pub push_change-requires-clause-key : goal.push_change-requires-clause-key
push_change-requires-clause-key c = (entry_stands c.args.self.now.tree c.args.pool.now c.requires c.args.upto c.changes.counter c.in-Some.pair c.changes.walk c.next.new.self (subst (λ (p : Option Pair). IsFirst c.args.pool.now p (to_come c.changes.walk c.args.pool.now) (to_come c.next.new.self c.args.pool.now)) c.in-Some.is c.in-Ok.ensures.first) c.args.list.now.items c.changes.list.items c.changes.invariant).key

pub push_change-requires-clause-change : goal.push_change-requires-clause-change
push_change-requires-clause-change c = (entry_stands c.args.self.now.tree c.args.pool.now c.requires c.args.upto c.changes.counter c.in-Some.pair c.changes.walk c.next.new.self (subst (λ (p : Option Pair). IsFirst c.args.pool.now p (to_come c.changes.walk c.args.pool.now) (to_come c.next.new.self c.args.pool.now)) c.in-Some.is c.in-Ok.ensures.first) c.args.list.now.items c.changes.list.items c.changes.invariant).change

pub changes-preserved : goal.changes-preserved
changes-preserved c = walk_next c.args.self.now.tree c.args.pool.now c.requires c.args.upto c.changes.counter c.in-Some.pair c.changes.walk c.next.new.self (subst (λ (p : Option Pair). IsFirst c.args.pool.now p (to_come c.changes.walk c.args.pool.now) (to_come c.next.new.self c.args.pool.now)) c.in-Some.is c.in-Ok.ensures.first) c.args.list.now.items c.changes.list.items c.changes.invariant c.in-Ok.ensures.walk c.push_change.new.list.items c.in_ok-push_change.ensures
