use Rattle.std.proofs.Common.{refl, Option, subst, List, ◌++◌, ap, ◌∙◌}
use Rattle.kt_history.specs.declared.changes.KeyChange.{KeyChange}
use Rattle.kt_memrowset.specs.Links.{chain, steps_of}
use Rattle.kt_memrowset.specs.Times.{changes_of}
use Rattle.kt_pool.specs.Contents.{bytes_at}
use Rattle.kt_tree.specs.InOrder.{IsFirst, to_come}
use Rattle.kt_tree.specs.declared.tree.Pair.{Pair}
use Rattle.kt_memrowset.proofs.Listing.{walk_alone, walk_next}
use Rattle.kt_memrowset.proofs.store.MemRowSet.list.Goals as goal

pub push_row-requires-clause-row : goal.push_row-requires-clause-row
push_row-requires-clause-row c = walk_alone c.args.self.now c.args.pool.now c.requires c.args.times c.rows.at c.in-Some.pair c.rows.walk c.next.new.self (subst (λ (p : Option Pair). IsFirst c.args.pool.now p (to_come c.rows.walk c.args.pool.now) (to_come c.next.new.self c.args.pool.now)) c.in-Some.is c.in-Ok.ensures.first) c.rows.list c.rows.invariant

pub rows-preserved : goal.rows-preserved
rows-preserved c = walk_next c.args.self.now c.args.pool.now c.requires c.args.times c.rows.at c.in-Some.pair c.rows.walk c.next.new.self (subst (λ (p : Option Pair). IsFirst c.args.pool.now p (to_come c.rows.walk c.args.pool.now) (to_come c.next.new.self c.args.pool.now)) c.in-Some.is c.in-Ok.ensures.first) c.rows.list c.rows.invariant c.in-Ok.ensures.walk (bytes_at c.args.pool.now c.in-Some.pair.key.cell) refl c.push_row.new.list
    (c.in_ok-push_row.ensures ∙ ap (λ (xs : List KeyChange). xs ++ changes_of c.args.times (bytes_at c.args.pool.now c.in-Some.pair.key.cell) (steps_of (chain c.args.pool.now c.in-Some.pair.value.cell))) c.room_for_rest.ensures)
