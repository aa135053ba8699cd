use Rattle.std.proofs.Common.{subst}
use Rattle.kt_dms.specs.Walks.{Releasing}
use Rattle.kt_dms.proofs.Releasing.{here, value_there, key_there, less_used, tree_stands, release_step}
use Rattle.kt_dms.proofs.rows.release.Goals as goal

pub key_at-key-requires : goal.key_at-key-requires
key_at-key-requires c =
    let r = subst (Releasing c.args.tree.now c.args.pool.now c.changes.pool) c.in-Some.is c.changes.invariant in
    key_there c.args.tree.now c.args.pool.now c.changes.pool c.requires c.in-Some.pair (here c.args.tree.now c.args.pool.now c.changes.pool c.in-Some.pair r)

pub give_back-requires : goal.give_back-requires
give_back-requires c =
    let r = subst (Releasing c.args.tree.now c.args.pool.now c.changes.pool) c.in-Some.is c.changes.invariant in
    value_there c.args.tree.now c.args.pool.now c.changes.pool c.requires c.in-Some.pair (here c.args.tree.now c.args.pool.now c.changes.pool c.in-Some.pair r)

pub after-next-requires-in-Some : goal.after-next-requires-in-Some
after-next-requires-in-Some c =
    let r = subst (Releasing c.args.tree.now c.args.pool.now c.changes.pool) c.in-Some.is c.changes.invariant in
    tree_stands c.args.tree.now c.args.pool.now c.changes.pool c.requires c.in-Some.pair (here c.args.tree.now c.args.pool.now c.changes.pool c.in-Some.pair r) c.give_back.new.self c.give_back.ensures

pub changes-smaller : goal.changes-smaller
changes-smaller c =
    let r = subst (Releasing c.args.tree.now c.args.pool.now c.changes.pool) c.in-Some.is c.changes.invariant in
    less_used c.args.tree.now c.args.pool.now c.changes.pool c.requires c.in-Some.pair (here c.args.tree.now c.args.pool.now c.changes.pool c.in-Some.pair r) c.give_back.new.self c.give_back.ensures

pub changes-preserved : goal.changes-preserved
changes-preserved c =
    let r = subst (Releasing c.args.tree.now c.args.pool.now c.changes.pool) c.in-Some.is c.changes.invariant in
    release_step c.args.tree.now c.args.pool.now c.changes.pool c.requires c.in-Some.pair (here c.args.tree.now c.args.pool.now c.changes.pool c.in-Some.pair r) c.give_back.new.self c.give_back.ensures
    c.key_at-key.result c.key_at-key.ensures c.after-next-in-Some.result c.after-next-in-Some.ensures.pair
