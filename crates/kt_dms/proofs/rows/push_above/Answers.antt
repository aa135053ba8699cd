use Rattle.std.proofs.Common.{◌∙◌, ◌++◌, Some, List, ap, sym}
use Rattle.kt_history.specs.declared.changes.KeyChange.{KeyChange}
use Rattle.kt_dms.proofs.OneRow.{next_spells, next_fewer, none_of}
use Rattle.kt_dms.proofs.Missed.{under_key, above_next, above_done, all_above}
use Rattle.kt_dms.proofs.rows.push_above.Goals as goal

pub push_at-requires : goal.push_at-requires
push_at-requires c = next_spells c.args.tree.now c.args.pool.now c.args.ordinal c.requires c.changes.after c.in-Some.placed c.in-Some.ensures

pub changes-smaller : goal.changes-smaller
changes-smaller c = next_fewer c.args.tree.now c.args.pool.now c.args.ordinal c.requires c.changes.after c.in-Some.placed c.in-Some.ensures

pub changes-preserved : goal.changes-preserved
changes-preserved c =
    above_next c.args.tree.now c.args.pool.now c.args.ordinal c.args.key.now c.requires c.changes.after c.changes.list (c.args.list.now ++ under_key c.args.tree.now c.args.pool.now c.args.ordinal c.args.key.now (Some c.args.above)) c.changes.invariant c.in-Some.placed c.in-Some.ensures c.push_at.new.list c.in_ok-push_at.ensures

pub returns : goal.returns
returns c =
    above_done c.args.tree.now c.args.pool.now c.args.ordinal c.args.key.now c.requires c.changes.after c.changes.list (c.args.list.now ++ under_key c.args.tree.now c.args.pool.now c.args.ordinal c.args.key.now (Some c.args.above)) c.changes.invariant (sym c.next_of.ensures ∙ none_of c.next_of.result c.in_default.not-Some)
    ∙ ap (λ (more : List KeyChange). c.args.list.now ++ more) (all_above c.args.tree.now c.args.pool.now c.args.ordinal c.args.key.now c.requires c.args.above)
