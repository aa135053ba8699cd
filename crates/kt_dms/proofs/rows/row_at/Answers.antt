use Rattle.std.proofs.Common.{◌∙◌, ◌≡◌, ap, sym}
use Rattle.kt_history.specs.Stores.{Steps, after_steps}
use Rattle.kt_tree.specs.Trees.{entries}
use Rattle.kt_dms.specs.Walks.{placed_for, steps_at_places}
use Rattle.kt_dms.proofs.OneRow.{next_spells, next_fewer, row_next, row_breaks, row_done, row_starts, none_of, steps_placed}
use Rattle.kt_dms.proofs.rows.row_at.Goals as goal
use Rattle.kt_dms.proofs.rows.row_at.Goals.{in-Some+then-placed-t, in_default}

pub changes-init : goal.changes-init
changes-init c = row_starts c.args.pool.now c.args.t (placed_for c.args.ordinal (entries c.args.tree.now c.args.pool.now)) c.args.base

pub advance-requires : goal.advance-requires
advance-requires c = next_spells c.args.tree.now c.args.pool.now c.args.ordinal c.requires c.changes.after c.in-Some.placed c.in-Some.ensures

pub changes-smaller : goal.changes-smaller
changes-smaller c = next_fewer c.args.tree.now c.args.pool.now c.args.ordinal c.requires c.changes.after c.in-Some.placed c.in-Some.ensures

pub changes-preserved : goal.changes-preserved
changes-preserved c =
    row_next c.args.tree.now c.args.pool.now c.args.ordinal c.requires c.changes.after c.in-Some.placed c.in-Some.ensures c.args.t c.changes.row
    (after_steps c.args.t (steps_at_places c.args.pool.now (placed_for c.args.ordinal (entries c.args.tree.now c.args.pool.now))) c.args.base) c.changes.invariant c.advance.new.row c.if-placed-t.false c.in_ok-advance.ensures

pub returns : goal.returns
returns c =
    let es = entries c.args.tree.now c.args.pool.now in
    let whole = after_steps c.args.t (steps_at_places c.args.pool.now (placed_for c.args.ordinal es)) c.args.base in
    let so : c.changes.row ≡ whole = elim c.match-next_of.branch [
      | in-Some+then-placed-t w ↦ row_breaks c.args.tree.now c.args.pool.now c.args.ordinal c.requires c.changes.after w.in-Some.placed w.in-Some.ensures c.args.t c.changes.row whole c.changes.invariant w.if-placed-t.true
      | in_default w ↦ row_done c.args.tree.now c.args.pool.now c.args.ordinal c.requires c.changes.after (sym c.next_of.ensures ∙ none_of c.next_of.result w.in_default.not-Some) c.args.t c.changes.row whole c.changes.invariant
    ] in
    so ∙ ap (λ (steps : Steps). after_steps c.args.t steps c.args.base) (sym (steps_placed c.args.pool.now c.args.ordinal es))
