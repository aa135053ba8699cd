use Rattle.std.proofs.Common.{◌∙◌, Option, ap, sym}
use Rattle.std.specs.Prelude.{is_some}
use Rattle.kt_history.specs.Rows.{Row, apply}
use Rattle.kt_history.specs.Stores.{Steps, apply_all}
use Rattle.kt_pool.specs.Contents.{bytes_at}
use Rattle.kt_tree.specs.Trees.{entries}
use Rattle.kt_dms.specs.Changes.{change_in}
use Rattle.kt_dms.specs.Walks.{placed_for, steps_at_places}
use Rattle.kt_dms.proofs.OneRow.{next_spells, next_fewer, live_next, live_done, live_starts, none_of, steps_placed}
use Rattle.kt_dms.proofs.rows.is_live.Goals as goal

pub changes-init : goal.changes-init
changes-init c = λ row e. (row, e, live_starts c.args.pool.now (placed_for c.args.ordinal (entries c.args.tree.now c.args.pool.now)) row)

pub stays-live-requires : goal.stays-live-requires
stays-live-requires c = next_spells c.args.tree.now c.args.pool.now c.args.ordinal c.requires c.changes.after c.in-Some.placed c.in-Some.ensures

pub changes-smaller : goal.changes-smaller
changes-smaller c = next_fewer c.args.tree.now c.args.pool.now c.args.ordinal c.requires c.changes.after c.in-Some.placed c.in-Some.ensures

pub changes-preserved : goal.changes-preserved
changes-preserved c = λ row e.
    let so_far = c.changes.invariant row e in (
      apply (change_in (bytes_at c.args.pool.now c.in-Some.placed.cell)) so_far.0,
      sym (c.stays-live.ensures so_far.0 so_far.1),
      live_next c.args.tree.now c.args.pool.now c.args.ordinal c.requires c.changes.after c.in-Some.placed c.in-Some.ensures so_far.0 (apply_all (steps_at_places c.args.pool.now (placed_for c.args.ordinal (entries c.args.tree.now c.args.pool.now))) row) so_far.2,
    )

pub returns : goal.returns
returns c = λ row e.
    let es = entries c.args.tree.now c.args.pool.now in
    let so_far = c.changes.invariant row e in
    let over = sym c.next_of.ensures ∙ none_of c.next_of.result c.in_default.not-Some in
    let done = live_done c.args.tree.now c.args.pool.now c.args.ordinal c.requires c.changes.after over so_far.0 (apply_all (steps_at_places c.args.pool.now (placed_for c.args.ordinal es)) row) so_far.2 in
    sym so_far.1 ∙ ap (λ (r : Option Row). is_some r) done ∙ ap (λ (steps : Steps). is_some (apply_all steps row)) (sym (steps_placed c.args.pool.now c.args.ordinal es))
