use Rattle.std.proofs.Common.{arith, sym, ap, ◌∙◌}
use Rattle.std.specs.Prelude.{slice_get}
use Rattle.std.specs.Option.{option_map}
use Rattle.kt_cells.specs.Borrowed.{cells_in_ref}
use Rattle.kt_history.specs.AsBytes.{step_of}
use Rattle.kt_tablet.proofs.Bases.{rests_whole}
use Rattle.kt_tablet.proofs.Snaps.{key_within, change_is}
use Rattle.kt_tablet.proofs.reading.row_upon.Goals as goal

pub updates_under-requires : goal.updates_under-requires
updates_under-requires c = record { inside = c.requires.inside; rests = c.requires; none = c.clear.ensures }

pub at-insert-requires : goal.at-insert-requires
at-insert-requires c = key_within c.args.changes.now c.args.key.now c.args.base (c.requires.own c.args.base (omega arith) c.requires.inside)

pub returns : goal.returns
returns c =
    let insert = c.at-insert.result in
    let here = c.requires.own c.args.base (omega arith) c.requires.inside in
    rests_whole c.args.fill.now c.args.key.now c.args.t c.args.changes.now c.args.base c.args.end insert.ts insert.kind (cells_in_ref insert.cells) c.updates_under.new.row c.fill_under.new.row c.requires
    (c.at-insert.ensures ∙ ap (option_map step_of) (sym (change_is c.args.key.now (slice_get c.args.changes.now c.args.base) here)))
    (rw c.as_slice.ensures at c.in_ok-fill_under.ensures) c.in_ok-updates_under.ensures
