use Rattle.std.proofs.Common.{◌≡◌, ℕ, ◌+◌, ◌-◌, arith, sym, ap, ◌∙◌, subst}
use Rattle.std.specs.Prelude.{nat_le, slice_get}
use Rattle.std.specs.Option.{option_map}
use Rattle.kt_cells.specs.Borrowed.{cells_in_ref}
use Rattle.kt_history.specs.AsBytes.{step_of}
use Rattle.kt_history.specs.Rows.{Row, with_cells}
use Rattle.kt_tablet.specs.Bases.{row_by}
use Rattle.kt_tablet.proofs.Bases.{over_none, set_updated, goes_back}
use Rattle.kt_tablet.proofs.Snaps.{key_within, change_is}
use Rattle.kt_tablet.proofs.reading.updates_under.Goals as goal

pub changes-init : goal.changes-init
changes-init c =
    let last = row_by c.args.fill.now c.args.changes.now c.args.key.now c.args.t c.args.end in
    record { low = c.requires.inside; high = omega arith; rows = subst (λ (row : Row). last ≡ option_map (with_cells row) last) (sym c.requires.none) (over_none last) }

pub at-change-requires : goal.at-change-requires
at-change-requires c = key_within c.args.changes.now c.args.key.now (c.changes.at - 1) (c.requires.rests.own (c.changes.at - 1) (omega (arith, c.changes-test.true)) (omega (arith, c.changes.invariant.low, c.changes.invariant.high)))

pub changes-preserved : goal.changes-preserved
changes-preserved c =
    let cs = c.args.changes.now in
    let q = c.args.key.now in
    let change = c.at-change.result in
    let before = c.changes.at - 1 in
    let here = c.requires.rests.own before (omega (arith, c.changes-test.true)) (omega (arith, c.changes.invariant.low, c.changes.invariant.high)) in
    let told = c.at-change.ensures ∙ ap (option_map step_of) (sym (change_is q (slice_get cs before) here)) in
    let is : c.changes.at ≡ before + 1 = omega (arith, c.changes-test.true) in
    let done = c.in_ok-update_under.ensures in
    record {
      low = omega (arith, c.changes-test.true);
      high = omega (arith, c.changes.invariant.high);
      rows = goes_back c.args.fill.now q c.args.t cs c.args.base c.args.end before change.ts change.kind (cells_in_ref change.cells) c.changes.row c.update_under.new.row c.requires.rests (omega (arith, c.changes-test.true)) (omega (arith, c.changes.invariant.low, c.changes.invariant.high)) told
          (set_updated (nat_le change.ts c.args.t) change.kind (cells_in_ref change.cells) c.changes.row c.update_under.new.row done.late done.other done.update)
          (c.changes.invariant.rows ∙ ap (λ (n : ℕ). option_map (with_cells c.changes.row) (row_by c.args.fill.now cs q c.args.t n)) is);
    }

pub returns : goal.returns
returns c =
    let is : c.changes.at ≡ c.args.base + 1 = omega (arith, c.changes.invariant.low, c.changes-test.false) in
    c.changes.invariant.rows ∙ ap (λ (n : ℕ). option_map (with_cells c.changes.row) (row_by c.args.fill.now c.args.changes.now c.args.key.now c.args.t n)) is
