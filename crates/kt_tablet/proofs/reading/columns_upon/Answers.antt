use Rattle.std.proofs.Common.{◌≡◌, ℕ, ◌+◌, ◌-◌, Option, arith, sym, ap, ◌∙◌, subst}
use Rattle.std.specs.Prelude.{nat_le, slice_get}
use Rattle.std.specs.Option.{option_map}
use Rattle.kt_cells.specs.Borrowed.{cells_in_ref}
use Rattle.kt_history.specs.AsBytes.{step_of}
use Rattle.kt_history.specs.Rows.{Row, with_cells, AgreeOn}
use Rattle.kt_history.proofs.Asking.{agree_self}
use Rattle.kt_tablet.specs.Bases.{row_by}
use Rattle.kt_tablet.proofs.Bases.{over_none, asked_updated, asked_all, asks_back, asks_enough, asks_whole}
use Rattle.kt_tablet.proofs.Snaps.{key_within, change_is}
use Rattle.kt_tablet.proofs.reading.columns_upon.Goals as goal

pub changes-init : goal.changes-init
changes-init c =
    let last = row_by c.args.fill.now c.args.changes.now c.args.key.now c.args.t c.args.end in
    record {
      low = c.requires.inside;
      high = omega arith;
      rows = subst (λ (row : Row). AgreeOn c.args.ids.now last (option_map (with_cells row) last)) (sym c.clear.ensures) (subst (λ (o : Option Row). AgreeOn c.args.ids.now last o) (over_none last) (agree_self c.args.ids.now last));
    }

pub at-change-requires : goal.at-change-requires
at-change-requires c = key_within c.args.changes.now c.args.key.now (c.changes.at - 1) (c.requires.rests.own (c.changes.at - 1) (omega (arith, c.changes-test.true)) (omega (arith, c.changes.invariant.low, c.changes.invariant.high)))

pub changes-preserved : goal.changes-preserved
changes-preserved c =
    let cs = c.args.changes.now in
    let q = c.args.key.now in
    let change = c.at-change.result in
    let before = c.changes.at - 1 in
    let here = c.requires.rests.own before (omega (arith, c.changes-test.true)) (omega (arith, c.changes.invariant.low, c.changes.invariant.high)) in
    let told = c.at-change.ensures ∙ ap (option_map step_of) (sym (change_is q (slice_get cs before) here)) in
    let is : c.changes.at ≡ before + 1 = omega (arith, c.changes-test.true) in
    let done = c.in_ok-all.ensures in
    record {
      low = omega (arith, c.changes-test.true);
      high = omega (arith, c.changes.invariant.high);
      rows = asks_back c.args.ids.now c.args.fill.now q c.args.t cs c.args.base c.args.end before change.ts change.kind (cells_in_ref change.cells) c.changes.row c.column_under.new.row c.requires.rests (omega (arith, c.changes-test.true)) (omega (arith, c.changes.invariant.low, c.changes.invariant.high)) told
          (asked_updated c.args.ids.now (nat_le change.ts c.args.t) change.kind (cells_in_ref change.cells) c.changes.row c.column_under.new.row done.late done.other done.update)
          (subst (λ (n : ℕ). AgreeOn c.args.ids.now (row_by c.args.fill.now cs q c.args.t c.args.end) (option_map (with_cells c.changes.row) (row_by c.args.fill.now cs q c.args.t n))) is c.changes.invariant.rows);
    }

pub returns-then-all : goal.returns-then-all
returns-then-all c =
    let cs = c.args.changes.now in
    let q = c.args.key.now in
    let change = c.at-change.result in
    let before = c.changes.at - 1 in
    let here = c.requires.rests.own before (omega (arith, c.changes-test.true)) (omega (arith, c.changes.invariant.low, c.changes.invariant.high)) in
    let told = c.at-change.ensures ∙ ap (option_map step_of) (sym (change_is q (slice_get cs before) here)) in
    let is : c.changes.at ≡ before + 1 = omega (arith, c.changes-test.true) in
    let done = c.in_ok-all.ensures in
    let all = c.if-all.true in
    asks_enough c.args.ids.now c.args.fill.now q c.args.t cs c.args.base c.args.end before change.ts change.kind (cells_in_ref change.cells) c.changes.row c.column_under.new.row c.requires.rests (omega (arith, c.changes-test.true)) (omega (arith, c.changes.invariant.low, c.changes.invariant.high)) told
    (asked_all c.args.ids.now (nat_le change.ts c.args.t) change.kind (cells_in_ref change.cells) c.changes.row c.column_under.new.row (done.done all) (done.kind all) (done.all all))
    (subst (λ (n : ℕ). AgreeOn c.args.ids.now (row_by c.args.fill.now cs q c.args.t c.args.end) (option_map (with_cells c.changes.row) (row_by c.args.fill.now cs q c.args.t n))) is c.changes.invariant.rows)

pub at-insert-requires : goal.at-insert-requires
at-insert-requires c = key_within c.args.changes.now c.args.key.now c.args.base (c.requires.rests.own c.args.base (omega arith) c.requires.inside)

pub returns : goal.returns
returns c =
    let cs = c.args.changes.now in
    let q = c.args.key.now in
    let insert = c.at-insert.result in
    let here = c.requires.rests.own c.args.base (omega arith) c.requires.inside in
    let is : c.changes.at ≡ c.args.base + 1 = omega (arith, c.changes.invariant.low, c.changes-test.false) in
    asks_whole c.args.ids.now c.args.fill.now q c.args.t cs c.args.base c.args.end insert.ts insert.kind (cells_in_ref insert.cells) c.changes.row c.fill_asked.new.row c.requires.rests
    (c.at-insert.ensures ∙ ap (option_map step_of) (sym (change_is q (slice_get cs c.args.base) here)))
    (rw c.as_slice.ensures at c.in_ok-fill_asked.ensures)
    (subst (λ (n : ℕ). AgreeOn c.args.ids.now (row_by c.args.fill.now cs q c.args.t c.args.end) (option_map (with_cells c.changes.row) (row_by c.args.fill.now cs q c.args.t n))) is c.changes.invariant.rows)
