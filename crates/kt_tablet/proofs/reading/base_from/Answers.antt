use Rattle.std.proofs.Common.{ℕ, ◌+◌, Option, refl, arith, sym, ap, ◌∙◌, subst}
use Rattle.std.specs.Prelude.{slice_get}
use Rattle.std.specs.Option.{option_map}
use Rattle.std.proofs.lemmas.Bool.{false≢true}
use Rattle.kt_cells.specs.Borrowed.{cells_in_ref}
use Rattle.kt_history.specs.AsBytes.{step_of}
use Rattle.kt_tablet.specs.Bases.{row_by, RestsOn}
use Rattle.kt_tablet.proofs.Bases.{rests_more}
use Rattle.kt_tablet.proofs.Snaps.{row_begins, row_ends, key_within, change_is, change_is_not}
use Rattle.kt_tablet.proofs.reading.base_from.Goals as goal

pub changes-init : goal.changes-init
changes-init c = record { from = omega arith; upto = c.requires.bound; rests = sym (row_begins c.args.fill.now c.args.key.now c.args.t c.args.changes.now c.args.place.now c.requires.parts); more = c.requires.any }

pub at-change-requires : goal.at-change-requires
at-change-requires c = key_within c.args.changes.now c.args.key.now c.changes.at (c.changes.invariant.more.0 c.changes-test.true)

pub goes_on-more-requires : goal.goes_on-more-requires
goes_on-more-requires c = key_within c.args.changes.now c.args.key.now c.changes.at (c.changes.invariant.more.0 c.changes-test.true)

pub prove-unreachable-requires : goal.prove-unreachable-requires
prove-unreachable-requires c = omega (arith, key_within c.args.changes.now c.args.key.now c.changes.at (c.changes.invariant.more.0 c.changes-test.true))

pub changes-smaller : goal.changes-smaller
changes-smaller c = omega (arith, key_within c.args.changes.now c.args.key.now c.changes.at (c.changes.invariant.more.0 c.changes-test.true))

pub changes-preserved : goal.changes-preserved
changes-preserved c =
    let cs = c.args.changes.now in
    let q = c.args.key.now in
    let here = c.changes.invariant.more.0 c.changes-test.true in
    let change = c.at-change.result in
    let told = c.at-change.ensures ∙ ap (option_map step_of) (sym (change_is q (slice_get cs c.changes.at) here)) in
    record {
      from = omega (arith, c.changes.invariant.from);
      upto = omega (arith, key_within cs q c.changes.at here);
      rests = subst (λ (base : Option ℕ). RestsOn c.args.fill.now cs q c.args.t base (c.changes.at + 1)) (sym c.base_after-base.ensures)
          (rests_more c.args.fill.now q c.args.t cs c.changes.base c.changes.at change.ts change.kind (cells_in_ref change.cells) told here c.changes.invariant.rests);
      more = (λ on. sym (c.goes_on-more.ensures.0 on) ∙ here, λ same. c.goes_on-more.ensures.1 (here ∙ sym same));
    }

pub returns-clause-rests : goal.returns-clause-rests
returns-clause-rests c = c.changes.invariant.rests

pub returns-clause-whole : goal.returns-clause-whole
returns-clause-whole c =
    let cs = c.args.changes.now in
    let q = c.args.key.now in
    row_ends c.args.fill.now q c.args.t cs c.args.place.now c.changes.at (row_by c.args.fill.now cs q c.args.t c.changes.at) c.requires.rising c.changes.invariant.from c.requires.parts
    (ap (option_map step_of) (sym (change_is_not q (slice_get cs c.changes.at) (λ same. false≢true (sym c.changes-test.false ∙ c.changes.invariant.more.1 same))))) refl
