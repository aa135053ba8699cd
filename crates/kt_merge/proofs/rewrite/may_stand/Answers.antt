use Rattle.std.proofs.Common.{◌∙◌, ◌<◌, sym, arith}
use Rattle.std.specs.Prelude.{nat_le, nat_lt}
use Rattle.std.proofs.lemmas.Bool.{OnTrue_at, OnTrue_from, lt-ltb}
use Rattle.kt_deltafile.specs.declared.file.Way.TheVariants.{Redo}
use Rattle.kt_deltafile.specs.Order.{last_ordinal, may_follow}
use Rattle.kt_deltafile.specs.Rules.{Follows}
use Rattle.kt_deltafile.proofs.Sorted.{both, both_left, both_right}
use Rattle.kt_merge.proofs.rewrite.may_stand.Goals as goal

pub returns : goal.returns
returns c =
    let front = c.args.front.now in
    let d = c.args.record.now in
    let comes = sym c.comes_behind.ensures ∙ c.if-not-comes_behind.false in
    let inside : d.ordinal < c.args.rows = omega (arith, c.if-record-rows.false) in
    OnTrue_from c.fits_redo.result (Follows Redo c.args.rows front d)
    (λ yes. record {
      comes = both (nat_le (last_ordinal front) d.ordinal) (nat_lt d.ordinal c.args.rows) (both_left (nat_le (last_ordinal front) d.ordinal) (may_follow Redo front d.ordinal d.ts) comes) (lt-ltb d.ordinal c.args.rows inside);
      ordinal = omega (arith, inside, c.ranges.rows.fits);
      order = both_right (nat_le (last_ordinal front) d.ordinal) (may_follow Redo front d.ordinal d.ts) comes;
      ts = c.fits_redo.ensures.range;
      change = OnTrue_at yes c.fits_redo.ensures.yes;
    })
