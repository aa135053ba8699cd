use Rattle.std.proofs.Common.{◌≡◌, ◌+◌, ◌-◌, ◌/◌, ◌<◌, ◌∙◌, ℕ, [], length, get_or, true, false, sym, ap, arith}
use Rattle.std.specs.Ordering.{nat_cmp, is_gt}
use Rattle.std.specs.Cmp.Lexicographic.{slice_cmp}
use Rattle.kt_baseset.specs.Tables.{keys_of}
use Rattle.kt_baseset.proofs.Above.{above_from, not_above_upto}
use Rattle.kt_baseset.proofs.Found.{text_at, count_keys}
use Rattle.kt_baseset.proofs.baseset.first_above.Goals as goal

pub halves-preserved-then-is_gt : goal.halves-preserved-then-is_gt
halves-preserved-then-is_gt c =
    let cs = c.args.keys.now.cells in
    let key = c.args.key.now in
    let mid : ℕ = c.halves.low + (c.halves.high - c.halves.low) / 2 in
    let inv = c.halves.invariant in
    let inside : mid < length cs = omega (arith, inv.within) in
    let compared = c.compare.ensures (get_or (keys_of cs) mid []) (text_at cs mid c.requires.texts.texts inside) in
    let above : is_gt (slice_cmp nat_cmp (get_or (keys_of cs) mid []) key) ≡ true = ap is_gt (sym compared) ∙ sym c.is_gt.ensures ∙ c.if-is_gt.true in
    record {
      order = omega arith;
      within = omega (arith, inv.within);
      before = inv.before;
      above = λ i from low. above_from (keys_of cs) key mid c.requires.rise above i from (omega (arith, low, count_keys cs));
    }

pub halves-preserved : goal.halves-preserved
halves-preserved c =
    let cs = c.args.keys.now.cells in
    let key = c.args.key.now in
    let mid : ℕ = c.halves.low + (c.halves.high - c.halves.low) / 2 in
    let inv = c.halves.invariant in
    let inside : mid < length cs = omega (arith, inv.within) in
    let compared = c.compare.ensures (get_or (keys_of cs) mid []) (text_at cs mid c.requires.texts.texts inside) in
    let not_above : is_gt (slice_cmp nat_cmp (get_or (keys_of cs) mid []) key) ≡ false = ap is_gt (sym compared) ∙ sym c.is_gt.ensures ∙ c.if-is_gt.false in
    record {
      order = omega arith;
      within = inv.within;
      before = not_above_upto (keys_of cs) key mid c.requires.rise not_above (omega (arith, inside, count_keys cs));
      above = inv.above;
    }
