use Rattle.std.proofs.Common.{◌≡◌, ◌+◌, ◌-◌, ◌/◌, ℕ, suc, [], length, get_or, arith, rules}
use Rattle.kt_lookup.specs.Index.{IsBelow}
use Rattle.kt_lookup.proofs.Halves.{halved_more}
use Rattle.kt_lookup.proofs.Search.{all_below}
use Rattle.kt_lookup.proofs.indexes.search.Goals as goal

pub loop-low-preserved-then-is_below : goal.loop-low-preserved-then-is_below
loop-low-preserved-then-is_below g c =
    let low = c.loop-low.low in
    let high = c.loop-low.high in
    let mid : ℕ = low + (high - low) / 2 in
    let inv = c.loop-low.invariant in
    let below : IsBelow (get_or c.args.index.now mid []) c.args.key.now = search (rules, c.get.ensures, c.if-is_below.ensures.below, c.is_below.ensures.below) in
    let cost = c.is_below.ensures.cost in
    let next : c.is_below.new.steps - c.args.steps.now ≡ suc (c.loop-low.steps - c.args.steps.now) = omega (arith, cost, inv.grew) in
    record {
      order = omega arith;
      within = inv.within;
      before = λ j lt. all_below c.args.index.now c.args.key.now mid j c.requires (omega (arith, inv.within)) below lt;
      at = inv.at;
      grew = omega (arith, cost, inv.grew);
      halved = halved_more (length c.args.index.now) (c.loop-low.steps - c.args.steps.now) (c.is_below.new.steps - c.args.steps.now) (high - low) (high - (mid + 1)) next (omega arith) (omega arith) inv.halved;
    }

pub loop-low-preserved : goal.loop-low-preserved
loop-low-preserved g c =
    let low = c.loop-low.low in
    let high = c.loop-low.high in
    let mid : ℕ = low + (high - low) / 2 in
    let inv = c.loop-low.invariant in
    let cost = c.is_below.ensures.cost in
    let next : c.is_below.new.steps - c.args.steps.now ≡ suc (c.loop-low.steps - c.args.steps.now) = omega (arith, cost, inv.grew) in
    record {
      order = omega arith;
      within = omega (arith, inv.within);
      before = inv.before;
      at = λ lt below. search (rules, c.get.ensures, below, c.if-is_below.ensures.below, c.is_below.ensures.below);
      grew = omega (arith, cost, inv.grew);
      halved = halved_more (length c.args.index.now) (c.loop-low.steps - c.args.steps.now) (c.is_below.new.steps - c.args.steps.now) (high - low) (mid - low) next (omega arith) (omega arith) inv.halved;
    }
