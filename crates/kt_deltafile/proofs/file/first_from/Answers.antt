use Rattle.std.proofs.Common.{◌≡◌, ◌+◌, ◌-◌, ◌/◌, ◌<◌, ℕ, length, arith, sym, ap, ◌∙◌, rules}
use Rattle.kt_history.specs.declared.changes.Delta.{Delta}
use Rattle.kt_deltafile.specs.Order.{ordinal_at}
use Rattle.kt_deltafile.proofs.Sorted.{ordinal_is, all_before, all_behind}
use Rattle.kt_deltafile.proofs.file.first_from.Goals as goal

pub loop-low-preserved-then-from-ordinal : goal.loop-low-preserved-then-from-ordinal
loop-low-preserved-then-from-ordinal c =
    let low = c.loop-low.low in
    let high = c.loop-low.high in
    let mid : ℕ = low + (high - low) / 2 in
    let inv = c.loop-low.invariant in
    let within : mid < length c.args.records.now = omega (arith, inv.within) in
    let here : ordinal_at c.args.records.now mid ≡ c.index-records-mid.result.ordinal = ordinal_is c.args.records.now mid c.index-records-mid.result within ∙ sym (ap (λ (d : Delta). d.ordinal) c.index-records-mid.is) in
    let from : c.from.result ≡ c.index-records-mid.result.ordinal = search (rules, c.from.ensures) in
    record {
      order = omega arith;
      within = inv.within;
      before = all_before c.args.records.now c.args.ordinal mid c.requires within (omega (arith, here, from, c.if-from-ordinal.true));
      behind = inv.behind;
    }

pub loop-low-preserved : goal.loop-low-preserved
loop-low-preserved c =
    let low = c.loop-low.low in
    let high = c.loop-low.high in
    let mid : ℕ = low + (high - low) / 2 in
    let inv = c.loop-low.invariant in
    let within : mid < length c.args.records.now = omega (arith, inv.within) in
    let here : ordinal_at c.args.records.now mid ≡ c.index-records-mid.result.ordinal = ordinal_is c.args.records.now mid c.index-records-mid.result within ∙ sym (ap (λ (d : Delta). d.ordinal) c.index-records-mid.is) in
    let from : c.from.result ≡ c.index-records-mid.result.ordinal = search (rules, c.from.ensures) in
    record {
      order = omega arith;
      within = omega (arith, inv.within);
      before = inv.before;
      behind = all_behind c.args.records.now c.args.ordinal mid c.requires (omega (arith, here, from, c.if-from-ordinal.false));
    }
