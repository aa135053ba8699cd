use Rattle.std.proofs.Common.{◌≡◌, ◌∷◌, ◌+◌, ◌++◌, ℕ, List, drop, map, sym, ap, ◌∙◌}
use Rattle.std.proofs.lemmas.List.{drop_more}
use Rattle.kt_history.specs.declared.scan.Pred.{Pred}
use Rattle.kt_scan.specs.Asking.{others_in}
use Rattle.kt_scan.proofs.Asking.{one_other}
use Rattle.kt_scan.proofs.asked.push_tested.Goals as goal

pub loop-pred-preserved : goal.loop-pred-preserved
loop-pred-preserved c =
    let at = c.loop-pred.pred-index in
    let pred = c.pred-item.result in
    let parts : drop at c.args.preds.now ≡ pred ∷ drop (at + 1) c.args.preds.now = drop_more c.args.preds.now at pred c.loop-pred-test.true ∙ ap (λ (p : Pred). p ∷ drop (at + 1) c.args.preds.now) (sym c.pred-item.is) in
    ap (λ (ids : List ℕ). ids ++ others_in c.args.keys.now (map (λ p. p.column) (drop (at + 1) c.args.preds.now))) c.in_ok-push_other.ensures
    ∙ one_other c.args.keys.now c.loop-pred.ids.items (map (λ p. p.column) (drop (at + 1) c.args.preds.now)) pred.column
    ∙ sym (ap (λ (ps : List Pred). c.loop-pred.ids.items ++ others_in c.args.keys.now (map (λ p. p.column) ps)) parts)
    ∙ c.loop-pred.invariant
