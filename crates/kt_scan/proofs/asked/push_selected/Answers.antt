use Rattle.std.proofs.Common.{◌≡◌, ◌∷◌, ◌+◌, ◌++◌, ℕ, List, drop, get_or, sym, ap, ◌∙◌}
use Rattle.std.proofs.lemmas.List.{drop_more}
use Rattle.kt_scan.specs.Asking.{others_in}
use Rattle.kt_scan.proofs.Asking.{one_other}
use Rattle.kt_scan.proofs.asked.push_selected.Goals as goal

pub loop-id-preserved : goal.loop-id-preserved
loop-id-preserved c =
    let at = c.loop-id.id-index in
    let parts : drop at c.args.columns.now ≡ get_or c.args.columns.now at 0 ∷ drop (at + 1) c.args.columns.now = drop_more c.args.columns.now at 0 c.loop-id-test.true in
    ap (λ (ids : List ℕ). ids ++ others_in c.args.keys.now (drop (at + 1) c.args.columns.now)) c.in_ok-push_other.ensures
    ∙ one_other c.args.keys.now c.loop-id.ids.items (drop (at + 1) c.args.columns.now) (get_or c.args.columns.now at 0)
    ∙ sym (ap (λ (ids : List ℕ). c.loop-id.ids.items ++ others_in c.args.keys.now ids) parts)
    ∙ c.loop-id.invariant
