use Rattle.std.proofs.Common.{◌≡◌, ℕ, ◌+◌, List, take, sym, ap, subst, ◌∙◌, arith}
use Rattle.std.specs.FinMap.Entries.{find}
use Rattle.kt_history.specs.declared.change.Change.{Change}
use Rattle.kt_history.specs.Rows.{Rows, apply, set_row, changed, key_cmp}
use Rattle.kt_opening.specs.Live.{IsLive}
use Rattle.kt_opening.proofs.LiveLaws.{changed_more}
use Rattle.kt_opening.proofs.live.Live.apply_all.Goals as goal

pub loop-key-preserved : goal.loop-key-preserved
loop-key-preserved c = λ rows live.
    let cs = c.args.changes.now in
    let i = c.loop-key.key-index in
    let before = changed (take i cs) rows in
    let whole : changed (take (i + 1) cs) rows ≡ set_row c.as_slice.result.now (apply c.loop-key-item.result.1 (find key_cmp c.as_slice.result.now before)) before =
    changed_more cs i c.loop-key-item.result rows (omega arith)
    ∙ ap (λ (e : List ℕ × Change). set_row e.0 (apply e.1 (find key_cmp e.0 before)) before) (sym c.loop-key-item.is)
    ∙ ap (λ (k : List ℕ). set_row k (apply c.loop-key-item.result.1 (find key_cmp k before)) before) (sym c.as_slice.ensures) in
    subst (λ (xs : Rows). IsLive c.apply.new.self xs) (sym whole) (c.in_ok-apply.ensures before (c.loop-key.invariant rows live))
