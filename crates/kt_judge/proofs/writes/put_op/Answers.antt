use Rattle.std.proofs.Common.{◌≡◌, ◌-◌, List, ℕ, subst, sym, ap, ◌∙◌}
use Rattle.std.specs.Prelude.{is_some}
use Rattle.kt_judge.specs.Tables.{Entries, IsPut, row_of}
use Rattle.kt_judge.proofs.Shown.{shows_op}
use Rattle.kt_judge.proofs.writes.put_op.Goals as goal

pub returns-in_ok-put_change-clause-rows : goal.returns-in_ok-put_change-clause-rows
returns-in_ok-put_change-clause-rows c =
    let there : c.has_row_at-present.result ≡ is_some (row_of c.args.entries.now.items c.args.op.now.key (c.args.ts - 1)) =
    c.has_row_at-present.ensures
    ∙ ap (λ (es : Entries). is_some (row_of es c.key-key.result.now c.saturating_sub.result)) c.deref.ensures.value
    ∙ ap (λ (k : List ℕ). is_some (row_of c.args.entries.now.items k c.saturating_sub.result)) c.key-key.ensures
    ∙ ap (λ (t : ℕ). is_some (row_of c.args.entries.now.items c.args.op.now.key t)) c.saturating_sub.ensures in
    shows_op c.args.fill.now c.args.ts c.args.op.now c.args.entries.now.items c.put_change.new.entries.items c.in-Some.change
    (λ row h. sym c.in-Some.is ∙ c.in_ok-change.ensures row (h ∙ sym there))
    (subst (λ (k : List ℕ). IsPut c.args.ts c.in-Some.change k c.args.entries.now.items c.put_change.new.entries.items) c.key-key.ensures c.in_ok-put_change.ensures)
