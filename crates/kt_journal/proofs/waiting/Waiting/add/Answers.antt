use Rattle.std.proofs.Common.{◌≡◌, List, Some, cond, true, ap, ◌∙◌}
use Rattle.std.specs.Prelude.{◌==◌}
use Rattle.kt_journal.specs.declared.waiting.Held.{Held}
use Rattle.kt_journal.specs.Order.{is_above}
use Rattle.kt_journal.specs.Waiting.{WaitingView, number_in, number_of}
use Rattle.kt_journal.proofs.Waits.{pushed_numbers}
use Rattle.kt_journal.proofs.waiting.Waiting.add.Goals as goal

pub returns-clause-numbers : goal.returns-clause-numbers
returns-clause-numbers c t =
    let above : is_above c.self.inside.last c.args.ts ≡ true = ap (λ (w : WaitingView). is_above w.last c.args.ts) c.self.view_is ∙ c.requires in
    ap (λ (l : List Held). number_in l t) c.in_ok-push_back.ensures.items
    ∙ pushed_numbers c.self.inside.last c.self.inside.held.items (record { ts = c.args.ts; number = Some c.args.number }) above c.self.invariant t
    ∙ ap (λ (w : WaitingView). cond (c.args.ts == t) (Some c.args.number) (number_of t w)) c.self.view_is
