use Rattle.std.proofs.Common.{◌≡◌, ◌<◌, ℕ, List, length, get_or, set, None, cond, sym, ap, ◌∙◌}
use Rattle.std.specs.Prelude.{◌==◌}
use Rattle.kt_journal.specs.declared.waiting.Held.{Held}
use Rattle.kt_journal.specs.Waiting.{WaitingView, number_in, number_of, Keeps}
use Rattle.kt_journal.proofs.Waits.{number_at, marked, taken}
use Rattle.kt_journal.proofs.waiting.Waiting.take.Goals as goal

pub returns-clause-value : goal.returns-clause-value
returns-clause-value c =
    let held : List Held = c.self.inside.held.items in
    let found = c.in_ok-at.ensures.found in
    c.take-number.ensures.value ∙ ap (λ (h : Held). h.number) c.index_mut.ensures.value
    ∙ sym (number_at held c.in_ok-at.at c.args.ts c.index_mut.result.now c.self.invariant.pairs found.0 (found.1 c.index_mut.result.now))
    ∙ ap (number_of c.args.ts) c.self.view_is

pub invariant_of-self : goal.invariant_of-self
invariant_of-self c =
    let found = c.in_ok-at.ensures.found in
    let x : Held = record { ts = c.index_mut.result.now.ts; number = c.take-number.new.self } in
    let is : x.ts ≡ c.args.ts = ap (λ (h : Held). h.ts) c.index_mut.ensures.value ∙ found.1 c.index_mut.result.now in
    let first = c.drop_first.ensures c.self.inside.last (marked c.self.inside.last c.self.inside.held.items c.in_ok-at.at x found.0 (λ d. found.1 d ∙ sym is) c.self.invariant) in
    (c.drop_last.ensures c.self.inside.last first.rising).rising

pub returns-clause-numbers : goal.returns-clause-numbers
returns-clause-numbers c t =
    let last = c.self.inside.last in
    let held : List Held = c.self.inside.held.items in
    let found = c.in_ok-at.ensures.found in
    let x : Held = record { ts = c.index_mut.result.now.ts; number = c.take-number.new.self } in
    let is : x.ts ≡ c.args.ts = ap (λ (h : Held). h.ts) c.index_mut.ensures.value ∙ found.1 c.index_mut.result.now in
    let first : Keeps last (set held c.in_ok-at.at x) c.drop_first.new.held.items = c.drop_first.ensures last (marked last held c.in_ok-at.at x found.0 (λ d. found.1 d ∙ sym is) c.self.invariant) in
    (c.drop_last.ensures last first.rising).numbers t
    ∙ taken last held c.in_ok-at.at x found.0 (λ d. found.1 d ∙ sym is) c.self.invariant c.drop_first.new.held.items t c.take-number.ensures.after first
    ∙ ap (λ (n : ℕ). cond (n == t) None (number_in held t)) is
    ∙ ap (λ (w : WaitingView). cond (c.args.ts == t) None (number_of t w)) c.self.view_is
