use Rattle.std.proofs.Common.{◌≡◌, ◌==◌, ◌∙◌, ap, sym, not, rules}
use Rattle.std.specs.List.{filter}
use Rattle.std.proofs.lemmas.Fn.{filter_same}
use Rattle.kt_mvcc.proofs.First.{same_found}
use Rattle.kt_mvcc.proofs.flight.Flight.take.Goals as goal

pub let_go-requires-clause-tells : goal.let_go-requires-clause-tells
let_go-requires-clause-tells c = rw c.deref.ensures.value c.self.invariant

pub invariant_of-self : goal.invariant_of-self
invariant_of-self c =
    let kept : c.retain.new.self.items ≡ filter (λ f. not (f.who == c.args.who)) c.take_first-flier.new.flying.items = filter_same _ _ _ (λ x b f' k. search rules) _ _ c.retain.ensures.filtered in
    rw (kept ∙ c.take_first-flier.ensures.others) (rw c.deref.ensures.value at c.let_go.ensures)

pub returns-clause-flying : goal.returns-clause-flying
returns-clause-flying c =
    let kept : c.retain.new.self.items ≡ filter (λ f. not (f.who == c.args.who)) c.take_first-flier.new.flying.items = filter_same _ _ _ (λ x b f' k. search rules) _ _ c.retain.ensures.filtered in
    rw (← c.self.view_is) (kept ∙ c.take_first-flier.ensures.others)

pub returns-clause-keys : goal.returns-clause-keys
returns-clause-keys c = λ f found. ap (λ x. x.keys) (same_found _ _ (sym c.take_first-flier.ensures.first ∙ (rw (← c.self.view_is) at found)))
