use Rattle.std.proofs.Common.{◌==◌, not, ap, sym, ◌∙◌}
use Rattle.std.specs.List.{filter}
use Rattle.kt_mvcc.proofs.First.{found_first, others_stay, place_within, not_missing}
use Rattle.kt_mvcc.proofs.flight.take_first.Goals as goal

pub unreachable-requires : goal.unreachable-requires
unreachable-requires c = not_missing (λ f. f.who == c.args.who) c.args.flying.now.items c.requires (rw c.deref.ensures.value at (sym c.find_place.ensures ∙ c.in-None.is))

pub remove-requires : goal.remove-requires
remove-requires c =
    let lt = place_within (λ f. f.who == c.args.who) c.deref.result.now c.in-Some.place (sym c.find_place.ensures ∙ c.in-Some.is) in
    rw c.deref.ensures.len at lt

pub returns-clause-first : goal.returns-clause-first
returns-clause-first c = found_first (λ f. f.who == c.args.who) c.args.flying.now.items c.in-Some.place c.remove.result (rw c.deref.ensures.value at (sym c.find_place.ensures ∙ c.in-Some.is)) c.remove.ensures.value

pub returns-clause-others : goal.returns-clause-others
returns-clause-others c =
    ap (filter (λ f. not (f.who == c.args.who))) c.remove.ensures.items
    ∙ others_stay (λ f. f.who == c.args.who) c.args.flying.now.items c.in-Some.place c.remove.result (rw c.deref.ensures.value at (sym c.find_place.ensures ∙ c.in-Some.is))
