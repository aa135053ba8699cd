use Rattle.std.proofs.Common.{sym}
use Rattle.kt_engine.specs.Rounds.{round_of}
use Rattle.kt_engine.proofs.Passes.{apart_at, changed_at, then_has}
use Rattle.kt_engine.proofs.upkeep.Upkeeps.begin_round.Goals as goal

pub invariant_of-self : goal.invariant_of-self
invariant_of-self c = apart_at c.self.inside.passes.items c.in-Some.at c.index_mut.result.now c.begin_round.new.self c.index_mut.ensures.value c.begin_round.ensures.pass c.self.invariant

pub returns-clause-ok : goal.returns-clause-ok
returns-clause-ok c =
    let there = rw (sym c.self.view_is) at c.in-Some.ensures in
    then_has (round_of c.args.chore c.args.todo.items) c.args.pass _ c.make_place.new.self _ c.in_ok-make_place.ensures.same
    (rw (sym c.self.view_is) (changed_at c.self.inside.passes.items c.in-Some.at c.args.pass c.index_mut.result.now c.index_mut.ensures.value there.0 there.1 (round_of c.args.chore c.args.todo.items) c.begin_round.new.self _ _ _ _ c.begin_round.ensures.pass c.self.invariant c.begin_round.ensures.own))
