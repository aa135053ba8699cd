use Rattle.std.proofs.Common.{ℕ, List, sym, ap, subst}
use Rattle.kt_engine.specs.declared.upkeep.Upkeep.{Upkeep}
use Rattle.kt_engine.specs.Jobs.{UpkeepView}
use Rattle.kt_engine.specs.Upkeeps.{AreApart, IsThere}
use Rattle.kt_engine.proofs.Passes.{views, there_at, apart_push, placed_has, there_pushed}
use Rattle.kt_engine.proofs.upkeep.Upkeeps.make_place.Goals as goal

pub returns-in-Some-clause-there : goal.returns-in-Some-clause-there
returns-in-Some-clause-there c =
    let there = rw (sym c.self.view_is) at c.in-Some.ensures in
    rw (sym c.self.view_is) (there_at c.self.inside.passes.items c.in-Some.field-0 c.args.pass there.1)

pub invariant_of-self-2 : goal.invariant_of-self-2
invariant_of-self-2 c =
    subst AreApart (sym c.in_ok-push.ensures.items) (apart_push c.self.inside.passes.items c.args.pass c.idle.result (ap (λ (p : ℕ × UpkeepView). p.0) c.idle.ensures) (rw (sym c.self.view_is) at c.in_default.ensures) c.self.invariant)

pub returns-clause-same : goal.returns-clause-same
returns-clause-same c = rw (sym c.self.view_is) (placed_has c.self.inside.passes.items c.push.new.self.items c.args.pass c.idle.result _ _ c.idle.ensures c.in_ok-push.ensures.items)

pub returns-clause-there : goal.returns-clause-there
returns-clause-there c = subst (λ (l : List Upkeep). IsThere c.args.pass (views l)) (sym c.in_ok-push.ensures.items) (there_pushed c.self.inside.passes.items c.args.pass c.idle.result (ap (λ (p : ℕ × UpkeepView). p.0) c.idle.ensures))
