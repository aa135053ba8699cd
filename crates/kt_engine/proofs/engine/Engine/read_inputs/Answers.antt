use Rattle.std.proofs.Common.{rules, ◌≡◌, ◌<◌, ◌^◌, ◌∙◌, ℕ, suc, min, take, length, ap, subst}
use Rattle.kt_history.specs.Grown.{AllGrown}
use Rattle.kt_tablet.specs.Views.{View, IsSound}
use Rattle.kt_engine.specs.Engines.{EngineView, IsEngine}
use Rattle.kt_engine.specs.Stored.{IsStored}
use Rattle.kt_engine.proofs.JobInputs.{MayRead, its_input, its_tells, its_faultless, its_passing}
use Rattle.kt_engine.proofs.engine.Engine.read_inputs.Goals as goal

pub returns-clause-read : goal.returns-clause-read
returns-clause-read g c =
    let is = subst (λ (v : EngineView g.row.L.Denot g.row.D.Denot g.row.C.Denot). IsEngine g.L.Disk.tells g.L.Disk.seen g.L.Disk.now g.L.Disk.leaves g.L.Disk.faults v × IsStored g.L.Disk.tells g.L.Disk.seen g.D.Disk.tells g.D.Disk.seen g.D.Disk.faults v) c.self.view_is c.self.invariant in
    let tab : c.deref.result.now ≡ c.args.self.now.tablet = c.deref.ensures ∙ ap (λ (v : EngineView g.row.L.Denot g.row.D.Denot g.row.C.Denot). v.tablet) c.self.view_is in
    let may : MayRead g.C.Clock.readings c.args.self.now.tablet = record {
      grown = subst (λ (t : View g.row.C.Denot). AllGrown (take (suc t.frozen) t.core.stores)) tab c.standing.ensures.memory;
      sound = subst (λ (t : View g.row.C.Denot). IsSound g.C.Clock.readings t) tab c.standing.ensures.sound;
      shelved = is.0.ready.shelved;
      named = subst (λ (t : View g.row.C.Denot). length t.names ≡ length t.core.stores) tab c.standing.ensures.named;
    } in
    let marked = c.min.ensures ∙ ap (λ (n : ℕ). min c.times-a.result.1 n) c.times-a.ensures.mark in
    its_input g.C.Clock.readings c.args.self.now.tablet c.args.taken.now c.in_ok-inputs.inputs c.times-a.result.1 c.min.result may c.times-a.ensures.last marked c.in_ok-inputs.ensures.reads

pub returns-clause-faultless : goal.returns-clause-faultless
returns-clause-faultless g c = λ first opens.
    let is = subst (λ (v : EngineView g.row.L.Denot g.row.D.Denot g.row.C.Denot). IsEngine g.L.Disk.tells g.L.Disk.seen g.L.Disk.now g.L.Disk.leaves g.L.Disk.faults v × IsStored g.L.Disk.tells g.L.Disk.seen g.D.Disk.tells g.D.Disk.seen g.D.Disk.faults v) c.self.view_is c.self.invariant in
    let tab : c.deref.result.now ≡ c.args.self.now.tablet = c.deref.ensures ∙ ap (λ (v : EngineView g.row.L.Denot g.row.D.Denot g.row.C.Denot). v.tablet) c.self.view_is in
    let may : MayRead g.C.Clock.readings c.args.self.now.tablet = record {
      grown = subst (λ (t : View g.row.C.Denot). AllGrown (take (suc t.frozen) t.core.stores)) tab c.standing.ensures.memory;
      sound = subst (λ (t : View g.row.C.Denot). IsSound g.C.Clock.readings t) tab c.standing.ensures.sound;
      shelved = is.0.ready.shelved;
      named = subst (λ (t : View g.row.C.Denot). length t.names ≡ length t.core.stores) tab c.standing.ensures.named;
    } in
    let marked = c.min.ensures ∙ ap (λ (n : ℕ). min c.times-a.result.1 n) c.times-a.ensures.mark in
    let small : c.times-a.result.1 < 2 ^ 64 = search rules in
    its_faultless g.C.Clock.readings c.args.self.now.tablet c.args.taken.now c.in_ok-inputs.inputs c.times-a.result.1 c.min.result may c.times-a.ensures.last marked c.in_ok-inputs.ensures.reads first opens small

pub returns-clause-tells : goal.returns-clause-tells
returns-clause-tells g c = λ first opens.
    let is = subst (λ (v : EngineView g.row.L.Denot g.row.D.Denot g.row.C.Denot). IsEngine g.L.Disk.tells g.L.Disk.seen g.L.Disk.now g.L.Disk.leaves g.L.Disk.faults v × IsStored g.L.Disk.tells g.L.Disk.seen g.D.Disk.tells g.D.Disk.seen g.D.Disk.faults v) c.self.view_is c.self.invariant in
    let tab : c.deref.result.now ≡ c.args.self.now.tablet = c.deref.ensures ∙ ap (λ (v : EngineView g.row.L.Denot g.row.D.Denot g.row.C.Denot). v.tablet) c.self.view_is in
    let may : MayRead g.C.Clock.readings c.args.self.now.tablet = record {
      grown = subst (λ (t : View g.row.C.Denot). AllGrown (take (suc t.frozen) t.core.stores)) tab c.standing.ensures.memory;
      sound = subst (λ (t : View g.row.C.Denot). IsSound g.C.Clock.readings t) tab c.standing.ensures.sound;
      shelved = is.0.ready.shelved;
      named = subst (λ (t : View g.row.C.Denot). length t.names ≡ length t.core.stores) tab c.standing.ensures.named;
    } in
    let marked = c.min.ensures ∙ ap (λ (n : ℕ). min c.times-a.result.1 n) c.times-a.ensures.mark in
    its_tells g.C.Clock.readings c.args.self.now.tablet c.args.taken.now c.in_ok-inputs.inputs c.times-a.result.1 c.min.result may c.times-a.ensures.last marked c.in_ok-inputs.ensures.reads first opens

pub returns-clause-passes : goal.returns-clause-passes
returns-clause-passes g c = λ t rules first content plan.
    let is = subst (λ (v : EngineView g.row.L.Denot g.row.D.Denot g.row.C.Denot). IsEngine g.L.Disk.tells g.L.Disk.seen g.L.Disk.now g.L.Disk.leaves g.L.Disk.faults v × IsStored g.L.Disk.tells g.L.Disk.seen g.D.Disk.tells g.D.Disk.seen g.D.Disk.faults v) c.self.view_is c.self.invariant in
    let tab : c.deref.result.now ≡ c.args.self.now.tablet = c.deref.ensures ∙ ap (λ (v : EngineView g.row.L.Denot g.row.D.Denot g.row.C.Denot). v.tablet) c.self.view_is in
    let may : MayRead g.C.Clock.readings c.args.self.now.tablet = record {
      grown = subst (λ (t : View g.row.C.Denot). AllGrown (take (suc t.frozen) t.core.stores)) tab c.standing.ensures.memory;
      sound = subst (λ (t : View g.row.C.Denot). IsSound g.C.Clock.readings t) tab c.standing.ensures.sound;
      shelved = is.0.ready.shelved;
      named = subst (λ (t : View g.row.C.Denot). length t.names ≡ length t.core.stores) tab c.standing.ensures.named;
    } in
    let marked = c.min.ensures ∙ ap (λ (n : ℕ). min c.times-a.result.1 n) c.times-a.ensures.mark in
    its_passing g.L.Disk.tells g.L.Disk.seen g.L.Disk.now g.L.Disk.leaves g.L.Disk.faults g.D.Disk.tells g.D.Disk.seen g.D.Disk.faults g.C.Clock.readings c.args.self.now is c.args.taken.now c.in_ok-inputs.inputs c.times-a.result.1 c.min.result may c.times-a.ensures.last
    marked c.in_ok-inputs.ensures.reads c.requires.free c.requires.calm t rules first content plan
