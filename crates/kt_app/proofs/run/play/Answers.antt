use Rattle.std.proofs.Common.{◌≡◌, sym, subst, true, false, Result, Ok, Err}
use Rattle.std.specs.Prelude.{IfOk, OnOk}
use Rattle.kt_engine.specs.Visits.{root_of}
use Rattle.kt_serve.specs.declared.close.End.{End}
use Rattle.kt_serve.specs.declared.close.End.TheVariants.{Done, Stopped}
use Rattle.kt_serve.specs.Points.{CameTo}
use Rattle.kt_serve.specs.Closing.{EndsAs}
use Rattle.kt_serve.specs.Runs.{PlanRuns, AllEnded}
use Rattle.kt_app.proofs.Runnable.{plan_runs}
use Rattle.kt_app.proofs.Played.{ended_of, played_as, played_whole, played_halted}
use Rattle.kt_app.proofs.run.play.Goals as goal

of_gathered : {A E : Type 0} (r : Result A E) (P Q : A → Type 0) (W : Type 0) (S : A → Type 0) → ((x : A) → P x → Q x → W → S x) → IfOk r P → IfOk r Q → OnOk r W → IfOk r S
of_gathered (Ok x) P Q W S f p q w = f x p q w
of_gathered (Err x) P Q W S f p q w = tt

not_both : (e : End) → e ≡ Done → e ≡ Stopped → ⊥
not_both e done stopped = cc

pub run_sessions-requires-clause-runs : goal.run_sessions-requires-clause-runs
run_sessions-requires-clause-runs g c = λ κs outlives. subst PlanRuns (sym c.as_slice.ensures) (plan_runs c.args.schema.now c.requires.counted c.args.plan.now c.requires.fits)

pub returns-in-Done-clause-played : goal.returns-in-Done-clause-played
returns-in-Done-clause-played g c =
    let view = c.in-Ok.field-0.engine in
    let ends = c.in-Ok.field-0.ends.items in
    let ended = ended_of (CameTo g.G.Gate.came c.args.gate.now) c.args.engine view c.args.plan.now ends c.in-Ok.ensures.root (subst (λ plan. AllEnded (CameTo g.G.Gate.came c.args.gate.now) (root_of c.args.engine) plan view.tablet.core.trail ends) c.as_slice.ensures c.in-Ok.ensures.ended) in
    of_gathered c.gather.result _ _ _ _
    (λ played stopped replies whole.
    played_as view c.args.plan.now false played.stopped _ played.replies.items stopped replies
    (played_whole (CameTo g.G.Gate.came c.args.gate.now) view c.args.plan.now ends ended whole (subst (EndsAs view) c.in-Done.is c.in-Ok.ensures.ends) (λ s end is halted. not_both c.in-Ok.field-0.end c.in-Done.is (c.in-Ok.ensures.halted s end is halted))))
    c.gather.ensures.stopped c.gather.ensures.replies c.gather.ensures.whole

pub returns-in-Stopped-clause-played : goal.returns-in-Stopped-clause-played
returns-in-Stopped-clause-played g c =
    let view = c.in-Ok.field-0.engine in
    let ends = c.in-Ok.field-0.ends.items in
    let ended = ended_of (CameTo g.G.Gate.came c.args.gate.now) c.args.engine view c.args.plan.now ends c.in-Ok.ensures.root (subst (λ plan. AllEnded (CameTo g.G.Gate.came c.args.gate.now) (root_of c.args.engine) plan view.tablet.core.trail ends) c.as_slice.ensures c.in-Ok.ensures.ended) in
    of_gathered c.gather-in-Stopped.result _ _ _ _
    (λ played stopped replies whole.
    played_as view c.args.plan.now true played.stopped _ played.replies.items stopped replies
    (played_halted (CameTo g.G.Gate.came c.args.gate.now) view c.args.plan.now ends ended whole (subst (EndsAs view) c.in-Stopped.is c.in-Ok.ensures.ends)))
    c.gather-in-Stopped.ensures.stopped c.gather-in-Stopped.ensures.replies c.gather-in-Stopped.ensures.whole
