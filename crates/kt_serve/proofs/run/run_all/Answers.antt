use Rattle.std.proofs.Common.{rules, ◌≡◌, refl, subst, length, slice_get, Some}
use Rattle.std.proofs.lemmas.Option.{slice_get_read}
use denote.Exit.{no}
use denote.Param.Send.{param_send, param_sync, arg_send, arg_sync, shr_sync, shr_slice_sync}
use Rattle.std.proofs.alloc.Global.TheSendSync as global
use Rattle.kt_history.proofs.command.Session.TheSendSync as session
use Rattle.kt_schema.proofs.schema.Schema.TheSendSync as schema
use Rattle.kt_serve.proofs.places.Place.TheSendSync as place
use Rattle.kt_serve.proofs.Sent.{engine_send, shared_sync, captured_sync}
use Rattle.kt_serve.specs.Points.{CameTo}
use Rattle.kt_serve.specs.Runs.{PlaceHasRun}
use Rattle.kt_serve.proofs.Lists.{changed_at}
use Rattle.kt_serve.proofs.run.run_all.Goals as goal

pub for_each_mut-requires-send-T : goal.for_each_mut-requires-send-T
for_each_mut-requires-send-T g c = λ κs within.
    let e = engine_send _ _ _ g.L.Disk g.D.Disk g.C.Clock c.type_bounds.send-L c.type_bounds.send-D c.type_bounds.send-C in
    param_send 1 _ (arg_send _ no _ (place.the_send _ _ _ _ e))

pub for_each_mut-requires-sync-F : goal.for_each_mut-requires-sync-F
for_each_mut-requires-sync-F g c = λ κs within.
    let t = shared_sync _ _ _ g.L.Disk g.D.Disk g.C.Clock c.type_bounds.send-L c.type_bounds.send-D c.type_bounds.send-C in
    param_sync 2 _ (arg_sync _ no _ (captured_sync _ _ _ _ _ _ _ _ (shr_sync _ _ _ c.type_bounds.sync-R) (shr_sync _ _ _ global.the_sync) (shr_sync _ _ _ schema.the_sync) (shr_sync _ _ _ t) (shr_slice_sync _ _ _ session.the_sync) (shr_sync _ _ _ c.type_bounds.sync-G) (shr_sync _ _ _ c.type_bounds.sync-H)))

pub for_each_mut-requires-clause-accepts : goal.for_each_mut-requires-clause-accepts
for_each_mut-requires-clause-accepts g c = λ κs within i p lt e κs' r r' n same ranges small u u' m κs'' within'.
    let here : slice_get c.args.places.now i ≡ Some p.now = slice_get_read c.args.places.now (length c.args.places.now) i p.now refl lt e in
    (c.requires.enters i p.now here, (c.requires.on i p.now here, (c.requires.rests i p.now here, (c.requires.idle i p.now here, c.requires.runs i p.now here))))

pub returns-then-threads-gt0 : goal.returns-then-threads-gt0
returns-then-threads-gt0 g c = λ j p e.
    let at = changed_at _ _ c.args.places.now c.for_each_mut.new.s c.for_each_mut.ensures c.for_each_mut.auto.s j p e in
    let run : PlaceHasRun (CameTo g.G.Gate.came c.args.gate.now) c.args.plan.now j at.2.argument.now at.2.after_call.now = search (rules, at.2.call) in
    (at.0, at.1, subst (λ x. PlaceHasRun (CameTo g.G.Gate.came c.args.gate.now) c.args.plan.now j p x) at.2.left (subst (λ x. PlaceHasRun (CameTo g.G.Gate.came c.args.gate.now) c.args.plan.now j x at.2.after_call.now) at.2.argument_is run))
