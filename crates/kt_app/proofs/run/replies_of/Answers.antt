use Rattle.kt_serve.specs.declared.session.SessionEnd.{SessionEnd}
use Rattle.kt_serve.proofs.Lists.{moves_one}
use Rattle.kt_app.proofs.run.replies_of.Goals as goal

pub loop-end-preserved : goal.loop-end-preserved
loop-end-preserved c = record {
  can_next = tt;
  is_finite = tt;
  moved = moves_one (λ (e : SessionEnd). e.replies) _ _ c.in-Some.end _ _ _ ((c.in-Some.ensures).steps.0) c.loop-end.invariant.moved c.in_ok-push.ensures.items;
}
