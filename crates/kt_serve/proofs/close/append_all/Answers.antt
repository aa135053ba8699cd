use Rattle.std.proofs.Common.{rules, ◌≡◌, Err, false, ap, subst, ◌∙◌, sym}
use Rattle.kt_serve.specs.Sessions.{has_stop}
use Rattle.kt_serve.specs.Closing.{IsDone}
use Rattle.kt_engine.proofs.Devices.{goes_whole}
use Rattle.kt_serve.proofs.Stops.{no_stop}
use Rattle.kt_serve.proofs.Ending.{at_stop, none_some}
use Rattle.kt_serve.proofs.close.append_all.Goals as goal

pub unreachable-requires-in-Err-Out : goal.unreachable-requires-in-Err-Out
unreachable-requires-in-Err-Out g c =
    let out = (c.log_out.ensures.out c.in-Err-Out.field-0-0).0 (c.in-Err-Out.is ∙ ap Err c.in-Err-Out.field-0-is) in
    none_some c.in-Err-Out.field-0-0 (sym c.requires.home ∙ out.1)

pub returns-then-is_stopped-clause-ends : goal.returns-then-is_stopped-clause-ends
returns-then-is_stopped-clause-ends g c =
    at_stop c.args.engine.now c.standing.ensures.stops (search rules)

pub append_last-requires-clause-none : goal.append_last-requires-clause-none
append_last-requires-clause-none g c =
    ap (λ v. has_stop v.tablet.core.trail) c.in-Ok.ensures.lent.2 ∙ no_stop c.args.engine.now c.standing.ensures.stops (search rules)

-- nothing was out where the log is at home
pub returns-in-Err-Empty-clause-ends : goal.returns-in-Err-Empty-clause-ends
returns-in-Err-Empty-clause-ends g c =
    let goes : c.args.engine.now.tablet.core.stopped ≡ false = search rules in
    let at = c.standing.ensures.at_home c.requires.home in
    subst IsDone (sym c.in-Err-Empty.ensures.stays) record {
      goes = goes;
      none = no_stop c.args.engine.now c.standing.ensures.stops goes;
      queued = (c.log_out.ensures.empty.0 (c.in-Err-Empty.is ∙ ap Err c.in-Err-Empty.field-0-is)).2;
      out = ((c.standing.ensures.home at.0 at.1).known (goes_whole c.args.engine.now c.standing.ensures.whole goes).0).1;
    }

pub returns-in-Err-Memory-clause-ends : goal.returns-in-Err-Memory-clause-ends
returns-in-Err-Memory-clause-ends g c =
    let goes : c.args.engine.now.tablet.core.stopped ≡ false = search rules in
    (ap (λ v. v.tablet.core.stopped) c.in-Err-Memory.ensures.stays ∙ goes, ap (λ v. has_stop v.tablet.core.trail) c.in-Err-Memory.ensures.stays ∙ no_stop c.args.engine.now c.standing.ensures.stops goes)
