use Rattle.std.proofs.Common.{◌∙◌, ap, ◌++◌, ◌+◌, ◌≡◌, ◌<◌, length, map, get_or}
use Rattle.kt_script.specs.Texts.{told_session, seen}
use Rattle.kt_script.proofs.Words.{sessions_step}
use Rattle.kt_script.proofs.output.print_sessions.Goals as goal

pub loop-at-preserved : goal.loop-at-preserved
loop-at-preserved c =
    let sessions = c.args.sessions.now in
    let below : c.loop-at.at < length sessions = rw (← c.as_slice-session-items.ensures) c.loop-at-test.true in
    let is : c.session-item.result ≡ get_or sessions c.loop-at.at c.session-item.result = rw c.as_slice-session-items.ensures at c.session-item.is in
    let printed = c.in_ok-print_session.ensures.ok ∙ ap (λ x. c.loop-at.out ++ told_session (c.loop-at.at + 1) (map seen x)) c.as_slice.ensures in
    sessions_step sessions c.loop-at.at c.session-item.result c.args.out.now c.loop-at.out c.print_session.new.out below is c.loop-at.invariant printed
