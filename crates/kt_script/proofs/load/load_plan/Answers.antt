use Rattle.std.proofs.Common.{◌∙◌, ◌++◌, ◌∷◌, [], arith, ap}
use Rattle.kt_script.proofs.LoadOps.{sessions_to, session_more}
use Rattle.kt_script.proofs.load.load_plan.Goals as goal

pub sessions-preserved : goal.sessions-preserved
sessions-preserved c =
    let n = c.args.count in
    let k = c.sessions.session in
    c.in_ok-push.ensures.items ∙ (ap (λ sessions. sessions ++ c.in_ok-load_session.field-0 ∷ []) c.sessions.invariant ∙ (ap (λ session. sessions_to n k ++ session ∷ []) c.in_ok-load_session.ensures ∙ session_more n k (omega (arith, c.sessions-test.true))))
