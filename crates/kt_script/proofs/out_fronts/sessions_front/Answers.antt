use Rattle.std.proofs.Common.{◌≡◌, ◌+◌, suc, subst, arith}
use Rattle.kt_script.specs.Places.{IsFault}
use Rattle.kt_script.specs.Fronts.{IsWord}
use Rattle.kt_script.specs.Texts.{session_line}
use Rattle.kt_script.proofs.Places.{further_of}
use Rattle.kt_script.proofs.StageLines.{fault_first, fault_later}
use Rattle.kt_script.proofs.out_fronts.sessions_front.Goals as goal

pub returns-then-above-eq0 : goal.returns-then-above-eq0
returns-then-above-eq0 c =
    let number : c.args.above + 1 ≡ suc c.args.above = omega arith in
    fault_first c.args.above c.args.line.now c.further-below.result c.if-above-eq0.true (omega arith)
    (further_of c.further-below.ensures (subst (λ k. IsFault (IsWord (session_line k)) c.args.line.now c.session_front-session.result) number c.session_front-session.ensures) c.word_front-history.ensures)

pub returns-else-above-eq0 : goal.returns-else-above-eq0
returns-else-above-eq0 c =
    let number : c.args.above + 1 ≡ suc c.args.above = omega arith in
    let other = c.if-above-eq0.false in
    fault_later c.args.above c.args.line.now c.further.result (omega arith) (omega arith)
    (further_of c.further.ensures c.reply_front.ensures
    (further_of c.further-below.ensures (subst (λ k. IsFault (IsWord (session_line k)) c.args.line.now c.session_front-session.result) number c.session_front-session.ensures) c.word_front-history.ensures))
