use Rattle.std.proofs.Common.{List, sym, ap, ◌∙◌}
use Rattle.std.specs.Prelude.{slice_get}
use Rattle.std.specs.Option.{option_copied}
use Rattle.kt_history.specs.declared.command.Command.{Command}
use Rattle.kt_history.specs.Replies.{past_after}
use Rattle.kt_script.specs.declared.replies.ReplyLine.{ReplyLine}
use Rattle.kt_judge.specs.Turns.{Stand}
use Rattle.kt_judge.specs.Works.{work_of}
use Rattle.kt_judge.specs.Wrong.{lines_at}
use Rattle.kt_judge.proofs.Answering.{session_both_at}
use Rattle.kt_judge.proofs.wrong.wrong_in.Goals as goal

pub returns-in_ok-wrong-in-Some-Some : goal.returns-in_ok-wrong-in-Some-Some
returns-in_ok-wrong-in-Some-Some c = λ cells past last follows shows.
    let b = c.in-Some-Some in
    session_both_at (work_of cells c.args.script.now) past last c.args.output.now c.args.m.now c.args.at b.session.now c.as_slice-in-Some-Some.result.now c.lines_at-lines.result.now b.replies.now c.as_slice-in-Some-Some-2.result.now c.in_ok-wrong-in-Some-Some.wrong follows
    (ap option_copied (sym b.is-0) ∙ c.item-session.ensures ∙ ap (λ (l : List (List Command)). slice_get l c.args.at) c.as_slice.ensures)
    (ap option_copied (sym b.is-1) ∙ c.item-replies.ensures ∙ ap (λ (l : List (List ReplyLine)). slice_get l c.args.at) c.as_slice-2.ensures)
    c.as_slice-in-Some-Some.ensures (c.lines_at-lines.ensures ∙ ap (λ (turns : List Stand). lines_at turns c.args.at) c.deref.ensures.value) c.as_slice-in-Some-Some-2.ensures
    (c.in_ok-wrong-in-Some-Some.ensures cells (past_after (work_of cells c.args.script.now) past last c.args.output.now.events) shows)
