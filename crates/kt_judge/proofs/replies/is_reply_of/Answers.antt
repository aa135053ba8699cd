use Rattle.std.proofs.Common.{◌≡◌, List, Option, map, sym, ap, subst}
use Rattle.kt_history.specs.declared.command.Command.{Command}
use Rattle.kt_scan.specs.Encoded.{keys_of}
use Rattle.kt_script.specs.Texts.{row_text}
use Rattle.kt_history.specs.declared.event.Event.{Event}
use Rattle.kt_history.specs.declared.change.Outcome.{Outcome}
use Rattle.kt_history.specs.History.{rows_at}
use Rattle.kt_history.specs.Replies.{reply_of, shown_by}
use Rattle.kt_script.specs.declared.replies.ReplyLine.TheVariants as reply
use Rattle.kt_judge.specs.Decided.{Decided}
use Rattle.kt_judge.specs.Works.{work_of}
use Rattle.kt_judge.specs.Verdicts.{kinds_shown, Prints}
use Rattle.std.specs.Option.{option_copied}
use Rattle.kt_judge.specs.Machine.{ops_in}
use Rattle.kt_judge.proofs.Answering.{outcomes_at}
use Rattle.kt_judge.proofs.replies.is_reply_of.Goals as goal

pub returns-in-End : goal.returns-in-End
returns-in-End c = λ cells whole shows.
    let e = c.in-End in
    subst (λ (line : Event). Decided c.is_at.result (Prints (kinds_shown (work_of cells c.args.script.now) c.args.command.now) c.args.stopped (reply_of (work_of cells c.args.script.now) whole line) c.args.printed.now)) (sym e.is)
    (subst (λ (os : List Outcome). Decided c.is_at.result (c.args.printed.now ≡ reply.At e.ts os)) (outcomes_at (work_of cells c.args.script.now) whole c.args.table.now.entries.items e.s e.i e.ts (ops_in (option_copied c.write_at.result)) shows (ap ops_in c.write_at.ensures)) c.is_at.ensures)

pub returns-in_ok-same-in-Rows : goal.returns-in_ok-same-in-Rows
returns-in_ok-same-in-Rows c = λ cells whole shows.
    let e = c.in-Rows in
    subst (λ (line : Event). Decided c.in_ok-same-in-Rows.same (Prints (kinds_shown (work_of cells c.args.script.now) c.args.command.now) c.args.stopped (reply_of (work_of cells c.args.script.now) whole line) c.args.printed.now)) (sym e.is)
    (subst (λ (named : Option Command). Decided c.in_ok-same-in-Rows.same (c.args.printed.now ≡ reply.Rows e.t (map (row_text (kinds_shown (work_of cells c.args.script.now) c.args.command.now)) (shown_by (keys_of c.args.script.now.schema) named (rows_at whole e.t)))))
    c.command_at-named.ensures (c.in_ok-same-in-Rows.ensures cells (rows_at whole e.t) (shows e.t)))
