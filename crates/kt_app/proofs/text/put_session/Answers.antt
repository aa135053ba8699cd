use Rattle.std.proofs.Common.{◌≡◌, ◌++◌, List, map, refl, subst, ap, ◌∙◌}
use Rattle.std.specs.Prelude.{All}
use Rattle.std.specs.Vec.Iter.{into_iter_items}
use Rattle.kt_base.specs.declared.cell.Kind.{Kind}
use Rattle.kt_history.specs.declared.reply.Reply.{Reply}
use Rattle.kt_history.specs.Machine.{Workload}
use Rattle.kt_script.specs.declared.lists.ShownReply.{ShownReply}
use Rattle.kt_script.specs.Laws.{ReplyFits}
use Rattle.kt_script.specs.Texts.{line, session_line, lines_text, told_session, seen, seen_of}
use Rattle.kt_app.specs.Session.{on_table}
use Rattle.kt_app.proofs.Texts.{zipped, told, begun, told_step, fits_step, fits_end, session_is, all_shown_now}
use Rattle.kt_app.proofs.text.put_session.Goals as goal

pub loop-command-init : goal.loop-command-init
loop-command-init c =
    let work : Workload = on_table c.args.schema.now in
    let all : into_iter_items c.into_iter-rest.result ≡ c.args.replies = c.into_iter-rest.ensures.rest ∙ c.into_vec.ensures in
    record {
      text = ap (λ (l : List Reply). c.print_session_line.new.out ++ told work c.args.commands.now l) all
          ∙ begun c.args.out.now (line (session_line c.args.number)) c.print_session_line.new.out (told work c.args.commands.now c.args.replies) c.in_ok-print_session_line.ensures.ok;
      fit = λ rest. subst (λ (l : List Reply). All ReplyFits (zipped work c.args.commands.now l)) all rest;
    }

pub loop-command-preserved : goal.loop-command-preserved
loop-command-preserved c = record {
  text = told_step (on_table c.args.schema.now) c.args.commands.now c.loop-command.command-index c.command-item.result c.loop-command.rest.rest.items c.next.new.self.rest.items c.next.result c.loop-command.rest.rest.len c.next.new.self.rest.len c.in_ok-kinds.kinds c.unwrap_or-reply.result
      c.loop-command-test.true c.command-item.is c.loop-command.rest.rest.ok.0 c.next.new.self.rest.ok.0 c.next.ensures.cases c.in_ok-kinds.ensures c.unwrap_or-reply.ensures c.loop-command.out c.print_reply.new.out _
      (c.in_ok-print_reply.ensures.ok ∙ ap (λ (l : List Kind). c.loop-command.out ++ lines_text (seen_of l c.unwrap_or-reply.result)) c.as_slice.ensures) c.loop-command.invariant.text;
  fit = λ rest. c.loop-command.invariant.fit (fits_step (on_table c.args.schema.now) c.args.commands.now c.loop-command.command-index c.command-item.result c.loop-command.rest.rest.items c.next.new.self.rest.items c.next.result c.loop-command.rest.rest.len c.next.new.self.rest.len c.in_ok-kinds.kinds c.unwrap_or-reply.result
      c.loop-command-test.true c.command-item.is c.loop-command.rest.rest.ok.0 c.next.new.self.rest.ok.0 c.next.ensures.cases c.in_ok-kinds.ensures c.unwrap_or-reply.ensures ReplyFits (c.reply_fits.ensures.numbers, c.reply_fits.ensures.short _) rest);
}

pub returns-clause-text : goal.returns-clause-text
returns-clause-text c =
    all_shown_now (λ l. told (on_table c.args.schema.now) l c.loop-command.rest.rest.items) refl c.args.commands.now c.loop-command.command-index c.loop-command.out _ c.loop-command-test.false c.loop-command.invariant.text
    ∙ ap (λ (l : List ShownReply). c.args.out.now ++ told_session c.args.number (map seen l)) (session_is (on_table c.args.schema.now) c.args.commands.now c.args.replies)

pub returns-clause-fit : goal.returns-clause-fit
returns-clause-fit c =
    subst (All ReplyFits) (session_is (on_table c.args.schema.now) c.args.commands.now c.args.replies)
    (c.loop-command.invariant.fit (fits_end ReplyFits (on_table c.args.schema.now) c.args.commands.now c.loop-command.command-index c.loop-command.rest.rest.items c.loop-command-test.false))
