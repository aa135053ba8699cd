use Rattle.std.proofs.Common.{◌++◌, ◌+◌, List, refl, subst, ap, map, ◌∙◌}
use Rattle.std.specs.Prelude.{All, unwrap_or}
use Rattle.kt_history.specs.declared.reply.Reply.{Reply}
use Rattle.kt_script.specs.declared.lists.ShownReply.{ShownReply}
use Rattle.kt_script.specs.Laws.{ReplyFits}
use Rattle.kt_script.specs.Texts.{told_sessions, seen}
use Rattle.kt_app.specs.Session.{on_table}
use Rattle.kt_app.proofs.Texts.{zipped_all, told_all, told_all_step, all_fit_step, all_fit_end, sessions_are, all_shown_now}
use Rattle.kt_app.proofs.text.put_sessions.Goals as goal

pub loop-at-init : goal.loop-at-init
loop-at-init c = record {
  text = ap (λ (l : List (List Reply)). c.args.out.now ++ told_all 1 (on_table c.args.schema.now) c.args.plan.now l) c.into_iter-rest.ensures.rest;
  fit = λ rest. subst (λ (l : List (List Reply)). All (All ReplyFits) (zipped_all (on_table c.args.schema.now) c.args.plan.now l)) c.into_iter-rest.ensures.rest rest;
}

pub loop-at-preserved : goal.loop-at-preserved
loop-at-preserved c = record {
  text = told_all_step (on_table c.args.schema.now) c.args.plan.now c.loop-at.at c.index-plan-at.result c.as_slice.result.now c.loop-at.rest.rest.items c.next.new.self.rest.items c.next.result c.unwrap_or-replies.result c.loop-at.rest.rest.len c.next.new.self.rest.len
      c.loop-at-test.true c.index-plan-at.is c.loop-at.rest.rest.ok.0 c.next.new.self.rest.ok.0 c.next.ensures.cases c.as_slice.ensures (c.unwrap_or-replies.ensures ∙ ap (unwrap_or c.next.result) c.none.ensures)
      c.loop-at.out c.put_session.new.out _ c.in_ok-put_session.ensures.text c.loop-at.invariant.text;
  fit = λ rest. c.loop-at.invariant.fit (all_fit_step (on_table c.args.schema.now) c.args.plan.now c.loop-at.at c.index-plan-at.result c.as_slice.result.now c.loop-at.rest.rest.items c.next.new.self.rest.items c.next.result c.unwrap_or-replies.result c.loop-at.rest.rest.len c.next.new.self.rest.len
      c.loop-at-test.true c.index-plan-at.is c.loop-at.rest.rest.ok.0 c.next.new.self.rest.ok.0 c.next.ensures.cases c.as_slice.ensures (c.unwrap_or-replies.ensures ∙ ap (unwrap_or c.next.result) c.none.ensures)
      (All ReplyFits) c.in_ok-put_session.ensures.fit rest);
}

pub returns-clause-text : goal.returns-clause-text
returns-clause-text c =
    all_shown_now (λ l. told_all (c.loop-at.at + 1) (on_table c.args.schema.now) l c.loop-at.rest.rest.items) refl c.args.plan.now c.loop-at.at c.loop-at.out _ c.loop-at-test.false c.loop-at.invariant.text
    ∙ ap (λ (l : List (List ShownReply)). c.args.out.now ++ told_sessions 1 (map (map seen) l)) (sessions_are (on_table c.args.schema.now) c.args.plan.now c.args.replies.items)

pub returns-clause-fit : goal.returns-clause-fit
returns-clause-fit c =
    subst (All (All ReplyFits)) (sessions_are (on_table c.args.schema.now) c.args.plan.now c.args.replies.items)
    (c.loop-at.invariant.fit (all_fit_end (All ReplyFits) (on_table c.args.schema.now) c.args.plan.now c.loop-at.at c.loop-at.rest.rest.items c.loop-at-test.false))
