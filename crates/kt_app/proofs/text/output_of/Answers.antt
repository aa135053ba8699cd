use Rattle.std.proofs.Common.{subst, rules, arith}
use Rattle.std.specs.Prelude.{All}
use Rattle.kt_script.specs.Laws.{EventFits}
use Rattle.kt_app.specs.Session.{on_table}
use Rattle.kt_app.specs.Played.{given}
use Rattle.kt_app.proofs.Texts.{count_shown}
use Rattle.kt_app.proofs.text.output_of.Goals as goal

pub returns-clause-fits : goal.returns-clause-fits
returns-clause-fits c = record {
  count = omega (arith, count_shown (on_table c.args.schema.now) (given c.args.replies.items) 1 c.args.plan.now);
  replies_fit = c.in_ok-put_sessions.ensures.fit;
  events_fit = subst (All EventFits) c.as_slice.ensures c.events_fit.ensures;
  end_fits = search rules;
}
