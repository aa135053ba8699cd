use Rattle.std.proofs.Common.{◌∙◌}
use Rattle.kt_tablet.proofs.amend.fill_asked.Goals as goal

pub returns-then-all : goal.returns-then-all
returns-then-all c = c.in_ok-all.ensures.all c.if-all.true c.args.fill.now

pub returns : goal.returns
returns c = λ id yes. c.in_ok-set_asked_last.ensures id yes ∙ c.in_ok-all.ensures.under c.args.fill.now id yes
