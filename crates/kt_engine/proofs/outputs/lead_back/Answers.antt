use Rattle.std.proofs.Common.{subst, arith}
use Rattle.std.proofs.lemmas.List.{take_all}
use Rattle.kt_engine.proofs.NewRowsets.{LeadBack, lead_more}
use Rattle.kt_engine.proofs.outputs.lead_back.Goals as goal

pub rowsets-preserved : goal.rowsets-preserved
rowsets-preserved c = lead_more c.args.rowsets.now c.rowsets.rowset-index c.rowset-item.result c.rowsets-test.true c.rowset-item.is c.rowsets.invariant (c.in_ok-undos_fit.ensures.lead c.if-not-branch.false)

pub returns : goal.returns
returns c = λ yes. subst LeadBack (take_all c.rowsets.rowset-index c.args.rowsets.now (omega arith)) c.rowsets.invariant
