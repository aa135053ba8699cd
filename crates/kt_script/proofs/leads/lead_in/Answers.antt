use Rattle.std.proofs.Common.{sym}
use Rattle.kt_script.proofs.FirstWords.{op_lead}
use Rattle.kt_script.proofs.leads.lead_in.Goals as goal

pub returns-in-Some : goal.returns-in-Some
returns-in-Some c = sym (op_lead c.args.text.now c.in-Some.kind (sym c.in-Some.ensures))
