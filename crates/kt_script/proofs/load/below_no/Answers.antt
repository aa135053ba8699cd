use Rattle.std.proofs.Common.{◌∙◌, Some, ap, sym}
use Rattle.kt_script.specs.declared.leads.Lead.TheVariants as lead
use Rattle.kt_script.specs.Pieces.{words_of}
use Rattle.kt_script.specs.Scripts.{first_lead}
use Rattle.kt_script.proofs.LoadLines.{below_is}
use Rattle.kt_script.proofs.load.below_no.Goals as goal

pub returns-in-Some-Session : goal.returns-in-Some-Session
returns-in-Some-Session c = λ columns. sym (below_is columns (words_of c.args.line.now) (Some lead.Session) (ap first_lead c.cut_word.ensures ∙ sym (rw c.in-Some-Session.field-0-is at c.in-Some-Session.ensures)))

pub returns-in-Some-Load : goal.returns-in-Some-Load
returns-in-Some-Load c = λ columns. sym (below_is columns (words_of c.args.line.now) (Some lead.Load) (ap first_lead c.cut_word.ensures ∙ sym (rw c.in-Some-Load.field-0-is at c.in-Some-Load.ensures)))
