use Rattle.kt_rowfiles.proofs.Flushing.{written_leads}
use Rattle.kt_rowfiles.proofs.writing.leading_law.Goals as goal

pub returns : goal.returns
returns c = written_leads
