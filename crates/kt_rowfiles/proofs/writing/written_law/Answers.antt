use Rattle.kt_rowfiles.proofs.Flushing.{written_keeps}
use Rattle.kt_rowfiles.proofs.writing.written_law.Goals as goal

pub returns : goal.returns
returns c = written_keeps
