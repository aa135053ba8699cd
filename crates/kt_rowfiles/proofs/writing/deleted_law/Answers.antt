use Rattle.kt_rowfiles.proofs.Flushing.{deleted_keeps}
use Rattle.kt_rowfiles.proofs.writing.deleted_law.Goals as goal

pub returns : goal.returns
returns c = deleted_keeps
