use Rattle.kt_rowfiles.proofs.Flushing.{dropped_alike}
use Rattle.kt_rowfiles.proofs.writing.dropped_law.Goals as goal

pub returns : goal.returns
returns c = dropped_alike
