use Rattle.kt_rowfiles.proofs.Flushing.{cut_alike}
use Rattle.kt_rowfiles.proofs.writing.cut_law.Goals as goal

pub returns : goal.returns
returns c = cut_alike
