use Rattle.kt_rowfiles.proofs.Merging.{joined_alike}
use Rattle.kt_rowfiles.proofs.writing.joined_law.Goals as goal

pub returns : goal.returns
returns c = joined_alike
