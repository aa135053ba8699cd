use Rattle.kt_rowfiles.proofs.Ordered.{read_from_history}
use Rattle.kt_rowfiles.proofs.laws.history_law.Goals as goal

pub returns : goal.returns
returns c = read_from_history
