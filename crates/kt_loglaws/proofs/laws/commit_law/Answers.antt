use Rattle.kt_loglaws.proofs.Replays.{commit_changes_nothing}
use Rattle.kt_loglaws.proofs.laws.commit_law.Goals as goal

pub returns : goal.returns
returns c = commit_changes_nothing
