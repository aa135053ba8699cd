use Rattle.kt_content.proofs.KnownCommits.{commit_known}
use Rattle.kt_content.proofs.lent_superblock.known_law.Goals as goal

pub returns : goal.returns
returns c = commit_known
