use Rattle.kt_content.proofs.KnownCommits.{not_early}
use Rattle.kt_content.proofs.lent_superblock.not_early_law.Goals as goal

pub returns : goal.returns
returns c = not_early
