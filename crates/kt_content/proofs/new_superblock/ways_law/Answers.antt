use Rattle.kt_content.proofs.TwoPhases.{ways_replace}
use Rattle.kt_content.proofs.new_superblock.ways_law.Goals as goal

pub returns : goal.returns
returns c = ways_replace
