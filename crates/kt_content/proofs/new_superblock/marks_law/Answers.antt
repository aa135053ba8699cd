use Rattle.kt_content.proofs.Replacing.{records_raised}
use Rattle.kt_content.proofs.new_superblock.marks_law.Goals as goal

pub returns : goal.returns
returns c = records_raised
