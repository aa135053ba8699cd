use Rattle.kt_content.proofs.Publishing.{outputs_show}
use Rattle.kt_content.proofs.new_superblock.outputs_law.Goals as goal

pub returns : goal.returns
returns c = outputs_show
