use Rattle.kt_content.proofs.Replacing.{publishes_once}
use Rattle.kt_content.proofs.new_superblock.publish_once_law.Goals as goal

pub returns : goal.returns
returns c = publishes_once
