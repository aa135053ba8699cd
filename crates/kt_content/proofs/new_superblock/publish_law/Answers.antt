use Rattle.kt_content.proofs.Replacing.{publishes_twice}
use Rattle.kt_content.proofs.new_superblock.publish_law.Goals as goal

pub returns : goal.returns
returns c = publishes_twice
