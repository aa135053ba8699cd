use Rattle.kt_content.proofs.Successors.{all_carry_over}
use Rattle.kt_content.proofs.new_superblock.carry_law.Goals as goal

pub returns : goal.returns
returns c = all_carry_over
