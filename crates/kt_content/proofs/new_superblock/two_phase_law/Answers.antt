use Rattle.kt_content.proofs.Publishing.{two_phases}
use Rattle.kt_content.proofs.new_superblock.two_phase_law.Goals as goal

pub returns : goal.returns
returns c = two_phases
