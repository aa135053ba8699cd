use Rattle.kt_super.proofs.Supers.{superblock_told}
use Rattle.kt_super.proofs.laws.slot_law.Goals as goal

pub returns : goal.returns
returns c = superblock_told
