use Rattle.kt_histlaws.proofs.Disks.{disk-row}
use Rattle.kt_histlaws.proofs.laws.disk_law.Goals as goal

pub returns : goal.returns
returns c = disk-row
