-- Why files are not removed, from why a list of files was not given.
use Rattle.kt_disk.specs.declared.disk.DiskNo.{DiskNo}
use Rattle.kt_disk.specs.declared.disk.DiskNo.TheVariants as disk_no
use Rattle.kt_files.specs.declared.refusal.RemoveNo.{RemoveNo}
use Rattle.kt_files.specs.declared.refusal.RemoveNo.TheVariants as remove_no

abbrev pub no_of : DiskNo → RemoveNo
no_of disk_no.Failed = remove_no.Fault
no_of disk_no.Memory = remove_no.Memory
