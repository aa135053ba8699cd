-- Why a tablet is not opened, from why a device gave no answer.
use Rattle.std.specs.Prelude.{Option}
use Rattle.kt_journal.specs.declared.refusal.JournalNo.{JournalNo}
use Rattle.kt_journal.specs.declared.refusal.JournalNo.TheVariants as journal_no
use Rattle.kt_super.specs.declared.refusal.SuperNo.{SuperNo}
use Rattle.kt_super.specs.declared.refusal.SuperNo.TheVariants as super_no
use Rattle.kt_super.specs.declared.refusal.PrepareNo.{PrepareNo}
use Rattle.kt_super.specs.declared.refusal.PrepareNo.TheVariants as prepare_no
use Rattle.kt_files.specs.declared.refusal.FilesNo.{FilesNo}
use Rattle.kt_files.specs.declared.refusal.FilesNo.TheVariants as files_no
use Rattle.kt_files.specs.declared.refusal.RemoveNo.{RemoveNo}
use Rattle.kt_files.specs.declared.refusal.RemoveNo.TheVariants as remove_no
use Rattle.kt_super.specs.declared.meta.Meta.{Meta}
use Rattle.kt_reopen.specs.declared.why.Why.{Why}
use Rattle.kt_reopen.specs.declared.why.Why.TheVariants as why
use Rattle.kt_reopen.specs.Both.{fault_why}

abbrev pub super_why : SuperNo → Why
super_why super_no.Fault = why.Fault
super_why (super_no.Place slot offset) = why.B1 slot offset
super_why super_no.Memory = why.Memory

abbrev pub files_why : FilesNo → Why
files_why files_no.Fault = why.Fault
files_why (files_no.Place file offset) = why.B2 file offset
files_why files_no.Memory = why.Memory

abbrev pub prepare_why : PrepareNo → Why
prepare_why prepare_no.Fault = why.Fault
prepare_why prepare_no.Memory = why.Memory

abbrev pub remove_why : RemoveNo → Why
remove_why remove_no.Fault = why.Fault
remove_why remove_no.Memory = why.Memory

-- why a log was not given
abbrev pub log_why : Option Meta → JournalNo → Why
log_why meta (journal_no.Place offset) = fault_why meta offset
log_why meta journal_no.Fault = why.Fault
log_why meta journal_no.Memory = why.Memory
