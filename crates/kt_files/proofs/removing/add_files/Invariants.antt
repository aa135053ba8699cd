use Rattle.std.proofs.Common.{◌++◌, take}
use Rattle.kt_super.specs.Rowsets.{HaveTheSame, numbers_of}
use Rattle.kt_files.proofs.removing.add_files.Given as goal

abbrev pub invariant-files : goal.invariant-files
invariant-files l = HaveTheSame l.named.keys (l.initial.named.keys ++ numbers_of (take l.file-index l.files))
