use Rattle.std.proofs.Common.{take}
use Rattle.kt_super.specs.Rowsets.{HaveTheSame}
use Rattle.kt_files.specs.Named.{named_in}
use Rattle.kt_files.proofs.removing.names_of.Given as goal

abbrev pub invariant-rowsets : goal.invariant-rowsets
invariant-rowsets l = HaveTheSame l.named.keys (named_in (take l.rowset-index l.rowsets))
