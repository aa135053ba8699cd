use Rattle.std.proofs.Common.{◌≡◌, ◌++◌, ℕ, take}
use Rattle.kt_rowfiles.specs.Files.{records_for}
use Rattle.kt_diskrowset.proofs.Reading.{upto_in}
use Rattle.kt_diskrowset.proofs.rowset.reading.list_all.Given as goal

abbrev pub invariant-mems : goal.invariant-mems
invariant-mems l = (n : ℕ) → records_for n l.list.items ≡ records_for n l.initial.list.items ++ upto_in l.pool n l.upto (take l.mem-index l.mems)
