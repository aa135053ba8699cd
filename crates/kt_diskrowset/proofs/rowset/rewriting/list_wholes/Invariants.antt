use Rattle.std.proofs.Common.{◌≡◌, ◌++◌, ℕ, take}
use Rattle.kt_rowfiles.specs.Files.{records_for}
use Rattle.kt_diskrowset.specs.Mems.{steps_in_mems}
use Rattle.kt_diskrowset.proofs.rowset.rewriting.list_wholes.Given as goal

abbrev pub invariant-mems : goal.invariant-mems
invariant-mems l = (n : ℕ) → records_for n l.list.items ≡ records_for n l.initial.list.items ++ steps_in_mems l.pool n (take l.mem-index l.mems)
