use Rattle.std.proofs.Common.{◌≡◌, [], ℕ, take}
use Rattle.kt_diskrowset.specs.Mems.{steps_in_mems}
use Rattle.kt_diskrowset.proofs.rowset.rewriting.are_vacant.Given as goal

abbrev pub invariant-mems : goal.invariant-mems
invariant-mems l = (n : ℕ) → steps_in_mems l.pool n (take l.mem-index l.mems) ≡ []
