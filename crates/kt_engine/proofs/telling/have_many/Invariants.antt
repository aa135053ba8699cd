use Rattle.std.proofs.Common.{◌≡◌, ◌^◌, take, min}
use Rattle.std.specs.List.{sum_by}
use Rattle.kt_merge.specs.Merge.{changes_in}
use Rattle.kt_engine.proofs.telling.have_many.Given as goal

abbrev pub invariant-rowsets : goal.invariant-rowsets
invariant-rowsets l = l.count ≡ min (sum_by changes_in (take l.rowset-index l.rowsets)) (2 ^ 31)
