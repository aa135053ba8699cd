use Rattle.std.proofs.Common.{◌≡◌, ◌^◌, List, take, length, min}
use Rattle.std.specs.List.{sum_by}
use Rattle.kt_history.specs.declared.changes.KeyChange.{KeyChange}
use Rattle.kt_engine.proofs.job.are_many.Given as goal

abbrev pub invariant-lists : goal.invariant-lists
invariant-lists l = l.count ≡ min (sum_by (λ (list : List KeyChange). length list) (take l.list-index l.lists)) (2 ^ 31)
