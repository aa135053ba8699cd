use Rattle.std.proofs.Common.{◌≡◌, ◌++◌, map, take}
use Rattle.kt_base.specs.Borrowed.{cell_in}
use Rattle.kt_history.specs.Replies.{cell_of}
use Rattle.kt_scan.specs.Whole.{whole_in}
use Rattle.kt_scan.proofs.tested.push_under.Given as goal

abbrev pub invariant-loop-id : goal.invariant-loop-id
invariant-loop-id l = map cell_in l.cells.items ≡ map cell_in l.initial.cells.items ++ map (cell_of (whole_in l.columns l.row)) (take l.id-index l.ids)
