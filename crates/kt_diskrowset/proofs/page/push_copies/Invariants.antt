use Rattle.std.proofs.Common.{◌≡◌, ◌++◌, take}
use Rattle.kt_baseset.specs.Asked.{cells_asked}
use Rattle.kt_diskrowset.proofs.page.push_copies.Given as goal

abbrev pub invariant-columns : goal.invariant-columns
invariant-columns l = l.cells.items ≡ l.initial.cells.items ++ cells_asked (take l.column-index l.columns) l.row
