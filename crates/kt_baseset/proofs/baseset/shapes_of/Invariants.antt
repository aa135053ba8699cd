use Rattle.std.proofs.Common.{◌≡◌, take}
use Rattle.kt_baseset.specs.Tables.{shapes_of}
use Rattle.kt_baseset.proofs.baseset.shapes_of.Given as goal

abbrev pub invariant-columns : goal.invariant-columns
invariant-columns l = l.shapes.items ≡ shapes_of (take l.held-index l.columns)
