use Rattle.std.proofs.Common.{drop}
use Rattle.kt_outputs.specs.Outputs.{AreOfWay}
use Rattle.kt_outputs.proofs.whole.are_of_way.Given as goal

abbrev pub invariant-files : goal.invariant-files
invariant-files l = AreOfWay l.way l.rows (drop l.file-index l.files) → AreOfWay l.way l.rows l.files
