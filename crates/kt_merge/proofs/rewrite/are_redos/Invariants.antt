use Rattle.std.proofs.Common.{[], take}
use Rattle.kt_cells.specs.Rules.{EachAfter}
use Rattle.kt_deltafile.specs.declared.file.Way.TheVariants.{Redo}
use Rattle.kt_deltafile.specs.Rules.{Follows}
use Rattle.kt_merge.proofs.rewrite.are_redos.Given as goal

abbrev pub invariant-records : goal.invariant-records
invariant-records l = EachAfter (Follows Redo l.rows) [] (take l.at l.records)
