use Rattle.std.proofs.Common.{◌≡◌, map, take}
use Rattle.std.specs.List.{AllByRecursion}
use Rattle.kt_tablet.specs.Jobs.{filled_of}
use Rattle.kt_engine.specs.Columns.{FitsTable}
use Rattle.kt_engine.proofs.filled.fill_all.Given as goal

abbrev pub invariant-changes : goal.invariant-changes
invariant-changes l = record {
  filled : l.out ≡ map (filled_of l.fill) (take l.at l.changes);
  table : AllByRecursion (FitsTable l.columns) l.out;
}
