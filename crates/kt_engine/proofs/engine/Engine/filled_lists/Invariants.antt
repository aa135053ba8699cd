use Rattle.std.proofs.Common.{◌≡◌, map, take}
use Rattle.std.specs.List.{AllByRecursion}
use Rattle.kt_joblaws.specs.Apart.{AreOfTable}
use Rattle.kt_tablet.specs.Jobs.{filled_of}
use Rattle.kt_engine.proofs.engine.Engine.filled_lists.Given as goal

abbrev pub invariant-lists : goal.invariant-lists
invariant-lists g l = record {
  lists : l.out.items ≡ map (map (filled_of l.fill)) (take l.list-index l.list-items);
  table : AllByRecursion (AreOfTable l.columns) l.out.items;
}
