use Rattle.std.proofs.Common.{◌≡◌, ◌≤◌, ◌+◌, ◌++◌, map, length}
use Rattle.std.specs.List.{AllByRecursion}
use Rattle.std.specs.Vec.{vec_capacity}
use Rattle.std.specs.Vec.Iter.{into_iter_items}
use Rattle.kt_diskrowset.specs.Data.{store_in}
use Rattle.kt_joblaws.specs.Compacts.{TellsTable}
use Rattle.kt_merge.specs.Merge.{IsReadable}
use Rattle.kt_engine.proofs.telling.all_told.Given as goal

abbrev pub invariant-rest : goal.invariant-rest
invariant-rest l = record {
  left : AllByRecursion IsReadable (into_iter_items l.rest);
  room : length l.list.items + length (into_iter_items l.rest) ≤ vec_capacity l.list;
  stores : map store_in l.list.items ++ map store_in (into_iter_items l.rest) ≡ map store_in l.fn.rowsets.items;
  table : AllByRecursion (TellsTable l.columns) l.list.items;
  readable : AllByRecursion IsReadable l.list.items;
}

abbrev pub decreases-rest : goal.decreases-rest
decreases-rest l = length (into_iter_items l.rest)
