use Rattle.std.proofs.Common.{◌≡◌, ◌≤◌, length, map, take}
use Rattle.std.specs.Vec.{vec_capacity}
use Rattle.kt_stores.specs.Ranges.{ranges_of, KeysRise}
use Rattle.kt_stores.proofs.range_tree.ranges_in.Given as goal

abbrev pub invariant-loop-rowset : goal.invariant-loop-rowset
invariant-loop-rowset g l = record {
  ranges : l.ranges.items ≡ ranges_of (map g.R.FileStore.files (take l.rowset-index l.rowsets));
  rise : KeysRise (map g.R.FileStore.files (take l.rowset-index l.rowsets));
  count : length l.ranges.items ≡ l.rowset-index;
  room : length l.rowsets ≤ vec_capacity l.ranges;
}
