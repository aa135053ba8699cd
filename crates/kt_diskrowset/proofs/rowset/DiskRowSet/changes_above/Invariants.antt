use Rattle.std.proofs.Common.{◌≡◌, ◌≤◌, ◌-◌, take, length}
use Rattle.kt_diskrowset.specs.Missed.{changes_from}
use Rattle.kt_diskrowset.specs.Rowset.{fresh_of}
use Rattle.kt_diskrowset.proofs.rowset.DiskRowSet.changes_above.Given as goal

abbrev pub invariant-rows : goal.invariant-rows
invariant-rows l = record {
  within : l.from ≤ length l.self.base.set.value.rows;
  so : l.list ≡ changes_from l.above (fresh_of l.self l.pool) 0 (take l.from l.self.base.set.value.rows);
}

abbrev pub decreases-rows : goal.decreases-rows
decreases-rows l = length l.self.base.set.value.rows - l.from
