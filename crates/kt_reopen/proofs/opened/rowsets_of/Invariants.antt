use Rattle.std.proofs.Common.{◌≡◌, ◌++◌, List, length, drop}
use Rattle.std.specs.Vec.Iter.{into_iter_items}
use Rattle.kt_diskrowset.specs.declared.rowset.DiskRowSet.{DiskRowSet}
use Rattle.kt_files.specs.Held.{AreFresh, numbers_in, numbers_named}
use Rattle.kt_history.specs.declared.target.Target.{Target}
use Rattle.kt_reopen.specs.Opened.{IsNamedBy, AreRowsetsOf}
use Rattle.kt_reopen.proofs.opened.rowsets_of.Given as goal

abbrev pub invariant-rowsets : goal.invariant-rowsets
invariant-rowsets l = record {
  long : length l.opened.items ≡ l.rowset-index;
  numbers : numbers_in (into_iter_items l.rest) ≡ numbers_named (drop l.rowset-index l.meta.rowsets);
  fresh : AreFresh (into_iter_items l.rest);
  more : (targets : List Target) → IsNamedBy l.named targets → (ss : List DiskRowSet) → AreRowsetsOf targets (drop l.rowset-index l.meta.rowsets) (into_iter_items l.rest) ss
      → AreRowsetsOf targets l.meta.rowsets l.fn.rowsets.items (l.opened.items ++ ss);
}
