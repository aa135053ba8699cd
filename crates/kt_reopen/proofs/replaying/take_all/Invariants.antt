use Rattle.std.proofs.Common.{◌≡◌, ◌++◌, None, drop}
use Rattle.kt_history.specs.declared.target.Target.{Target}
use Rattle.kt_history.specs.Rows.{Row}
use Rattle.kt_content.specs.Places.{Place}
use Rattle.kt_reopen.specs.Owed.{rows_told}
use Rattle.kt_reopen.specs.Standing.{placed}
use Rattle.kt_reopen.specs.Walks.{NamesEach}
use Rattle.kt_reopen.proofs.WritesDone.{AlongOps}
use Rattle.kt_reopen.proofs.replaying.take_all.Given as goal

abbrev pub invariant-ops : goal.invariant-ops
invariant-ops l = record {
  along : AlongOps l.meta l.ts l.initial.stores l.ops None l.stores (drop l.at l.ops) None;
  told : (fill : Row) (name : Place → Target) → NamesEach name l.initial.stores → l.rows.items ++ rows_told fill name l.ts (drop l.at l.ops) (placed fill l.stores) ≡ rows_told fill name l.ts l.ops (placed fill l.initial.stores);
}
