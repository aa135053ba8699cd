use Rattle.std.proofs.Common.{ℕ, take}
use Rattle.kt_history.specs.Rows.{Rows}
use Rattle.kt_judge.specs.Tables.{IsTable, IsTableUpTo, Shows, with_changes}
use Rattle.kt_judge.proofs.writes.put_changes.Given as goal

-- the changes so far are done
abbrev pub invariant-loop-key : goal.invariant-loop-key
invariant-loop-key l = record {
  table : IsTable l.entries.items;
  up_to : IsTableUpTo l.ts l.entries.items;
  rows : (rows : ℕ → Rows) → Shows l.fn.entries.items rows → Shows l.entries.items (with_changes l.ts (take l.key-index l.changes) rows);
}
