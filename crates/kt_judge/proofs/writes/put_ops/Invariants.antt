use Rattle.std.proofs.Common.{ℕ, take, ◌-◌}
use Rattle.kt_history.specs.Rows.{Rows}
use Rattle.kt_history.specs.Operations.{changes_on}
use Rattle.kt_judge.specs.Tables.{IsTable, IsTableUpTo, Shows, with_changes}
use Rattle.kt_judge.proofs.writes.put_ops.Given as goal

-- the operations so far are done
abbrev pub invariant-ops : goal.invariant-ops
invariant-ops l = record {
  table : IsTable l.entries.items;
  up_to : IsTableUpTo l.ts l.entries.items;
  rows : (rows : ℕ → Rows) → Shows l.fn.entries.items rows → Shows l.entries.items (with_changes l.ts (changes_on l.fill (rows (l.ts - 1)) (take l.at l.ops)) rows);
}
