use Rattle.std.proofs.Common.{◌≡◌, ◌++◌, take}
use Rattle.kt_column.proofs.held.push_entries.Given as goal

abbrev pub invariant-items : goal.invariant-items
invariant-items l = l.out ≡ l.initial.out ++ take l.i l.items
