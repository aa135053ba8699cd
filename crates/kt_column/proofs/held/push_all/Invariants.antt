use Rattle.std.proofs.Common.{◌≡◌, ◌++◌, take}
use Rattle.kt_column.proofs.held.push_all.Given as goal

abbrev pub invariant-texts : goal.invariant-texts
invariant-texts l = l.out ≡ l.initial.out ++ take l.i l.texts
