use Rattle.std.proofs.Common.{List, take, ◌++◌}
use Rattle.kt_history.specs.declared.target.Target.{Target}
use Rattle.kt_reopen.specs.Numbers.{named_of}
use Rattle.kt_reopen.specs.Opened.{IsNamedBy}
use Rattle.kt_reopen.proofs.numbers.add_rows.Given as goal

abbrev pub invariant-rows : goal.invariant-rows
invariant-rows l = (before : List Target) → IsNamedBy l.initial.named before → IsNamedBy l.named (before ++ named_of (take l.row-index l.rows))
