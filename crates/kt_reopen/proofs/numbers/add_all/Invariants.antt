use Rattle.std.proofs.Common.{List, take, ◌++◌}
use Rattle.kt_history.specs.declared.target.Target.{Target}
use Rattle.kt_reopen.specs.Opened.{IsNamedBy}
use Rattle.kt_reopen.proofs.numbers.add_all.Given as goal

abbrev pub invariant-targets : goal.invariant-targets
invariant-targets l = (before : List Target) → IsNamedBy l.initial.named before → IsNamedBy l.named (before ++ take l.target-index l.targets)
