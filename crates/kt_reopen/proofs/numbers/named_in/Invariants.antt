use Rattle.std.proofs.Common.{take}
use Rattle.kt_reopen.specs.Numbers.{named_by}
use Rattle.kt_reopen.specs.Opened.{IsNamedBy}
use Rattle.kt_reopen.proofs.numbers.named_in.Given as goal

abbrev pub invariant-records : goal.invariant-records
invariant-records l = IsNamedBy l.named (named_by (take l.at l.records))
