use Rattle.std.proofs.Common.{drop}
use Rattle.kt_reopen.proofs.Gates.{Gate}
use Rattle.kt_reopen.proofs.records.gate_of.Given as goal

abbrev pub invariant-records : goal.invariant-records
invariant-records l = Gate l.ts l.records l.gate (drop l.at l.records)
