use Rattle.std.proofs.Common.{take}
use Rattle.kt_joblaws.specs.Compacts.{AreRecordsOf}
use Rattle.kt_engine.proofs.telling.check_records.Given as goal

abbrev pub invariant-records : goal.invariant-records
invariant-records l = AreRecordsOf l.columns (take l.record-index l.records)
