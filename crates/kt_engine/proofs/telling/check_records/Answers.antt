use Rattle.std.proofs.Common.{subst, arith}
use Rattle.std.proofs.lemmas.List.{take_all}
use Rattle.kt_joblaws.specs.Apart.{IsOfTable}
use Rattle.kt_joblaws.specs.Compacts.{AreRecordsOf}
use Rattle.kt_engine.proofs.Entries.{all_more}
use Rattle.kt_engine.proofs.telling.check_records.Goals as goal

pub records-preserved : goal.records-preserved
records-preserved c = all_more (λ d. IsOfTable c.args.columns.now d.change) c.args.records.now c.records.record-index c.record-item.result c.records-test.true c.record-item.is c.records.invariant c.in_ok-check_record.ensures

pub returns : goal.returns
returns c = subst (AreRecordsOf c.args.columns.now) (take_all c.records.record-index c.args.records.now (omega arith)) c.records.invariant
