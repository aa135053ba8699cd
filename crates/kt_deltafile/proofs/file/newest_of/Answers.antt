use Rattle.std.proofs.Common.{arith}
use Rattle.kt_deltafile.proofs.Newest.{one_more}
use Rattle.kt_deltafile.proofs.file.newest_of.Goals as goal

pub records-preserved : goal.records-preserved
records-preserved c =
    one_more c.records.newest c.max-newest.result c.records.record-index c.args.records.now c.record-item.result c.records-test.true c.record-item.is (omega (arith, c.max-newest.ensures)) (omega (arith, c.max-newest.ensures)) c.records.invariant
