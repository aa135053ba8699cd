use Rattle.std.proofs.Common.{ap}
use Rattle.kt_scan.specs.Encoded.{keys_of}
use Rattle.kt_scan.specs.Lines.{line_of}
use Rattle.kt_scan.proofs.Asking.{line_alike}
use Rattle.kt_scan.proofs.scanning.row_for.Goals as goal

pub returns-in_ok-found-in-Some : goal.returns-in_ok-found-in-Some
returns-in_ok-found-in-Some g c =
    line_alike c.args.asked.now.schema.now c.args.asked.now.scan.now c.args.key.now _ _ _ c.in-Some.is (rw c.args.asked.now.asks at c.in_ok-found-in-Some.ensures)

pub returns-in_ok-found-in-None : goal.returns-in_ok-found-in-None
returns-in_ok-found-in-None g c = ap (line_of (keys_of c.args.asked.now.schema.now) c.args.asked.now.scan.now c.args.key.now) c.in_ok-found-in-None.ensures
