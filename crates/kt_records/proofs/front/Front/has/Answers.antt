use Rattle.std.proofs.Common.{sym}
use Rattle.kt_records.proofs.Tops.{is_new}
use Rattle.kt_records.proofs.front.Front.has.Goals as goal

pub returns-then-rises_to : goal.returns-then-rises_to
returns-then-rises_to c = sym (is_new c.args.self.now c.args.key.now (c.rises_to.ensures c.if-rises_to.true))
