use Rattle.std.proofs.Common.{length, ap, arith}
use Rattle.std.proofs.lemmas.List.{length-map}
use Rattle.kt_disk.specs.Noted.{event_in}
use Rattle.kt_disk.proofs.calls.CallList.len.Goals as goal

pub returns : goal.returns
returns c = omega (arith, ap length c.self.view_is, length-map c.self.inside.calls.items (event_in c.self.inside.bytes.items))
