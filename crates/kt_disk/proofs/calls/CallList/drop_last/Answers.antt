use Rattle.std.proofs.Common.{arith, length}
use Rattle.std.proofs.lemmas.List.Elements.{All-take}
use Rattle.kt_disk.specs.Noted.{LiesIn}
use Rattle.kt_disk.proofs.Noted.{events_but_last}
use Rattle.kt_disk.proofs.calls.CallList.drop_last.Goals as goal

pub invariant_of-self : goal.invariant_of-self
invariant_of-self c = rw c.pop.ensures.rest (All-take (LiesIn (length c.self.inside.bytes.items)) _ c.self.inside.calls.items c.self.invariant)

pub returns : goal.returns
returns c = events_but_last c.self.inside.bytes.items c.self.inside.calls.items c.pop.new.self.items c.args.self.now c.self.inside.calls.len (omega arith) c.pop.ensures.rest c.self.view_is
