use Rattle.kt_disk.proofs.Noted.{all_plain, events_plain}
use Rattle.kt_disk.proofs.calls.CallList.push.Goals as goal

pub invariant_of-self-2 : goal.invariant_of-self-2
invariant_of-self-2 c = all_plain c.self.inside.bytes.items c.args.file c.args.plain c.self.inside.calls.items c.push.new.self.items c.in_ok-push.ensures.items c.self.invariant

pub returns-clause-ok : goal.returns-clause-ok
returns-clause-ok c = events_plain c.self.inside.bytes.items c.args.file c.args.plain c.self.inside.calls.items c.push.new.self.items c.args.self.now c.self.view_is c.in_ok-push.ensures.items
