use Rattle.kt_mvcc.proofs.Index.{tells_more}
use Rattle.kt_mvcc.proofs.flight.hold_all.Goals as goal

pub returns : goal.returns
returns c = λ ts. tells_more c.renew.new.held c.hold.new.self c.args.flying.now (record { who = c.args.who; ts = ts; keys = c.args.keys.now }) c.hold.ensures.keeps c.hold.ensures.held c.hold.ensures.stood c.renew.ensures
