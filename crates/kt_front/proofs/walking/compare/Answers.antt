use Rattle.std.proofs.Common.{arith}
use Rattle.kt_front.proofs.Walk.{order_at}
use Rattle.kt_front.proofs.walking.compare.Goals as goal

pub returns : goal.returns
returns c = λ items block lt. order_at items c.args.i c.args.key.now c.behind.result.now c.order_in.result block.fits lt (c.behind.ensures.there items block (omega arith)) c.order_in.ensures
