use Rattle.kt_front.proofs.Walk.{order_at}
use Rattle.kt_front.proofs.starts.compare_at.Goals as goal

pub returns : goal.returns
returns c = λ items block are lt. order_at items c.args.i c.args.key.now c.stretch_of.result.now c.order_in.result block.fits lt (c.stretch_of.ensures items block are lt) c.order_in.ensures
