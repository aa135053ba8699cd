use Rattle.kt_front.specs.Order.{bound}
use Rattle.kt_front.proofs.Falls.{Reached}
use Rattle.kt_front.proofs.rising.fall_among.Given as goal

abbrev pub invariant-items : goal.invariant-items
invariant-items l = Reached l.most l.i (bound l.some l.initial.last) l.bytes l.known l.last l.rest
