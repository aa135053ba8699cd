use Rattle.kt_mvcc.proofs.Index.{tells_kept}
use Rattle.kt_mvcc.proofs.flight.Flight.reserve.Goals as goal

pub invariant_of-self : goal.invariant_of-self
invariant_of-self c = tells_kept c.self.inside.held c.reserve.new.self c.self.inside.flying.items c.reserve.ensures.keeps c.reserve.ensures.stood c.self.invariant

pub invariant_of-self-in_err-reserve-2 : goal.invariant_of-self-in_err-reserve-2
invariant_of-self-in_err-reserve-2 c =
    rw c.reserve-2.ensures.items (tells_kept c.self.inside.held c.reserve.new.self c.self.inside.flying.items c.reserve.ensures.keeps c.reserve.ensures.stood c.self.invariant)

pub invariant_of-self-2 : goal.invariant_of-self-2
invariant_of-self-2 c =
    rw c.reserve-2.ensures.items (tells_kept c.self.inside.held c.reserve.new.self c.self.inside.flying.items c.reserve.ensures.keeps c.reserve.ensures.stood c.self.invariant)
