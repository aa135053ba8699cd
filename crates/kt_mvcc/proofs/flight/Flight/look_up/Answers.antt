use Rattle.kt_mvcc.proofs.flight.Flight.look_up.Goals as goal

pub invariant_of-self : goal.invariant_of-self
invariant_of-self c = rw c.deref.ensures.value at c.renew.ensures
