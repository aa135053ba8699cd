use Rattle.kt_tablet.proofs.tablet.Tablet.look_up.Goals as goal

pub invariant_of-self : goal.invariant_of-self
invariant_of-self g c = rw c.look_up.ensures c.self.invariant

pub returns : goal.returns
returns g c = rw c.look_up.ensures c.self.view_is
