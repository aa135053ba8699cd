use Rattle.kt_tablet.proofs.tablet.Tablet.ask.Goals as goal

-- nothing was seen of the look at the keys

pub ask_ready-requires : goal.ask_ready-requires
ask_ready-requires g c = rw c.look_up.ensures c.requires

pub returns-clause-free : goal.returns-clause-free
returns-clause-free g c = rw c.look_up.ensures at c.ask_ready.ensures.free

pub returns-clause-same : goal.returns-clause-same
returns-clause-same g c = rw c.look_up.ensures at c.ask_ready.ensures.same

pub returns-clause-beside : goal.returns-clause-beside
returns-clause-beside g c = rw c.look_up.ensures at c.ask_ready.ensures.beside

pub returns-clause-stopped : goal.returns-clause-stopped
returns-clause-stopped g c = rw c.look_up.ensures at c.ask_ready.ensures.stopped

pub returns-clause-refused : goal.returns-clause-refused
returns-clause-refused g c = rw c.look_up.ensures at c.ask_ready.ensures.refused

pub returns-clause-left : goal.returns-clause-left
returns-clause-left g c = rw c.look_up.ensures at c.ask_ready.ensures.left

pub returns-clause-memory : goal.returns-clause-memory
returns-clause-memory g c = rw c.look_up.ensures at c.ask_ready.ensures.memory
