use Rattle.kt_seatlock.proofs.Trails.{refuses_anew, refuses_foreign, refuses_two}
use Rattle.kt_seatlock.proofs.laws.trail_law.Goals as goal

pub returns-clause-anew : goal.returns-clause-anew
returns-clause-anew g c = refuses_anew g.T.Shared.owner

pub returns-clause-foreign : goal.returns-clause-foreign
returns-clause-foreign g c = refuses_foreign g.T.Shared.owner

pub returns-clause-two : goal.returns-clause-two
returns-clause-two g c = refuses_two g.T.Shared.owner
