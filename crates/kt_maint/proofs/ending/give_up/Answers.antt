use Rattle.std.proofs.Common.{ap}
use Rattle.kt_maint.proofs.LateWritten.{abandon_same}
use Rattle.kt_maint.proofs.Visiting.{visits_then}
use Rattle.kt_maint.proofs.ending.give_up.Goals as goal

pub returns-clause-visit : goal.returns-clause-visit
returns-clause-visit g c = visits_then c.args.by c.args.engine.now c.take_home.new.engine c.let_go.new.engine c.take_home.ensures.visit (ap (λ v. v.tablet.core.trail) c.take_home.ensures.home) c.let_go.ensures.visit

pub let_go-requires : goal.let_go-requires
let_go-requires g c = record { job = abandon_same c.args.by c.args.engine.now c.take_home.new.engine (ap (λ v. v.upkeep) c.take_home.ensures.home) c.requires.job }
