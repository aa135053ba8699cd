use Rattle.std.proofs.Common.{sym, subst}
use Rattle.kt_tablet.specs.Visits.{MayBegin}
use Rattle.kt_engine.proofs.engine.Engine.begin.Goals as goal

pub begin_draft-requires : goal.begin_draft-requires
begin_draft-requires g c = λ goes. subst (λ ops. MayBegin c.args.self.now.tablet.core c.args.number c.args.index ops) (sym c.in-Ok.ensures) (c.requires goes)
