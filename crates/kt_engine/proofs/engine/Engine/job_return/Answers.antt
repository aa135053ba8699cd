use Rattle.std.proofs.Common.{◌≡◌, ◌∙◌, [], ap, sym, subst}
use Rattle.kt_tablet.specs.Views.{View}
use Rattle.kt_engine.specs.Engines.{EngineView}
use Rattle.kt_engine.proofs.Snapshots.{none_aloft}
use Rattle.kt_engine.proofs.engine.Engine.job_return.Goals as goal

-- nothing flies
pub come_back-requires-clause-calm : goal.come_back-requires-clause-calm
come_back-requires-clause-calm g c =
    let tab : c.deref-2.result.now ≡ c.args.self.now.tablet = c.deref-2.ensures ∙ ap (λ (v : EngineView g.row.L.Denot g.row.D.Denot g.row.C.Denot). v.tablet) c.self.view_is in
    subst (λ (t : View g.row.C.Denot). t.core.aloft ≡ []) tab (none_aloft c.deref-2.result.now.core.aloft (sym c.least_flying.ensures ∙ c.in_default.is))
