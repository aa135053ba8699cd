use Rattle.std.proofs.Common.{refl, ap, ◌∙◌}
use Rattle.kt_maint.proofs.Readying.{no_device}
use Rattle.kt_maint.proofs.jobs.leave_one.Goals as goal

pub returns-in-Ok-clause-left : goal.returns-in-Ok-clause-left
returns-in-Ok-clause-left g c = (c.in-Ok.ensures.away, c.go_out_one.ensures.quiet.asks)

pub returns-in-Err-clause-left : goal.returns-in-Err-clause-left
returns-in-Err-clause-left g c =
    let beside = c.let_go.ensures.beside in (
      refl,
      no_device c.args.by c.let_go.new.engine (ap (λ v. v.log.holder) beside ∙ ap (λ l. l.holder) c.go_out_one.ensures.quiet.log ∙ c.requires.calm.settled.2) (ap (λ v. v.store.holder) beside ∙ c.in-Err.ensures.home refl),
      c.let_go.ensures.none,
    )
