use Rattle.std.proofs.Common.{◌∙◌, ◌++◌, ap}
use Rattle.kt_history.specs.Stores.{Steps, after_steps}
use Rattle.kt_rowfiles.specs.Reading.{steps_in}
use Rattle.kt_rowfiles.specs.Taking.{spanned}
use Rattle.kt_diskrowset.proofs.taking.take_redos.Goals as goal

pub returns-clause-row : goal.returns-clause-row
returns-clause-row c = c.in_ok-take.ensures.row ∙ ap (λ (s : Steps). after_steps c.args.span.mark s c.args.row.now) c.in_ok-redos_of.ensures

pub returns-clause-steps : goal.returns-clause-steps
returns-clause-steps c = c.in_ok-take.ensures.steps ∙ ap (λ (s : Steps). steps_in c.args.steps.now.items ++ spanned c.args.span s) c.in_ok-redos_of.ensures
