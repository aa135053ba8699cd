use Rattle.std.proofs.Common.{sym, ap, ◌∙◌}
use Rattle.std.specs.Option.{option_copied}
use Rattle.kt_history.specs.Operations.{share_key}
use Rattle.kt_judge.specs.Machine.{ops_in}
use Rattle.kt_judge.proofs.Made.{share_none}
use Rattle.kt_judge.proofs.follow.flies_with.Goals as goal

pub returns-in-None : goal.returns-in-None
returns-in-None c = share_none c.args.ops.now ∙ ap (λ o. share_key c.args.ops.now (ops_in o)) (ap option_copied (sym c.in-None.is) ∙ c.write_at.ensures)
