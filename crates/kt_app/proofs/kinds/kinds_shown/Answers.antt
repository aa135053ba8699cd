use Rattle.std.proofs.Common.{◌∙◌, refl}
use Rattle.kt_app.specs.Session.{on_table}
use Rattle.kt_app.proofs.kinds.kinds_shown.Goals as goal

pub returns : goal.returns
returns c = c.of.ensures ∙ c.in_ok-kinds_shown.ensures (on_table c.args.schema.now) refl refl
