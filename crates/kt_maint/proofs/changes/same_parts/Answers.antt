use Rattle.std.proofs.Common.{◌∙◌, sym, arith}
use Rattle.std.proofs.lemmas.List.{take_all}
use Rattle.kt_maint.proofs.changes.same_parts.Goals as goal

pub returns : goal.returns
returns c = sym (take_all c.parts.at c.args.one.now (omega arith)) ∙ c.parts.invariant ∙ take_all c.parts.at c.args.other.now (omega arith)
