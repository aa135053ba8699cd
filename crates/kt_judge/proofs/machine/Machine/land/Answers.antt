use Rattle.std.proofs.Common.{◌==◌, rules}
use Rattle.std.specs.Prelude.{not}
use Rattle.std.proofs.lemmas.Fn.{filter_same}
use Rattle.kt_judge.proofs.machine.Machine.land.Goals as goal

pub returns-clause-flying : goal.returns-clause-flying
returns-clause-flying c = filter_same _ (λ f. not (f.s == c.args.s)) _ (λ x b f' k. search rules) _ _ c.retain.ensures.filtered
