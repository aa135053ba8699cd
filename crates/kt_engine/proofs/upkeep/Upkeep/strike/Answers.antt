use Rattle.std.proofs.Common.{rules}
use Rattle.std.specs.Prelude.{not}
use Rattle.std.proofs.lemmas.Fn.{filter_same}
use Rattle.kt_engine.specs.Jobs.{same_want}
use Rattle.kt_engine.proofs.upkeep.Upkeep.strike.Goals as goal

pub returns-clause-struck : goal.returns-clause-struck
returns-clause-struck c = filter_same _ (λ x. not (same_want c.args.self.now.want x)) _ (λ x b f k. search rules) _ _ c.retain.ensures.filtered
