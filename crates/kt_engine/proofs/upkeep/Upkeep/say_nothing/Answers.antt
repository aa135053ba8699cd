use Rattle.kt_engine.proofs.Passes.{said_nothing}
use Rattle.kt_engine.proofs.upkeep.Upkeep.say_nothing.Goals as goal

pub returns-clause-own : goal.returns-clause-own
returns-clause-own c = said_nothing c.args.self.now c.strike.new.self c.args.want c.saturating_add-self.result c.strike.ensures.beside c.strike.ensures.struck c.saturating_add-self.ensures c.requires.none
