use Rattle.std.proofs.Common.{refl, [], arith}
use Rattle.std.specs.Prelude.{codes}
use Rattle.kt_script.specs.OutForms.{LONG, AreOutcomes}
use Rattle.kt_script.proofs.OutForms.{chain_stop, chain_more}
use Rattle.kt_script.proofs.OutcomeBytes.{outcomes_spaced}
use Rattle.kt_script.proofs.out_fronts.at_front.Goals as goal

pub returns-in-Ok : goal.returns-in-Ok
returns-in-Ok c = chain_more (codes "at ") LONG AreOutcomes c.args.line.now c.in-Ok.at (omega arith) outcomes_spaced c.split_at.result.1.now c.outcomes_front.result c.in-Ok.ensures c.split_at.ensures.back c.outcomes_front.ensures

pub returns-in-Err : goal.returns-in-Err
returns-in-Err c = chain_stop (codes "at ") LONG AreOutcomes c.args.line.now c.in-Err.at (omega arith) outcomes_spaced [] ([], refl) c.in-Err.ensures
