use Rattle.std.proofs.Common.{[], ◌∷◌, append_assoc}
use Rattle.std.specs.Prelude.{codes}
use Rattle.std.specs.Fmt.{decimal}
use Rattle.kt_history.specs.declared.change.Outcome.TheVariants.{Done}
use Rattle.kt_script.specs.Texts.{outcome_word}
use Rattle.kt_script.proofs.Words.{words_more}
use Rattle.kt_script.proofs.output.print_at.Goals as goal

pub loop-outcome-preserved : goal.loop-outcome-preserved
loop-outcome-preserved c =
    rw (words_more outcome_word (codes "at") (decimal c.args.ts ∷ []) c.args.outcomes.now c.loop-outcome.outcome-index Done c.loop-outcome-test.true, ← append_assoc, ← c.loop-outcome.invariant) c.in_ok-print_outcome.ensures.ok
