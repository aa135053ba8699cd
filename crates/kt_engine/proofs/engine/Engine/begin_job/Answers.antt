use Rattle.std.proofs.Common.{List, ℕ, sym, ap, ◌∙◌, subst}
use Rattle.kt_pick.specs.declared.rules.Want.TheVariants as want
use Rattle.kt_engine.specs.JobSteps.{LacksOne}
use Rattle.kt_engine.proofs.engine.Engine.begin_job.Goals as goal

pub begin_compaction-requires-clause-compacts : goal.begin_compaction-requires-clause-compacts
begin_compaction-requires-clause-compacts g c = c.in-Compact.is ∙ ap want.Compact (sym c.in_ok-taken-in-Compact.ensures)

pub begin_compaction-requires-clause-some : goal.begin_compaction-requires-clause-some
begin_compaction-requires-clause-some g c = λ none. (c.requires.taken c.in-Compact.rowsets c.in-Compact.is).0 (sym c.in_ok-taken-in-Compact.ensures ∙ none)

pub begin_compaction-requires-clause-all_there : goal.begin_compaction-requires-clause-all_there
begin_compaction-requires-clause-all_there g c = subst (λ (l : List ℕ). ¬ LacksOne l c.args.self.now.tablet.names) (sym c.in_ok-taken-in-Compact.ensures) (c.requires.taken c.in-Compact.rowsets c.in-Compact.is).1
