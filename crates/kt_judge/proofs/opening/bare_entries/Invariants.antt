use Rattle.kt_judge.specs.Bare.{AreBare}
use Rattle.kt_judge.proofs.opening.bare_entries.Given as goal

abbrev pub invariant-loop-key : goal.invariant-loop-key
invariant-loop-key l = AreBare l.entries.items
