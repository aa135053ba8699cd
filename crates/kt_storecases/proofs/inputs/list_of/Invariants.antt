use Rattle.kt_storecases.proofs.OneKey.{AreOf}
use Rattle.kt_storecases.proofs.inputs.list_of.Given as goal

abbrev pub invariant-steps : goal.invariant-steps
invariant-steps l = AreOf l.key l.list
