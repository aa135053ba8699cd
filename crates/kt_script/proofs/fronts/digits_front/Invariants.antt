use Rattle.std.proofs.Common.{◌≡◌, ◌+◌, drop}
use Rattle.kt_script.proofs.NumberBytes.{digits_on}
use Rattle.kt_script.proofs.fronts.digits_front.Given as goal

abbrev pub invariant-loop-at : goal.invariant-loop-at
invariant-loop-at l = digits_on l.most l.value l.digits ≡ l.at + digits_on l.most l.number (drop l.at l.digits)
