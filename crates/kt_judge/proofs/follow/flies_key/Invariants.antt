use Rattle.std.proofs.Common.{◌≡◌, false, take}
use Rattle.std.specs.List.{list_any}
use Rattle.kt_history.specs.Operations.{share_key}
use Rattle.kt_history.specs.Machine.{nth, command_of}
use Rattle.kt_judge.specs.Machine.{write_in, ops_in}
use Rattle.kt_judge.proofs.follow.flies_key.Given as goal

abbrev pub invariant-loop-flight : goal.invariant-loop-flight
invariant-loop-flight l = list_any (λ f. share_key l.ops (ops_in (write_in (command_of (nth l.plan f.s) f.i)))) (take l.flight-index l.flying) ≡ false
