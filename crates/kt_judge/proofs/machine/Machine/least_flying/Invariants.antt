use Rattle.std.proofs.Common.{◌≡◌, ◌≤◌, length, drop, map}
use Rattle.kt_history.specs.Machine.{Workload, least}
use Rattle.kt_judge.specs.Machine.{flown}
use Rattle.kt_judge.proofs.machine.Machine.least_flying.Given as goal

-- the least of the writes from here on
abbrev pub invariant-flights : goal.invariant-flights
invariant-flights l = record { below : l.at ≤ length l.self.flying.items; made : (work : Workload) → l.least ≡ least (map (flown work) (drop l.at l.self.flying.items)) }

abbrev pub decreases-flights : goal.decreases-flights
decreases-flights l = l.at
