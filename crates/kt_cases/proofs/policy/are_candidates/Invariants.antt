use Rattle.std.proofs.Common.{◌≢◌, take}
use Rattle.std.specs.List.{All, AllPairs}
use Rattle.kt_policy.specs.declared.candidate.Candidate.{Candidate}
use Rattle.kt_policy.specs.Gain.{IsCandidate}
use Rattle.kt_cases.proofs.policy.are_candidates.Given as goal

abbrev pub invariant-loop-k : goal.invariant-loop-k
invariant-loop-k l = record { each : All IsCandidate (take l.k l.list); different : AllPairs (λ (c d : Candidate). c.rowset ≢ d.rowset) (take l.k l.list) }
