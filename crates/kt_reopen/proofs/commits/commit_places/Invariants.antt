use Rattle.std.proofs.Common.{ℕ}
use Rattle.kt_journal.specs.Waiting.{number_of}
use Rattle.kt_reopen.proofs.Placing.{Placing}
use Rattle.kt_reopen.proofs.commits.commit_places.Given as goal

abbrev pub invariant-records : goal.invariant-records
invariant-records l = Placing l.records l.at l.waiting.last (λ (ts : ℕ). number_of ts l.waiting) l.places.items
