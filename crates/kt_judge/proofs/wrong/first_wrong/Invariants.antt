use Rattle.std.proofs.Common.{ℕ, suc, ◌<◌}
use Rattle.kt_history.specs.History.{Past}
use Rattle.kt_history.specs.Replies.{past_after}
use Rattle.kt_judge.specs.Works.{work_of}
use Rattle.kt_judge.specs.Machine.{Follows}
use Rattle.kt_judge.specs.Replied.{ShowsPast}
use Rattle.kt_judge.specs.Verdicts.{Stands}
use Rattle.kt_judge.proofs.wrong.first_wrong.Given as goal

-- every place of the sessions so far stands
abbrev pub invariant-loop-at : goal.invariant-loop-at
invariant-loop-at l = (cells : ℕ) (past : Past) (c : ℕ) → Follows (work_of cells l.script) past c l.output.events l.m → ShowsPast l.table.entries.items (past_after (work_of cells l.script) past c l.output.events)
    → (k : ℕ) → k < l.at → (j : ℕ) → Stands (work_of cells l.script) past c l.output (suc k) j
