use Rattle.std.proofs.Common.{ℕ, ◌<◌}
use Rattle.kt_history.specs.History.{Past}
use Rattle.kt_judge.specs.Works.{work_of}
use Rattle.kt_judge.specs.Replied.{ShowsPast, StandsAt}
use Rattle.kt_judge.proofs.wrong.wrong_reply.Given as goal

-- the replies so far stand
abbrev pub invariant-loop-at : goal.invariant-loop-at
invariant-loop-at l = (cells : ℕ) (whole : Past) → ShowsPast l.table.entries.items whole → (k : ℕ) → k < l.at → StandsAt (work_of cells l.script) whole l.stopped l.commands l.lines l.replies k
