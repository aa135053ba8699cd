use Rattle.std.proofs.Common.{Option, ℕ, length}
use Rattle.kt_journal.specs.Waiting.{IsRising, Keeps}
use Rattle.kt_journal.proofs.waiting.drop_first.Given as goal

abbrev pub invariant-taken : goal.invariant-taken
invariant-taken l = (last : Option ℕ) → IsRising last l.initial.held.items → Keeps last l.initial.held.items l.held.items

abbrev pub decreases-taken : goal.decreases-taken
decreases-taken l = length l.held.items
