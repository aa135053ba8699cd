-- A log with no record.
use Rattle.std.proofs.Common.{◌≡◌, ℕ, ◌≤◌, List, [], ◌++◌, Some, None, sym, subst, arith}
use Rattle.std.proofs.lemmas.List.{append-nil}
use Rattle.kt_history.specs.declared.target.Target.{Target}
use Rattle.kt_history.specs.Rows.{Row}
use Rattle.kt_history.specs.History.{Past}
use Rattle.kt_records.specs.declared.entry.Entry.{Entry}
use Rattle.kt_journal.specs.Log.{IsLog}
use Rattle.kt_loglaws.specs.Replay.{last_of}
use Rattle.kt_histlaws.specs.Pending.{Aloft}
use Rattle.kt_engine.specs.Logged.{AreDue, UntoldFly}

-- where none is queued, none is due
pub due_none : (fill : Row) (names : List Target) (records queued : List Entry) (past : Past) → queued ≡ [] → AreDue fill names past records queued
due_none fill names records queued past none = subst (λ (l : List Entry). AreDue fill names past records l) (sym none) tt

-- and no write is without its COMMIT where there is no record
pub untold_none : (records queued : List Entry) (aloft : List Aloft) → records ≡ [] → queued ≡ [] → UntoldFly (records ++ queued) aloft
untold_none records queued aloft found none = subst (λ (l : List Entry). UntoldFly (l ++ queued) aloft) (sym found) (subst (λ (l : List Entry). UntoldFly l aloft) (sym none) (λ ts ops has none. absurd (let no : None ≡ Some ops = has in cc)))

-- what is queued goes on with a log where none is
pub log_none : (records queued : List Entry) → queued ≡ [] → IsLog records → IsLog (records ++ queued)
log_none records queued none is = subst (λ (l : List Entry). IsLog (records ++ l)) (sym none) (subst IsLog (sym (append-nil records)) is)

-- no record has a timestamp
pub last_none : (records queued : List Entry) (c : ℕ) → records ≡ [] → queued ≡ [] → last_of (records ++ queued) ≤ c
last_none records queued c found none = subst (λ (l : List Entry). last_of (l ++ queued) ≤ c) (sym found) (subst (λ (l : List Entry). last_of l ≤ c) (sym none) (omega arith))
