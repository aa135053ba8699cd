use Rattle.std.proofs.Common.{take}
use Rattle.kt_history.specs.Rows.{Rows, changed}
use Rattle.kt_opening.specs.Live.{IsLive}
use Rattle.kt_opening.proofs.live.Live.apply_all.Given as goal

-- they are the keys of the rows after the changes so far
abbrev pub invariant-loop-key : goal.invariant-loop-key
invariant-loop-key l = (rows : Rows) → IsLive l.fn.self rows → IsLive l.self (changed (take l.key-index l.changes) rows)
