use Rattle.std.proofs.Common.{take}
use Rattle.kt_judge.specs.Bare.{HasRows}
use Rattle.kt_judge.proofs.opening.put_rows.Given as goal

-- the rows so far are inserted
abbrev pub invariant-loop-key : goal.invariant-loop-key
invariant-loop-key l = HasRows (take l.key-index l.rows) l.entries.items
