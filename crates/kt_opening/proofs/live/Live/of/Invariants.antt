use Rattle.std.proofs.Common.{take}
use Rattle.kt_opening.specs.Live.{IsLive}
use Rattle.kt_opening.proofs.live.Live.of.Given as goal

-- they are the keys of the rows so far
abbrev pub invariant-loop-key : goal.invariant-loop-key
invariant-loop-key l = IsLive l.live (take l.key-index l.rows)
