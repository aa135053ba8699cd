-- The points of a run's gate that a session comes to.
use Rattle.std.specs.Prelude.{ℕ}
use Rattle.kt_disk.specs.declared.gate.Point.{Point}
use Rattle.kt_disk.specs.declared.gate.Point.TheVariants as point
use Rattle.kt_history.specs.declared.reply.Reply.{Reply}
use Rattle.kt_history.specs.declared.reply.Reply.TheVariants as reply

-- the reply is that of a write which began and ended, and then this is so
abbrev pub IfWritten : Reply → Type 0 → Type 0
IfWritten (reply.At ts outcomes) P = P
IfWritten (reply.Rows t rows) P = Unit {0}
IfWritten (reply.Ancient t a) P = Unit {0}
IfWritten (reply.Busy t f) P = Unit {0}
IfWritten (reply.Ahm a) P = Unit {0}
IfWritten reply.Done P = Unit {0}
IfWritten (reply.Large n) P = Unit {0}
IfWritten reply.Stopped P = Unit {0}

-- the gate was called before command i of session s, once its reply was known, and, where that is a write's, once the write flew
pub record CameTo {G : Type 0} (came : G → Point → Type 0) (gate : G) (s i : ℕ) (reply : Reply) : Type 0 where
  pub before : came gate (point.Before s i)
  pub begun : IfWritten reply (came gate (point.Begun s i))
  pub after : came gate (point.After s i)
