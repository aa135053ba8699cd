use Rattle.std.proofs.Common.{◌≡◌, drop}
use Rattle.kt_history.specs.Stores.{after_steps}
use Rattle.kt_rowfiles.specs.Reading.{steps_in}
use Rattle.kt_diskrowset.proofs.fresh.go_on.Given as goal

abbrev pub invariant-changes : goal.invariant-changes
invariant-changes l = after_steps l.t (steps_in (drop l.delta-index l.changes)) l.row ≡ after_steps l.t (steps_in l.changes) l.initial.row
