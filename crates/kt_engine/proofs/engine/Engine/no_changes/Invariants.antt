use Rattle.std.proofs.Common.{◌≡◌, [], List, map, take, length, Some}
use Rattle.kt_history.specs.declared.changes.KeyChange.{KeyChange}
use Rattle.kt_diskrowset.specs.Rowset.{HeldFiles}
use Rattle.kt_engine.specs.Jobs.{JobView, job_of}
use Rattle.kt_engine.proofs.engine.Engine.no_changes.Given as goal

abbrev none : HeldFiles → List KeyChange
none h = []

abbrev pub invariant-outputs : goal.invariant-outputs
invariant-outputs g l = (job : JobView) → job_of l.number l.self.upkeep ≡ Some job → (length job.held ≡ l.end) × (l.lists.items ≡ map none (take l.counter job.held))
