-- The points of a job, at which the gate of a run is called.
use Rattle.std.specs.Prelude.{ℕ}
use Rattle.kt_disk.specs.declared.gate.Point.{Point}
use Rattle.kt_disk.specs.declared.gate.Point.TheVariants as point

-- the gate was called once the outputs of a job were written, once they stood in the place of its inputs, and once its superblock was published
abbrev pub HasTold : (Point → Type 0) → ℕ → Type 0
HasTold came job = came (point.PhaseOne job) × came (point.Swapped job) × came (point.Published job)
