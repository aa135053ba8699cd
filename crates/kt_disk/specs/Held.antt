-- A held disk: what it passes its calls on to, its gate, and the calls that it counts.
use Rattle.std.specs.Prelude.{◌≡◌, ℕ, ◌+◌, ◌-◌, ◌^◌, min}
use Rattle.kt_disk.specs.declared.behind.HeldDisk.{HeldDisk}
use Rattle.kt_disk.specs.declared.gate.Point.{Point}
use Rattle.kt_disk.specs.declared.gate.Point.TheVariants as point

abbrev pub within : {D G : Type 0} → HeldDisk D G → D
within disk = disk.inner

-- what holds of the inner disk
abbrev pub inside {ℓ} : {D G : Type 0} {A : Type ℓ} → (D → A) → HeldDisk D G → A
inside of disk = of disk.inner

abbrev pub gate_of : {D G : Type 0} → HeldDisk D G → G
gate_of disk = disk.gate.now

abbrev pub mark_of : {D G : Type 0} → HeldDisk D G → ℕ
mark_of disk = disk.mark

-- how many calls changed a file, up to the last value of the count
abbrev pub changes_of : {D G : Type 0} → HeldDisk D G → ℕ
changes_of disk = disk.changes

-- the gate came to the point of the newest of these calls
abbrev pub HasCome : {D G : Type 0} → (G → Point → Type 0) → HeldDisk D G → Type 0
HasCome came disk = came (gate_of disk) (point.Device (mark_of disk) (changes_of disk))

-- the disk keeps its gate and its mark, and has counted to this
pub record Counts {D G : Type 0} (changes : ℕ) (old new : HeldDisk D G) : Type 0 where
  pub gate : gate_of new ≡ gate_of old
  pub mark : mark_of new ≡ mark_of old
  pub changes_are : changes_of new ≡ changes

-- one call more
abbrev pub CountsOne : {D G : Type 0} → HeldDisk D G → HeldDisk D G → Type 0
CountsOne old new = Counts (min (changes_of old + 1) (2 ^ 32 - 1)) old new

abbrev pub CountsNone : {D G : Type 0} → HeldDisk D G → HeldDisk D G → Type 0
CountsNone old new = Counts (changes_of old) old new
