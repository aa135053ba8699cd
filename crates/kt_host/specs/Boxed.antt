-- A disk on the heap: what it passes its calls on to.
use Rattle.kt_host.specs.declared.boxed.BoxedDisk.{BoxedDisk}

abbrev pub within : {D : Type 0} → BoxedDisk D → D
within disk = disk.inner.value

-- what holds of the inner disk
abbrev pub inside {ℓ} : {D : Type 0} {A : Type ℓ} → (D → A) → BoxedDisk D → A
inside of disk = of disk.inner.value
