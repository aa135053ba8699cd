-- Cells that are taken.
use Rattle.std.specs.Prelude.{◌≡◌, ℕ, ◌+◌, ◌-◌, length}
use Rattle.kt_pool.specs.Contents.{Contents, used}

-- so many cells were taken, which were reserved
pub record Takes (old new : Contents) (n : ℕ) : Type 0 where
  pub size : length new.places ≡ length old.places
  pub reserved : new.reserved ≡ old.reserved - n
  pub used : used new ≡ used old + n
