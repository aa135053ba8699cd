-- A row of a disk rowset: its base row, its UNDO records from the newest, its REDO changes from the oldest.
use Rattle.std.specs.Prelude.{◌≡◌, ◌<◌, ℕ, [], ◌∷◌, ◌++◌, Option, Some, nat_lt, if◌then◌else◌}
use Rattle.kt_history.specs.Rows.{Row, apply, undo}
use Rattle.kt_history.specs.Stores.{Steps, Hist, after_steps}

pub record DiskRow : Type 0 where
  pub base : Row
  pub undos : Steps
  pub redos : Steps

-- each UNDO above t taken back, from the newest
abbrev pub back : ℕ → Steps → Option Row → Option Row
back t [] row = row
back t (u ∷ undos) row = back t undos (if nat_lt t u.0 then apply u.1 row else row)

-- the row at t as the design reads it
abbrev pub disk_row_at : ℕ → DiskRow → Option Row
disk_row_at t d = after_steps t d.redos (back t d.undos (Some d.base))

-- the row before all UNDO records, and the changes that these lead back over
abbrev pub before_all : Steps → Option Row → Option Row
before_all [] row = row
before_all (u ∷ undos) row = before_all undos (apply u.1 row)

abbrev pub led_over : Steps → Option Row → Steps
led_over [] row = []
led_over (u ∷ undos) row = led_over undos (apply u.1 row) ++ (u.0, undo u.1 row) ∷ []

-- its history
abbrev pub hist_of : DiskRow → Hist
hist_of d = record { first = before_all d.undos (Some d.base); steps = led_over d.undos (Some d.base) ++ d.redos }

-- the timestamps of UNDO records fall, and each leads back
abbrev pub AreUndos : ℕ → Steps → Option Row → Type 0
AreUndos top [] row = Unit {0}
AreUndos top (u ∷ undos) row = (u.0 < top) × (apply (undo u.1 row) (apply u.1 row) ≡ row) × AreUndos u.0 undos (apply u.1 row)
