-- A choice of rowsets, and the table that shows why no other gains more.
use Rattle.std.specs.Prelude.{◌≡◌, ◌<◌, ℕ, List}
use Rattle.kt_policy.specs.declared.candidate.Candidate.{Candidate}
use Rattle.kt_policy.specs.declared.picking.Picked.{Picked}
use Rattle.kt_policy.specs.Gain.{gain, chosen, is_in, IsBest}
use Rattle.kt_policy.specs.Sums.{IsTable}

pub record IsPicked (list : List Candidate) (budget : ℕ) (picked : Picked) : Type 0 where
  pub best : IsBest list budget picked.set
  pub gain : picked.gain ≡ gain (chosen (is_in picked.set) list)
  pub gains : 0 < picked.gain
  pub table : IsTable list budget picked.table
