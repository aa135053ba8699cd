use Rattle.std.proofs.Common.{◌≡◌, Option, drop}
use Rattle.std.specs.Prelude.{is_some}
use Rattle.kt_history.specs.Rows.{Row}
use Rattle.kt_history.specs.Stores.{apply_all}
use Rattle.kt_diskrowset.specs.Mems.{steps_in_mems}
use Rattle.kt_diskrowset.proofs.mems.is_live_after.Given as goal

abbrev pub invariant-mems : goal.invariant-mems
invariant-mems l =
    (row : Option Row) → is_some row ≡ l.fn.before
    → (now : Option Row) × (is_some now ≡ l.live) × (apply_all (steps_in_mems l.pool l.ordinal (drop l.mem-index l.mems)) now ≡ apply_all (steps_in_mems l.pool l.ordinal l.mems) row)
