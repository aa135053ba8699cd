use Rattle.std.proofs.Common.{◌≡◌, false, take}
use Rattle.std.specs.List.{AllByRecursion}
use Rattle.kt_history.specs.Rows.{Row}
use Rattle.kt_history.specs.Stores.{Store}
use Rattle.kt_content.specs.Places.{Place}
use Rattle.kt_reopen.specs.Standing.{placed}
use Rattle.kt_reopen.specs.Steps.{had_in}
use Rattle.kt_reopen.proofs.replaying.live_before.Given as goal

abbrev pub invariant-stores : goal.invariant-stores
invariant-stores l = (fill : Row) → AllByRecursion (λ (s : Place × Store). had_in l.ts l.key s ≡ false) (take l.at (placed fill l.stores))
