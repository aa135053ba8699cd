use Rattle.std.proofs.Common.{◌≡◌, ◌+◌, drop}
use Rattle.std.specs.Option.{option_map}
use Rattle.kt_history.specs.Operations.{need}
use Rattle.kt_reopen.specs.Bare.{bare}
use Rattle.kt_reopen.specs.Needed.{replayed}
use Rattle.kt_reopen.proofs.NeedLaws.{dropped}
use Rattle.kt_reopen.proofs.needed.write_need.Given as goal

abbrev pub invariant-ops : goal.invariant-ops
invariant-ops l =
    l.sum + need (replayed (bare l.meta) (drop l.at l.ops) (dropped l.at (option_map (λ rows. rows.now) l.commit))) ≡ need (replayed (bare l.meta) l.ops (option_map (λ rows. rows.now) l.commit))
