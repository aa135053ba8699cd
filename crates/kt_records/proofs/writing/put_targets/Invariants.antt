use Rattle.std.proofs.Common.{◌≡◌, ◌++◌, take}
use Rattle.std.specs.List.{flat_map}
use Rattle.kt_records.specs.Spelling.{target}
use Rattle.kt_records.proofs.writing.put_targets.Given as goal

abbrev pub invariant-targets : goal.invariant-targets
invariant-targets l = (l.out.front ≡ l.initial.out.front) × (l.out.added ≡ l.initial.out.added ++ flat_map target (take l.target-index l.targets))
