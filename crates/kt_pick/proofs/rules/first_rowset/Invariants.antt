use Rattle.std.proofs.Common.{◌≡◌, drop}
use Rattle.kt_pick.specs.Rules.{first_rowset}
use Rattle.kt_pick.proofs.rules.first_rowset.Given as goal

abbrev pub invariant-stats : goal.invariant-stats
invariant-stats l = first_rowset l.rule (drop l.stat-index l.stats) ≡ first_rowset l.rule l.stats
