use Rattle.std.proofs.Common.{◌≡◌, drop, map}
use Rattle.kt_engine.specs.JobSteps.{first_holder}
use Rattle.kt_engine.specs.Upkeeps.{upkeep_of}
use Rattle.kt_engine.proofs.upkeep.holder_in.Given as goal

abbrev pub invariant-passes : goal.invariant-passes
invariant-passes l = first_holder l.want (map upkeep_of l.passes) ≡ first_holder l.want (map upkeep_of (drop l.upkeep-index l.passes))
