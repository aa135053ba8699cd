use Rattle.std.proofs.Common.{List, map, ap, ◌∙◌, arith}
use Rattle.std.specs.List.{sum_by}
use Rattle.std.proofs.lemmas.List.{take_all}
use Rattle.kt_engine.specs.declared.upkeep.Upkeep.{Upkeep}
use Rattle.kt_engine.specs.Upkeeps.{upkeep_of}
use Rattle.kt_engine.proofs.Passes.{job_count, count_more}
use Rattle.kt_engine.proofs.upkeep.running_in.Goals as goal

pub passes-preserved : goal.passes-preserved
passes-preserved c =
    let was = c.passes.invariant in
    let one = c.jobs-running.ensures in
    let next = count_more c.args.passes.now c.passes.upkeep-index c.upkeep-item.result c.passes-test.true c.upkeep-item.is in
    record { running = omega (arith, was.running, one.jobs, next); few = let low = was.few in let single = one.few in omega arith }

pub returns : goal.returns
returns c = c.passes.invariant.running ∙ ap (λ (l : List Upkeep). sum_by job_count (map upkeep_of l)) (take_all c.passes.upkeep-index c.args.passes.now (omega arith))
