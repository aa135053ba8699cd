use Rattle.kt_script.proofs.Loads.{load_fits}
use Rattle.kt_script.proofs.script.read_script.Goals as goal

pub returns-in-Some-clause-fits : goal.returns-in-Some-clause-fits
returns-in-Some-clause-fits c =
    let read = c.in_ok-count.ensures c.in_ok-schema.field-0.rest.now c.in-Some.ensures c.in_ok-schema.ensures.2 in
    let is = read.2 in
    load_fits c.in_ok-schema.field-0.schema c.in_ok-plan.plan c.in_ok-count.count (record { some = is.some; few = is.few; table = is.table; plan_is = c.in_ok-plan.ensures })
