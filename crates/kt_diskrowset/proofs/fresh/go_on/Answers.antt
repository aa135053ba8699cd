use Rattle.kt_history.specs.Stores.{after_steps}
use Rattle.kt_rowfiles.specs.Reading.{steps_in}
use Rattle.kt_diskrowset.proofs.Plain.{delta_next, deltas_over}
use Rattle.kt_diskrowset.proofs.fresh.go_on.Goals as goal

pub changes-preserved : goal.changes-preserved
changes-preserved c = delta_next c.args.t c.args.changes.now c.changes.delta-index c.changes.row (after_steps c.args.t (steps_in c.args.changes.now) c.args.row.now) c.delta-item.result c.advance.new.row c.changes-test.true c.delta-item.is c.in_ok-advance.ensures c.changes.invariant

pub returns : goal.returns
returns c = deltas_over c.args.t c.args.changes.now c.changes.delta-index c.changes.row (after_steps c.args.t (steps_in c.args.changes.now) c.args.row.now) c.changes-test.false c.changes.invariant
