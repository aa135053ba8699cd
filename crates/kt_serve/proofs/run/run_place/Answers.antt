use Rattle.std.proofs.Common.{arith}
use Rattle.std.proofs.lemmas.Option.{slice_get_within}
use Rattle.kt_serve.proofs.run.run_place.Goals as goal

pub returns-else-at-plan : goal.returns-else-at-plan
returns-else-at-plan g c = record {
  back = c.work_and_leave.ensures.pass;
  left = c.work_and_leave.ensures.left;
  home = c.work_and_leave.ensures.home;
  store = c.work_and_leave.ensures.rests;
  none = c.work_and_leave.ensures.none;
  run = λ commands e. let within = slice_get_within c.args.plan.now c.args.at commands e in absurd (omega (arith, within, c.if-at-plan.false));
}
