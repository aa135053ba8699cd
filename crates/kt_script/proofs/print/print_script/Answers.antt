use Rattle.kt_script.proofs.Printing.{plan_keyed}
use Rattle.kt_script.proofs.print.print_script.Goals as goal

pub print_plan-requires : goal.print_plan-requires
print_plan-requires c = plan_keyed c.args.script.now.schema c.args.script.now.plan c.requires.each
