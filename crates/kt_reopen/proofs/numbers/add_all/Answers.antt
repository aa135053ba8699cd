use Rattle.std.proofs.Common.{◌++◌, take, arith, rules}
use Rattle.kt_reopen.proofs.Adding.{target_more}
use Rattle.kt_reopen.proofs.numbers.add_all.Goals as goal

pub targets-preserved : goal.targets-preserved
targets-preserved c before h =
    target_more c.add.new.named before c.args.targets.now c.targets.target-index _ (c.in_ok-add.ensures (before ++ take c.targets.target-index c.args.targets.now) (c.targets.invariant before h)) (omega arith) (search rules)
