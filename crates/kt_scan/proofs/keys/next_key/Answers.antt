use Rattle.std.proofs.Common.{◌∙◌, arith}
use Rattle.std.specs.Option.{option_copied}
use Rattle.kt_scan.proofs.KeyOrder.{all_more}
use Rattle.kt_scan.proofs.keys.next_key.Goals as goal

pub loop-at-preserved : goal.loop-at-preserved
loop-at-preserved g c =
    c.lesser-found.ensures
    ∙ all_more g.V.View.keys g.met.V.View.keys_rise (option_copied c.args.after) c.args.views.now c.loop-at.at c.index-views-at.result (option_copied c.loop-at.found) (option_copied c.next_key.result) (omega arith) c.index-views-at.is c.loop-at.invariant c.next_key.ensures
