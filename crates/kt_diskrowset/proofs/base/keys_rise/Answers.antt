use Rattle.kt_baseset.specs.Rows.{keys_in}
use Rattle.kt_diskrowset.proofs.Histories.{are_rising}
use Rattle.kt_diskrowset.proofs.base.keys_rise.Goals as goal

pub returns : goal.returns
returns c = are_rising (keys_in c.args.set.now.rows) c.rows-rows.ensures.base.keys.rise
