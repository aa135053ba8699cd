use Rattle.kt_baseset.specs.Rows.{keys_in}
use Rattle.kt_diskrowset.proofs.Histories.{are_rising, search_tells}
use Rattle.kt_diskrowset.proofs.base.place_of.Goals as goal

pub returns-clause-rise : goal.returns-clause-rise
returns-clause-rise c = are_rising (keys_in c.args.set.now.rows) c.rows-rows.ensures.base.keys.rise

pub returns-clause-row : goal.returns-clause-row
returns-clause-row c = search_tells c.args.set.now.rows c.args.key.now c.ordinal.result (are_rising (keys_in c.args.set.now.rows) c.rows-rows.ensures.base.keys.rise) c.ordinal.ensures.found c.ordinal.ensures.none
