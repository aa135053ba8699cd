use Rattle.std.proofs.Common.{◌∙◌, sym}
use Rattle.kt_baseset.specs.Rows.{keys_in}
use Rattle.kt_diskrowset.proofs.Histories.{are_rising}
use Rattle.kt_diskrowset.proofs.Plain.{keys_count}
use Rattle.kt_diskrowset.proofs.TakenRows.{all_short}
use Rattle.kt_diskrowset.proofs.taking.count_of.Goals as goal

pub returns-clause-count : goal.returns-clause-count
returns-clause-count c = c.rows.ensures.count ∙ sym (keys_count c.args.set.now.rows)

pub returns-clause-rise : goal.returns-clause-rise
returns-clause-rise c = are_rising (keys_in c.args.set.now.rows) c.rows.ensures.base.keys.rise

pub returns-clause-short : goal.returns-clause-short
returns-clause-short c = all_short (keys_in c.args.set.now.rows) c.rows.ensures.base.keys.short
