use Rattle.kt_merge.proofs.FoldedFiles.{alone_fits}
use Rattle.kt_merge.proofs.folding.row_alone.Goals as goal

pub returns-clause-held : goal.returns-clause-held
returns-clause-held c = alone_fits c.args.base.now.schema c.args.base.now.rows c.args.ordinal c.requires.base c.requires.inside _ c.in_ok-row.ensures c.new.ensures.items
