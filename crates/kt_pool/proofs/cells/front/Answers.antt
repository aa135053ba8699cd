use Rattle.kt_pool.proofs.Views.{front_content}
use Rattle.kt_pool.proofs.cells.front.Goals as goal

pub returns : goal.returns
returns c = front_content c.args.cells.now c.args.first c.args.len c.requires.full c.requires.inside c.requires.short
