use Rattle.std.proofs.Common.{ap, ◌∙◌, arith}
use Rattle.kt_pool.specs.Contents.{bytes_at}
use Rattle.kt_memrowset.specs.Links.{head_of}
use Rattle.kt_memrowset.proofs.Links.{head_front}
use Rattle.kt_memrowset.proofs.link.head_in.Goals as goal

pub returns : goal.returns
returns c = c.head_from.ensures ∙ ap head_of c.front.ensures ∙ head_front 23 (bytes_at c.args.pool.now c.args.cell) (omega arith)
