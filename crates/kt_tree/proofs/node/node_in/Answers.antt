use Rattle.std.proofs.Common.{◌∙◌, ap, arith, length}
use Rattle.std.proofs.lemmas.List.{take_all}
use Rattle.kt_pool.specs.Contents.{bytes_at}
use Rattle.kt_tree.specs.Shapes.{node_of}
use Rattle.kt_tree.proofs.node.node_in.Goals as goal

pub node_from-requires : goal.node_from-requires
node_from-requires c = let r = c.requires in ap length (c.front.ensures ∙ take_all 24 (bytes_at c.args.pool.now c.args.cell) (omega arith)) ∙ c.requires

pub returns : goal.returns
returns c = let r = c.requires in c.node_from.ensures ∙ ap node_of (c.front.ensures ∙ take_all 24 (bytes_at c.args.pool.now c.args.cell) (omega arith))
