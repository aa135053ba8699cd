use Rattle.std.proofs.Common.{◌∙◌, ◌-◌, length, arith}
use Rattle.kt_tree.proofs.Heads.{shifted, head_by}
use Rattle.kt_tree.proofs.node.first_eight.Goals as goal

pub returns : goal.returns
returns c = head_by c.args.key.now c.read_u32.result c.read_u32-2.result c.read_u32.ensures (c.read_u32-2.ensures ∙ shifted (length c.args.key.now - 4) c.args.key.now (let h = c.requires in omega arith))
