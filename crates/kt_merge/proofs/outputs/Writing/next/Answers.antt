use Rattle.std.proofs.Common.{arith}
use Rattle.kt_merge.proofs.WrittenRowsets.{open_few}
use Rattle.kt_merge.proofs.outputs.Writing.next.Goals as goal

pub next-requires : goal.next-requires
next-requires c = let few = open_few c.args.self.now.growing.rows.items c.requires.grows.opened in omega (arith, few)
