use Rattle.std.proofs.Common.{◌≡◌, arith}
use Rattle.std.proofs.lemmas.Grind.{common_steps}
use Rattle.kt_pool.specs.Contents.{bytes_at}
use Rattle.kt_memrowset.proofs.Rows.{not_refused}
use Rattle.kt_memrowset.proofs.chain.cells_in.Goals as goal

pub unreachable-requires : goal.unreachable-requires
unreachable-requires c =
    let whole : c.deref.result.now ≡ bytes_at c.args.pool.now c.args.cell = grind (arith, common_steps) in
    let refused = rw c.in-Err-Left.field-0-is at c.in-Err-Left.ensures in
    not_refused c.args.pool.now c.args.cell c.in-Err-Left.field-0-0 c.deref.result.now c.requires whole refused
