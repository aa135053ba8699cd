use Rattle.kt_column.proofs.Chosen.{shortest_again}
use Rattle.std.proofs.Common.{refl}
use Rattle.kt_column.proofs.values.shortest.Goals as goal

pub unreachable-requires : goal.unreachable-requires
unreachable-requires c =
    let best = c.in-Ok.ensures in
    (rw c.in-None.is at c.in-Ok-encoded.ensures) best.0 best.1.stands

pub returns : goal.returns
returns c =
    let best = c.in-Ok.ensures in
    shortest_again c.args.form c.args.items.now c.in-Ok.value c.in-Ok.value best.0 c.in-Some.bytes.items best.1 refl (rw c.in-Some.is at c.in-Ok-encoded.ensures)
