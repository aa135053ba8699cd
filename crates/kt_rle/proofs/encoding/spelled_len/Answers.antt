use Rattle.kt_rle.proofs.Held.{held_takes}
use Rattle.kt_rle.proofs.encoding.spelled_len.Goals as goal

pub returns : goal.returns
returns c =
    rw c.field_len.ensures (held_takes c.args.width c.runs.result.now c.args.cells.now c.runs.ensures.held c.runs.ensures.same c.requires.0 c.requires.1)
