use Rattle.kt_key.proofs.Cells.{text_inner, no_text}
use Rattle.kt_key.proofs.read.inner_text.Goals as goal

pub returns-in-Some : goal.returns-in-Some
returns-in-Some c =
    let read = rw c.in-Some.is at c.in_ok-text.ensures in
    text_inner c.args.kind c.args.bytes.now c.in-Some.field-0.text c.in-Some.field-0.len c.requires read.0 read.1

pub returns-in-None : goal.returns-in-None
returns-in-None c = no_text c.args.kind c.args.bytes.now c.requires (rw c.in-None.is at c.in_ok-text.ensures)
