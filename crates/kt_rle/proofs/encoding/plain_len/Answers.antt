use Rattle.std.proofs.Common.{sym}
use Rattle.kt_plain.proofs.Fields.{length-spelled}
use Rattle.kt_rle.proofs.encoding.plain_len.Goals as goal

pub returns : goal.returns
returns c = rw (c.len.ensures, c.field_len.ensures) (sym (length-spelled c.args.width c.args.cells.now))
