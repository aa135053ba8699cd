use Rattle.std.proofs.Common.{arith, sym}
use Rattle.std.specs.List.{concat, flat_map}
use Rattle.std.specs.Int.{w32, to_le_bytes}
use Rattle.std.proofs.lemmas.List.{length-append}
use Rattle.kt_bytes.specs.Cuts.{ends_of}
use Rattle.kt_bytes.proofs.Cuts.{length-ends_of}
use Rattle.kt_plain.proofs.Fields.{length-spelled}
use Rattle.kt_plain.proofs.Ends.{length-le32}
use Rattle.kt_plain.proofs.encoding.encoded_len.Goals as goal

pub returns-in-Numbers-Numbers : goal.returns-in-Numbers-Numbers
returns-in-Numbers-Numbers c =
    rw (c.in-Numbers-Numbers.is-1, c.in-Numbers-Numbers.is-0, c.len.ensures, c.field_len.ensures) (sym (length-spelled c.in-Numbers-Numbers.width c.in-Numbers-Numbers.numbers))

pub returns-in-Texts-Bytes : goal.returns-in-Texts-Bytes
returns-in-Texts-Bytes c =
    let ts = c.in-Texts-Bytes.texts in
    rw (c.in-Texts-Bytes.is-1, c.in-Texts-Bytes.is-0) (omega (arith, length-append (flat_map (to_le_bytes w32) (ends_of 0 ts)) (concat ts), length-le32 (ends_of 0 ts), length-ends_of 0 ts))
