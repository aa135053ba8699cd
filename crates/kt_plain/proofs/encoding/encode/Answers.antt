use Rattle.std.proofs.Common.{◌+◌, ◌^◌, arith, length}
use Rattle.std.specs.List.{concat}
use Rattle.kt_bytes.specs.Cuts.{ends_of}
use Rattle.kt_bytes.proofs.Cuts.{IsCut-ends_of}
use Rattle.kt_plain.proofs.Ends.{all_below}
use Rattle.kt_plain.proofs.encoding.encode.Goals as goal

pub spelled_texts-requires : goal.spelled_texts-requires
spelled_texts-requires c =
    let ts = c.in-Texts-Bytes.texts in
    let fits = rw (c.in-Texts-Bytes.is-1, c.in-Texts-Bytes.is-0) at c.requires in
    rw c.ends.ensures (all_below 0 (ends_of 0 ts) (0 + length (concat ts)) (2 ^ 32) (IsCut-ends_of 0 ts) (omega (arith, fits.1)))
