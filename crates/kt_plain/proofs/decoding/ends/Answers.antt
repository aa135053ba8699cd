use Rattle.std.proofs.Common.{◌≡◌, ◌∙◌, ◌*◌, ◌++◌, ◌∷◌, [], List, ℕ, drop, ap, sym}
use Rattle.std.proofs.lemmas.List.{take_rest}
use Rattle.byteorder.specs.Endian.{little_number}
use Rattle.kt_plain.specs.Reading.{ends_in}
use Rattle.kt_plain.proofs.Ends.{ends_in-more}
use Rattle.kt_plain.proofs.decoding.ends.Goals as goal

pub ends-preserved : goal.ends-preserved
ends-preserved c =
    let end : c.read_u32.result ≡ little_number 4 (drop (4 * c.ends.i) c.args.bytes.now) = rw (take_rest c.args.bytes.now (4 * c.ends.i)) at c.read_u32.ensures in
    c.in_ok-push.ensures.items ∙ ap (λ (xs : List ℕ). xs ++ c.read_u32.result ∷ []) c.ends.invariant
    ∙ ap (λ (e : ℕ). ends_in c.ends.i c.args.bytes.now ++ e ∷ []) end ∙ sym (ends_in-more c.ends.i c.args.bytes.now)
