use Rattle.std.proofs.Common.{take, ap, ◌∙◌, arith, length-take}
use Rattle.std.specs.Int.{w64, from_be_bytes}
use Rattle.std.proofs.lemmas.Nat.{be_bytes_8}
use Rattle.kt_history.proofs.Fronts.{take_small}
use Rattle.kt_history.proofs.change_list.first_eight.Goals as goal

pub returns-in-Some : goal.returns-in-Some
returns-in-Some c =
    let chunk = c.in-Some.ensures.cases in
    let number = c.from_be_bytes.ensures ∙ ap (from_be_bytes w64) chunk.0 in
    (number, be_bytes_8 (take 8 c.args.bytes.now) c.from_be_bytes.result (omega (arith, length-take 8 c.args.bytes.now, chunk.2)) (take_small 8 c.args.bytes.now (λ i. (c.type_inv.bytes i).fits)) number, chunk.1)
