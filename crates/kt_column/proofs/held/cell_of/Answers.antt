use Rattle.std.proofs.Common.{◌∙◌, ap}
use Rattle.kt_base.specs.declared.cell.Cell.TheVariants.{Bytes}
use Rattle.kt_column.proofs.HeldValues.{text_at}
use Rattle.kt_column.proofs.held.cell_of.Goals as goal

pub returns-in-Ok : goal.returns-in-Ok
returns-in-Ok c =
    let lt = rw c.in-Dictionary.is at c.requires in
    rw c.in-Dictionary.is (ap (λ b. Bytes b) (c.in-Ok.ensures ∙ c.get-in-Dictionary.ensures) ∙ text_at c.in-Dictionary.items c.args.i lt)

pub returns-in-Ok-to_octets : goal.returns-in-Ok-to_octets
returns-in-Ok-to_octets c =
    let lt = rw c.in-Prefixes.is at c.requires in
    rw c.in-Prefixes.is (ap (λ b. Bytes b) (c.in-Ok-to_octets.ensures ∙ c.get-in-Prefixes.ensures) ∙ text_at c.in-Prefixes.items c.args.i lt)
