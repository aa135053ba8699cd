use Rattle.kt_plain.proofs.Fields.{numbers_are, numbers_again}
use Rattle.kt_plain.proofs.numbers.Numbers.of.Goals as goal

pub invariant_of-result : goal.invariant_of-result
invariant_of-result c =
    numbers_again c.args.width c.args.values.now c.in_ok-bytes.bytes.items (record { fit = c.requires; spelled = c.in_ok-bytes.ensures })

pub returns : goal.returns
returns c =
    numbers_are c.args.width c.args.values.now c.in_ok-bytes.bytes.items (record { fit = c.requires; spelled = c.in_ok-bytes.ensures })
