use Rattle.std.proofs.Common.{◌∙◌}
use Rattle.kt_plain.proofs.Fields.{numbers_are, numbers_again}
use Rattle.kt_plain.proofs.numbers.Numbers.read.Goals as goal

pub invariant_of-result : goal.invariant_of-result
invariant_of-result c =
    numbers_again c.args.width c.requires.0 c.in_ok-bytes.bytes.items (record { fit = c.requires.1.fit; spelled = c.in_ok-bytes.ensures.items ∙ c.requires.1.spelled })

pub returns : goal.returns
returns c =
    λ zs a. numbers_are c.args.width zs c.in_ok-bytes.bytes.items (record { fit = a.fit; spelled = c.in_ok-bytes.ensures.items ∙ a.spelled })
