use Rattle.std.proofs.Common.{refl, sym, subst, arith}
use Rattle.std.specs.Fmt.{decimal}
use Rattle.std.proofs.lemmas.List.{nil_from_length}
use Rattle.kt_script.specs.Places.{IsFault}
use Rattle.kt_script.specs.Fronts.{IsNumber}
use Rattle.kt_script.proofs.Places.{no_bytes}
use Rattle.kt_script.proofs.NumberBytes.{zero_fault, digit_fault, no_digit}
use Rattle.kt_script.proofs.fronts.number_front.Goals as goal

pub returns-in_default : goal.returns-in_default
returns-in_default c = subst (λ x. IsFault (IsNumber c.args.most) x 0) (sym (nil_from_length c.args.text.now c.in_default.ensures.cases)) (no_bytes (IsNumber c.args.most) (decimal 0) (0, omega arith, refl))

pub returns-in_default-longer : goal.returns-in_default-longer
returns-in_default-longer c = no_digit c.args.most c.in-Some.first.now c.args.text.now c.in-Some.rest.now (omega arith) c.in-Some.ensures.cases.0 (sym c.in_default-longer.ensures)

pub returns-then-digit-eq0 : goal.returns-then-digit-eq0
returns-then-digit-eq0 c = zero_fault c.args.most c.in-Some.first.now c.args.text.now c.in-Some.rest.now (omega arith) c.in-Some.ensures.cases.0 c.in-Some-longer.digit (sym c.in-Some-longer.ensures) c.if-digit-eq0.true

pub returns-else-digit-eq0 : goal.returns-else-digit-eq0
returns-else-digit-eq0 c = digit_fault c.args.most c.in-Some.first.now c.args.text.now c.in-Some.rest.now (omega arith) c.in-Some.ensures.cases.0 c.in-Some-longer.digit c.digits_front.result (sym c.in-Some-longer.ensures) c.digits_front.ensures
