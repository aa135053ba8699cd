use Rattle.std.proofs.Common.{◌≡◌, length, subst, sym, ◌∙◌, arith}
use Rattle.kt_script.specs.Places.{IsFault}
use Rattle.kt_script.specs.Fronts.{IsBehind}
use Rattle.kt_script.proofs.NumberBytes.{digits_stop, digits_all, digits_fault}
use Rattle.kt_script.proofs.fronts.digits_front.Goals as goal

pub returns-in-None : goal.returns-in-None
returns-in-None c = subst (λ n. IsFault (IsBehind c.args.most c.args.value) c.args.digits.now n) (digits_stop c.args.most c.args.value c.args.digits.now c.loop-at.at c.loop-at.number c.loop-at-test.true (sym c.in-None.ensures) c.loop-at.invariant) (digits_fault c.args.most (omega arith) c.args.digits.now c.args.value c.requires.some c.requires.fits)

pub returns : goal.returns
returns c =
    let past = c.loop-at-test.false in
    let within = c.loop-at.auto.at-end in
    let all : c.loop-at.at ≡ length c.args.digits.now = omega arith in
    subst (λ n. IsFault (IsBehind c.args.most c.args.value) c.args.digits.now n) (digits_all c.args.most c.args.value c.args.digits.now c.loop-at.at c.loop-at.number past c.loop-at.invariant ∙ all) (digits_fault c.args.most (omega arith) c.args.digits.now c.args.value c.requires.some c.requires.fits)
