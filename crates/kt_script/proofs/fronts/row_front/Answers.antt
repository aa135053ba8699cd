use Rattle.std.proofs.Common.{◌≡◌, length, subst, sym, ◌∙◌, arith}
use Rattle.kt_script.specs.Places.{IsFault}
use Rattle.kt_script.specs.Outputs.{IsRowLine}
use Rattle.kt_script.specs.Lex.{next_in_row}
use Rattle.kt_script.proofs.RowBytes.{run_stop, run_all, row_fault}
use Rattle.kt_script.proofs.fronts.row_front.Goals as goal

pub returns-in-None : goal.returns-in-None
returns-in-None c = subst (λ n. IsFault IsRowLine c.args.line.now n) (run_stop next_in_row c.args.line.now c.loop-at.at c.loop-at.state c.loop-at-test.true (sym c.in-None.ensures) c.loop-at.invariant) (row_fault c.args.line.now)

pub returns : goal.returns
returns c =
    let past = c.loop-at-test.false in
    let within = c.loop-at.auto.at-end in
    let all : c.loop-at.at ≡ length c.args.line.now = omega arith in
    subst (λ n. IsFault IsRowLine c.args.line.now n) (run_all next_in_row c.args.line.now c.loop-at.at c.loop-at.state past c.loop-at.invariant ∙ all) (row_fault c.args.line.now)
