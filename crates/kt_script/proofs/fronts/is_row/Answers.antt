use Rattle.std.proofs.Common.{sym, ◌∙◌, arith}
use Rattle.kt_script.specs.Lex.{next_in_row}
use Rattle.kt_script.proofs.RowBytes.{row_is, accepts_stop, accepts_all}
use Rattle.kt_script.proofs.fronts.is_row.Goals as goal

pub returns-in-None : goal.returns-in-None
returns-in-None c = sym (row_is c.args.line.now ∙ accepts_stop next_in_row c.args.line.now c.loop-byte.byte-index c.loop-byte.state c.loop-byte-test.true (sym c.in-None.ensures) c.loop-byte.invariant)

pub returns : goal.returns
returns c = c.is_whole.ensures ∙ sym (row_is c.args.line.now ∙ accepts_all next_in_row c.args.line.now c.loop-byte.byte-index c.loop-byte.state (omega arith) c.loop-byte.invariant)
