use Rattle.std.proofs.Common.{◌<◌, ◌∙◌, List, min, ap, sym, arith}
use Rattle.kt_history.specs.declared.command.Command.TheVariants as command
use Rattle.kt_history.specs.declared.operation.RowOp.{RowOp}
use Rattle.kt_script.specs.Buffers.{line_ops}
use Rattle.kt_script.specs.Writes.{ops_of, ops_no, many_no, words_cut}
use Rattle.kt_script.proofs.OpWords.{write_least}
use Rattle.kt_script.proofs.writes.read_write.Goals as goal

pub returns-in-Some : goal.returns-in-Some
returns-in-Some c =
    let n = c.add_ops.new.no in
    let whole = ops_of (words_cut c.args.first) in
    let read = c.in-Ok.ensures.least ∙ ap (λ k. min k (min (ops_no c.args.schema.now whole) (many_no 0 whole))) c.none-no.ensures in
    let last = c.note.ensures ∙ ap (min n) c.line_twice_no.ensures in
    (write_least c.args.schema.now (words_cut c.args.first) (line_ops c.add_ops.new.op c.in-Ok.lone) n c.note.new.self read c.in-Ok.ensures.ops last ∙ sym c.in-Some.ensures, omega arith)

pub take_command-requires : goal.take_command-requires
take_command-requires c =
    let last = c.note.ensures ∙ ap (min c.add_ops.new.no) c.line_twice_no.ensures in
    c.in-Ok.ensures.spelled (omega (arith, last, c.in-None.ensures))

pub returns-in-None : goal.returns-in-None
returns-in-None c =
    let n = c.add_ops.new.no in
    let whole = ops_of (words_cut c.args.first) in
    let read = c.in-Ok.ensures.least ∙ ap (λ k. min k (min (ops_no c.args.schema.now whole) (many_no 0 whole))) c.none-no.ensures in
    let last = c.note.ensures ∙ ap (min n) c.line_twice_no.ensures in
    let high : 18 < n = omega (arith, last, c.in-None.ensures) in (
      write_least c.args.schema.now (words_cut c.args.first) (line_ops c.add_ops.new.op c.in-Ok.lone) n c.note.new.self read c.in-Ok.ensures.ops last ∙ sym c.in-None.ensures,
      c.take_command.ensures.command ∙ ap (λ (ops : List RowOp). command.Write (record { ops = ops })) (c.in-Ok.ensures.ops high),
      c.take_command.ensures.spelled,
    )
