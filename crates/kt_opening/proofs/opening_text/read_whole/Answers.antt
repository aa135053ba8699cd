use Rattle.std.proofs.lemmas.Result.{err_from_is_err_and}
use Rattle.kt_opening.specs.OpeningTexts.{begin, rows_due, no_rows}
use Rattle.kt_opening.proofs.Leading.{ends_behind}
use Rattle.kt_opening.proofs.opening_text.read_whole.Goals as goal

pub returns-in_err-rows-clause-read : goal.returns-in_err-rows-clause-read
returns-in_err-rows-clause-read c =
    let p = err_from_is_err_and c.from_residual-in_err-rows.result c.from_residual-in_err-rows.ensures.1 in
    let f = c.in_ok-a.field-0 in
    rw (p.1, p.2)
    (ends_behind c.args.schema.now c.args.text.now begin 0 (rows_due f.c (no_rows f.a) f.rows) f.at c.in_err-rows.field-0.0 (c.in_ok-a.ensures.read c.args.schema.now) (c.in_err-rows.ensures.read f.a f.c))
