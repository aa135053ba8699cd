use Rattle.std.proofs.Common.{◌∙◌, min, ap, arith}
use Rattle.kt_schema.specs.Columns.{other_columns}
use Rattle.kt_script.specs.declared.forms.OpForm.TheVariants as form
use Rattle.kt_script.specs.Pieces.{words_in}
use Rattle.kt_script.specs.Reasons.{no_of}
use Rattle.kt_script.specs.Writes.{cells_of, under, key_of, cells_said, op_in, later_in}
use Rattle.kt_opening.specs.OpeningLines.{insert_no, may_stand}
use Rattle.kt_opening.proofs.LineReads.{row_least, stands_so, taken, left_out, all_sound, same_pair}
use Rattle.kt_opening.proofs.opening_lines.read_row.Goals as goal

pub returns-then-may_stand : goal.returns-then-may_stand
returns-then-may_stand c =
    let columns = c.args.schema.now in
    let others = other_columns columns in
    let least = row_least columns c.other_columns-others.result.now (op_in c.args.rest) (op_in c.in_ok-key.field-0.rest) (op_in c.in_ok-cells.field-0.rest) c.none-no.result c.take_key.new.no c.take_others.new.no (no_of c.left_no.result) c.note.new.self
    c.other_columns-others.ensures c.in_ok-key.ensures.behind c.in_ok-cells.ensures.behind c.in_ok-key.ensures.least c.in_ok-cells.ensures.least c.left_no.ensures c.note.ensures ∙ ap (λ n. min n (insert_no columns (op_in c.args.rest))) c.none-no.ensures in
    let same = stands_so (insert_no columns) (words_in c.args.rest) (later_in c.in_ok-cells.field-0.rest) c.note.new.self c.may_stand.result c.may_stand.ensures least (c.in_ok-cells.ensures.later ∙ c.in_ok-key.ensures.later) in
    let high = all_sound c.note.new.self (later_in c.in_ok-cells.field-0.rest) c.may_stand.result c.may_stand.ensures c.if-may_stand.true in
    let key = c.in_ok-key.ensures.key (omega (arith, high, c.note.ensures, c.in_ok-cells.ensures.least)) in
    let cells = c.of.ensures ∙ (c.in_ok-cells.ensures.cells ∙ (ap (λ cs. under cs (cells_of cs (op_in c.in_ok-key.field-0.rest))) c.other_columns-others.ensures ∙ ap (λ ws. under others (cells_of others ws)) c.in_ok-key.ensures.behind)) in
    taken c.may_stand.result (may_stand (insert_no columns) (words_in c.args.rest)) (c.in_ok-key.field-0.key, c.of.result) (key_of columns (op_in c.args.rest), cells_said columns form.Literals (op_in c.args.rest)) same c.if-may_stand.true (same_pair key cells)

pub returns-else-may_stand : goal.returns-else-may_stand
returns-else-may_stand c =
    let columns = c.args.schema.now in
    let least = row_least columns c.other_columns-others.result.now (op_in c.args.rest) (op_in c.in_ok-key.field-0.rest) (op_in c.in_ok-cells.field-0.rest) c.none-no.result c.take_key.new.no c.take_others.new.no (no_of c.left_no.result) c.note.new.self
    c.other_columns-others.ensures c.in_ok-key.ensures.behind c.in_ok-cells.ensures.behind c.in_ok-key.ensures.least c.in_ok-cells.ensures.least c.left_no.ensures c.note.ensures ∙ ap (λ n. min n (insert_no columns (op_in c.args.rest))) c.none-no.ensures in
    let same = stands_so (insert_no columns) (words_in c.args.rest) (later_in c.in_ok-cells.field-0.rest) c.note.new.self c.may_stand.result c.may_stand.ensures least (c.in_ok-cells.ensures.later ∙ c.in_ok-key.ensures.later) in
    left_out c.may_stand.result (may_stand (insert_no columns) (words_in c.args.rest)) (key_of columns (op_in c.args.rest), cells_said columns form.Literals (op_in c.args.rest)) same c.if-may_stand.false
