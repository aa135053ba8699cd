use Rattle.std.proofs.Common.{◌∙◌, min, ap, arith}
use Rattle.kt_script.specs.Pieces.{words_in}
use Rattle.kt_script.specs.Reasons.{no_of}
use Rattle.kt_script.specs.Writes.{key_of, op_in, later_in}
use Rattle.kt_opening.specs.OpeningLines.{delete_no, may_stand}
use Rattle.kt_opening.proofs.LineReads.{stands_so, taken, left_out, all_sound, key_least}
use Rattle.kt_opening.proofs.opening_lines.read_key.Goals as goal

pub returns-then-may_stand : goal.returns-then-may_stand
returns-then-may_stand c =
    let columns = c.args.schema.now in
    let least = key_least columns (op_in c.args.rest) (op_in c.in_ok-key.field-0.rest) c.none-no.result c.take_key.new.no (no_of c.left_no.result) c.note.new.self
    c.in_ok-key.ensures.behind c.in_ok-key.ensures.least c.left_no.ensures c.note.ensures ∙ ap (λ n. min n (delete_no columns (op_in c.args.rest))) c.none-no.ensures in
    let same = stands_so (delete_no columns) (words_in c.args.rest) (later_in c.in_ok-key.field-0.rest) c.note.new.self c.may_stand.result c.may_stand.ensures least c.in_ok-key.ensures.later in
    let high = all_sound c.note.new.self (later_in c.in_ok-key.field-0.rest) c.may_stand.result c.may_stand.ensures c.if-may_stand.true in
    let key = c.in_ok-key.ensures.key (omega (arith, high, c.note.ensures)) in
    taken c.may_stand.result (may_stand (delete_no columns) (words_in c.args.rest)) c.in_ok-key.field-0.key (key_of columns (op_in c.args.rest)) same c.if-may_stand.true key

pub returns-else-may_stand : goal.returns-else-may_stand
returns-else-may_stand c =
    let columns = c.args.schema.now in
    let least = key_least columns (op_in c.args.rest) (op_in c.in_ok-key.field-0.rest) c.none-no.result c.take_key.new.no (no_of c.left_no.result) c.note.new.self
    c.in_ok-key.ensures.behind c.in_ok-key.ensures.least c.left_no.ensures c.note.ensures ∙ ap (λ n. min n (delete_no columns (op_in c.args.rest))) c.none-no.ensures in
    let same = stands_so (delete_no columns) (words_in c.args.rest) (later_in c.in_ok-key.field-0.rest) c.note.new.self c.may_stand.result c.may_stand.ensures least c.in_ok-key.ensures.later in
    left_out c.may_stand.result (may_stand (delete_no columns) (words_in c.args.rest)) (key_of columns (op_in c.args.rest)) same c.if-may_stand.false
