use Rattle.std.proofs.Common.{◌≡◌, ◌∙◌, ◌+◌, ◌<◌, ◌++◌, ◌∷◌, [], List, min, suc, length, map, sym, ap, arith}
use Rattle.std.specs.Prelude.{nat_lt}
use mathlib.Core.List.{append-nil}
use Rattle.std.proofs.lemmas.Bool.Decides.{nat_tests}
use Rattle.std.proofs.lemmas.List.{nil_from_length}
use Rattle.kt_history.specs.declared.operation.RowOp.{RowOp}
use Rattle.kt_script.specs.Reasons.{reason_if}
use Rattle.kt_script.specs.Buffers.{spelled_op}
use Rattle.kt_script.specs.Writes.{op_of, ops_of, ops_no, many_no, first_op, later_ops, words_cut, ops_cut}
use Rattle.kt_script.proofs.Buffers.{is_spelled, read_again}
use Rattle.kt_script.proofs.OpSpelled.{op_spelled}
use Rattle.kt_script.proofs.OpWords.{ops_split, least_op, ops_more, ops_end, none_in, lone_ops, lone_least}
use Rattle.kt_script.proofs.writes.add_ops.Goals as goal

pub ops-smaller : goal.ops-smaller
ops-smaller c =
    let words = words_cut c.in-Some.cut in
    let size : length (ops_cut c.ops.left) ≡ suc (length (later_ops words)) = ap length (ap ops_cut c.in-Some.is ∙ ops_split words) in
    let less : length (ops_cut c.cut_ops-left.result) ≡ length (later_ops words) = ap length (c.cut_ops-left.ensures ∙ c.in_ok-rest.ensures.later) in
    omega (arith, size, less)

pub keep_op-requires-clause-fits : goal.keep_op-requires-clause-fits
keep_op-requires-clause-fits c = λ h.
    let columns = c.args.schema.now in
    let words = first_op (words_cut c.in-Some.cut) in
    let read = c.in_ok-rest.ensures in
    is_spelled c.read_op.new.op (op_of columns words) (op_spelled columns words c.requires.table (omega (arith, h, read.least))) (read.op h)

pub ops-preserved : goal.ops-preserved
ops-preserved c =
    let columns = c.args.schema.now in
    let words = words_cut c.in-Some.cut in
    let read = c.in_ok-rest.ensures in
    let kept = c.in_ok-keep_op.ensures in
    let list = read.list in
    let later = c.cut_ops-left.ensures ∙ read.later in
    let least = kept.least ∙ ap (λ (xs : List RowOp). min c.read_op.new.no (reason_if (nat_lt 63 (length xs)) 18)) list in
    record {
      ops = λ h.
          let taken : 17 < c.read_op.new.no = omega (arith, h, kept.least) in
          let fits = op_spelled columns (first_op words) c.requires.table (omega (arith, taken, read.least)) in
          ops_more columns words (ops_cut c.ops.left) (ops_cut c.cut_ops-left.result) c.ops.op.ops c.keep_op.new.op.ops (map (op_of columns) (ops_of (words_cut c.args.first))) (spelled_op c.read_op.new.op)
          (ap ops_cut c.in-Some.is) later (read_again c.read_op.new.op (op_of columns (first_op words)) fits (read.op taken))
          (kept.kept h ∙ ap (λ (xs : List RowOp). xs ++ spelled_op c.read_op.new.op ∷ []) list) (c.ops.invariant.ops (omega (arith, h, kept.least, read.least)));
      few = kept.few;
      least = least_op columns words (ops_cut c.cut_ops-left.result) (length c.ops.op.ops) (length c.keep_op.new.op.ops) c.ops.no c.read_op.new.no c.keep_op.new.no later c.ops.invariant.few read.least least
          (λ h. kept.room h ∙ ap (λ (xs : List RowOp). min 64 (length xs + 1)) list)
          ∙ (ap (λ left. min c.ops.no (min (ops_no columns (ops_cut left)) (many_no (length c.ops.op.ops) (ops_cut left)))) (sym c.in-Some.is) ∙ c.ops.invariant.least);
    }

pub returns-then-is_none-clause-spelled : goal.returns-then-is_none-clause-spelled
returns-then-is_none-clause-spelled c = λ h.
    let columns = c.args.schema.now in
    let words = first_op (words_cut c.in-Some.cut) in
    let read = c.in_ok-rest.ensures in
    is_spelled c.read_op.new.op (op_of columns words) (op_spelled columns words c.requires.table (omega (arith, h, c.note.ensures, read.least))) (read.op (omega (arith, h, c.note.ensures)))

pub returns-then-is_none-clause-ops : goal.returns-then-is_none-clause-ops
returns-then-is_none-clause-ops c = λ h.
    let columns = c.args.schema.now in
    let words = words_cut c.in-Some.cut in
    let read = c.in_ok-rest.ensures in
    let taken : 17 < c.read_op.new.no = omega (arith, h, c.note.ensures) in
    let fits = op_spelled columns (first_op words) c.requires.table (omega (arith, taken, read.least)) in
    let zero : length c.read_op.new.op.ops ≡ 0 = grind (arith, nat_tests) in
    let none : c.ops.op.ops ≡ [] = sym read.list ∙ nil_from_length c.read_op.new.op.ops zero in
    lone_ops columns words (ops_cut c.ops.left) c.ops.op.ops (map (op_of columns) (ops_of (words_cut c.args.first))) (spelled_op c.read_op.new.op) (ap ops_cut c.in-Some.is) (sym (none_in c.in_ok-rest.rest c.if-is_none.ensures) ∙ read.later)
    (read_again c.read_op.new.op (op_of columns (first_op words)) fits (read.op taken)) none (c.ops.invariant.ops (omega (arith, h, c.note.ensures, read.least)))

pub returns-then-is_none-clause-least : goal.returns-then-is_none-clause-least
returns-then-is_none-clause-least c =
    let read = c.in_ok-rest.ensures in
    let zero : length c.read_op.new.op.ops ≡ 0 = grind (arith, nat_tests) in
    let none : c.ops.op.ops ≡ [] = sym read.list ∙ nil_from_length c.read_op.new.op.ops zero in
    lone_least c.args.schema.now (words_cut c.in-Some.cut) (ops_cut c.ops.left) c.ops.op.ops c.ops.no c.read_op.new.no c.note.new.self _ (ap ops_cut c.in-Some.is) (sym (none_in c.in_ok-rest.rest c.if-is_none.ensures) ∙ read.later) none
    read.least c.note.ensures c.ops.invariant.least

pub returns-clause-ops : goal.returns-clause-ops
returns-clause-ops c = λ h.
    sym (append-nil c.ops.op.ops) ∙ (ap (λ left. c.ops.op.ops ++ map (op_of c.args.schema.now) (ops_cut left)) (sym c.in_default.is) ∙ c.ops.invariant.ops (omega (arith, h, c.note-2.ensures)))

pub returns-clause-least : goal.returns-clause-least
returns-clause-least c =
    let columns = c.args.schema.now in
    let n = length c.ops.op.ops in
    c.note-2.ensures ∙ (sym (ops_end columns c.ops.no n c.ops.invariant.few) ∙ (ap (λ left. min c.ops.no (min (ops_no columns (ops_cut left)) (many_no n (ops_cut left)))) (sym c.in_default.is) ∙ c.ops.invariant.least))
