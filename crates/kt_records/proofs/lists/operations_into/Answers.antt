use Rattle.std.proofs.Common.{[], ◌∷◌, drop, length, ◌∙◌, ◌+◌, ◌<◌, ap, ℕ, Ok, arith, length-append}
use Rattle.std.proofs.lemmas.Result.{err_from_is_err_and}
use Rattle.kt_bytes.specs.Reading.{many_at}
use Rattle.kt_records.specs.Reading.{operation_at}
use Rattle.kt_cells.proofs.Items.{goes_on, ends, is_done}
use Rattle.kt_records.proofs.Shared.{one_more, front_stays}
use Rattle.kt_records.proofs.Tops.{top_behind}
use Rattle.kt_records.proofs.lists.operations_into.Goals as goal

pub returns-in_err-op-clause-read : goal.returns-in_err-op-clause-read
returns-in_err-op-clause-read c =
    let p = err_from_is_err_and c.from_residual.result c.from_residual.ensures.1 in
    rw (p.1, p.2) (ends operation_at c.in_err-op.field-0.0 (drop c.len-first.result c.ops.ops) c.args.count c.ops.counter c.ops.rest.now (many_at operation_at c.args.count [] c.args.bytes.now) c.ops-test.true c.in_err-op.ensures.read c.ops.invariant.reads)

few : (c : goal.After-op-in-ops-1) → length (drop c.len-first.result c.ops.ops) < 256
few c = omega (arith, c.ops.invariant.few, c.ops-test.true, c.requires)

pub keep-requires-clause-spelled : goal.keep-requires-clause-spelled
keep-requires-clause-spelled c = (c.in_ok-op.after.now, c.in_ok-op.ensures.spelled (few c))

pub keep-requires-clause-fits : goal.keep-requires-clause-fits
keep-requires-clause-fits c = c.in_ok-op.ensures.fits (few c)

pub ops-preserved : goal.ops-preserved
ops-preserved c =
    let n = c.len-first.result in
    let total = many_at operation_at c.args.count [] c.args.bytes.now in
    let more = one_more c.ops.ops c.keep.new.ops c.args.ops.now c.in_ok-op.op n c.ops.invariant.front c.ops.invariant.first c.in_ok-keep.ensures.ok in
    record {
      reads = rw more (goes_on operation_at (drop n c.ops.ops) c.args.count c.ops.counter c.ops.rest.now c.in_ok-op.op c.in_ok-op.after.now total c.ops-test.true c.in_ok-op.ensures.read c.ops.invariant.reads);
      front = front_stays c.ops.ops c.keep.new.ops c.args.ops.now c.in_ok-op.op n c.ops.invariant.front c.ops.invariant.first c.in_ok-keep.ensures.ok;
      first = c.ops.invariant.first;
      few = ap length more ∙ length-append (drop n c.ops.ops) (c.in_ok-op.op ∷ []) ∙ ap (λ (k : ℕ). k + 1) c.ops.invariant.few;
      rises = λ above. top_behind (drop n c.ops.ops) (drop n c.keep.new.ops) c.in_ok-op.op more (c.in_ok-op.ensures.above above);
    }

pub returns-clause-read : goal.returns-clause-read
returns-clause-read c =
    let n = c.len-first.result in
    let total = many_at operation_at c.args.count [] c.args.bytes.now in
    is_done operation_at (drop n c.ops.ops) c.args.count c.ops.counter c.ops.rest.now total c.ops-test.false c.ops.invariant.reads ∙ ap (λ (k : ℕ). Ok (drop k c.ops.ops, c.ops.rest.now)) c.ops.invariant.first
