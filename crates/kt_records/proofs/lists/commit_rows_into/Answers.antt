use Rattle.std.proofs.Common.{[], drop, length, refl}
use Rattle.std.proofs.lemmas.Result.{err_from_is_err_and}
use Rattle.kt_bytes.specs.Reading.{many_at}
use Rattle.kt_records.specs.Reading.{commit_row_at}
use Rattle.kt_cells.proofs.Items.{goes_on, ends, is_done}
use Rattle.kt_records.proofs.Shared.{one_more, front_stays}
use Rattle.kt_records.proofs.lists.commit_rows_into.Goals as goal

pub returns-in_err-row-clause-read : goal.returns-in_err-row-clause-read
returns-in_err-row-clause-read c =
    let p = err_from_is_err_and c.from_residual.result c.from_residual.ensures.1 in
    rw (p.1, p.2) (ends (λ front. commit_row_at) c.in_err-row.field-0.0 (drop (length c.args.rows.now.items) c.rows.rows.items) c.args.count c.rows.counter c.rows.rest.now (many_at (λ front. commit_row_at) c.args.count [] c.args.bytes.now) c.rows-test.true c.in_err-row.ensures c.rows.invariant.reads)

pub rows-preserved : goal.rows-preserved
rows-preserved c =
    let old = c.args.rows.now.items in
    let n = length old in
    let total = many_at (λ front. commit_row_at) c.args.count [] c.args.bytes.now in
    let more = one_more c.rows.rows.items c.push.new.self.items old c.in_ok-row.row n c.rows.invariant.front refl c.in_ok-push.ensures.items in
    record {
      reads = rw more (goes_on (λ front. commit_row_at) (drop n c.rows.rows.items) c.args.count c.rows.counter c.rows.rest.now c.in_ok-row.row c.in_ok-row.after.now total c.rows-test.true c.in_ok-row.ensures c.rows.invariant.reads);
      front = front_stays c.rows.rows.items c.push.new.self.items old c.in_ok-row.row n c.rows.invariant.front refl c.in_ok-push.ensures.items;
    }

pub returns-clause-read : goal.returns-clause-read
returns-clause-read c =
    is_done (λ front. commit_row_at) (drop (length c.args.rows.now.items) c.rows.rows.items) c.args.count c.rows.counter c.rows.rest.now (many_at (λ front. commit_row_at) c.args.count [] c.args.bytes.now) c.rows-test.false c.rows.invariant.reads
