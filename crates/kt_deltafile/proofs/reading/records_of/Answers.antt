use Rattle.std.proofs.Common.{[]}
use Rattle.std.proofs.lemmas.Result.{err_from_is_err_and}
use Rattle.kt_bytes.specs.Reading.{many_at}
use Rattle.kt_cells.proofs.Items.{goes_on, ends, is_done}
use Rattle.kt_deltafile.specs.Reading.{record_at}
use Rattle.kt_deltafile.proofs.reading.records_of.Goals as goal

pub returns-in_err-one : goal.returns-in_err-one
returns-in_err-one c =
    let p = err_from_is_err_and c.from_residual.result c.from_residual.ensures.1 in
    rw (p.1, p.2) (ends (record_at c.args.way c.args.rows c.args.count) c.in_err-one.field-0.0 c.records.records.items c.args.count c.records.counter c.records.rest.now (many_at (record_at c.args.way c.args.rows c.args.count) c.args.count [] c.args.bytes.now) c.records-test.true (rw c.deref.ensures.value at c.in_err-one.ensures) c.records.invariant)

pub records-preserved : goal.records-preserved
records-preserved c = rw c.in_ok-push.ensures.items (goes_on (record_at c.args.way c.args.rows c.args.count) c.records.records.items c.args.count c.records.counter c.records.rest.now c.in_ok-one.one c.in_ok-one.after.now (many_at (record_at c.args.way c.args.rows c.args.count) c.args.count [] c.args.bytes.now) c.records-test.true (rw c.deref.ensures.value at c.in_ok-one.ensures) c.records.invariant)

pub returns : goal.returns
returns c = is_done (record_at c.args.way c.args.rows c.args.count) c.records.records.items c.args.count c.records.counter c.records.rest.now (many_at (record_at c.args.way c.args.rows c.args.count) c.args.count [] c.args.bytes.now) c.records-test.false c.records.invariant
