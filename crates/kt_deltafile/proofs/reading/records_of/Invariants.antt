use Rattle.std.proofs.Common.{◌≡◌, ◌-◌, []}
use Rattle.kt_bytes.specs.Reading.{many_at}
use Rattle.kt_deltafile.specs.Reading.{record_at}
use Rattle.kt_deltafile.proofs.reading.records_of.Given as goal

abbrev pub invariant-records : goal.invariant-records
invariant-records l = many_at (record_at l.way l.rows l.count) (l.count - l.counter) l.records.items l.rest ≡ many_at (record_at l.way l.rows l.count) l.count [] l.bytes
