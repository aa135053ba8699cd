use Rattle.std.proofs.Common.{◌≡◌, ◌-◌, []}
use Rattle.kt_bytes.specs.Reading.{many_at}
use Rattle.kt_super.specs.Columns.{column_at}
use Rattle.kt_super.proofs.columns.columns_of.Given as goal

abbrev pub invariant-loop : goal.invariant-loop
invariant-loop l = many_at (column_at l.next) (l.count - l.counter) l.columns.items l.rest ≡ many_at (column_at l.next) l.count [] l.bytes
