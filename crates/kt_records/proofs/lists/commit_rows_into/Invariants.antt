use Rattle.std.proofs.Common.{◌≡◌, ◌-◌, ◌++◌, [], length, drop}
use Rattle.kt_bytes.specs.Reading.{many_at}
use Rattle.kt_records.specs.Reading.{commit_row_at}
use Rattle.kt_records.proofs.lists.commit_rows_into.Given as goal

abbrev pub invariant-rows : goal.invariant-rows
invariant-rows l = record {
  reads : many_at (λ front. commit_row_at) (l.count - l.counter) (drop (length l.initial.rows.items) l.rows.items) l.rest ≡ many_at (λ front. commit_row_at) l.count [] l.bytes;
  front : l.rows.items ≡ l.initial.rows.items ++ drop (length l.initial.rows.items) l.rows.items;
}
