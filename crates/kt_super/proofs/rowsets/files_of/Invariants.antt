use Rattle.std.proofs.Common.{◌≡◌, ◌-◌, ◌++◌, []}
use Rattle.kt_bytes.specs.Reading.{many_at}
use Rattle.kt_super.specs.Rowsets.{numbers_of, next_file_at}
use Rattle.kt_super.proofs.rowsets.files_of.Given as goal

abbrev pub invariant-loop : goal.invariant-loop
invariant-loop l = record {
  reads : many_at (next_file_at l.next l.fn.taken) (l.count - l.counter) l.files.items l.rest ≡ many_at (next_file_at l.next l.fn.taken) l.count [] l.bytes;
  taken : l.taken ≡ l.fn.taken ++ numbers_of l.files.items;
}
