use Rattle.std.proofs.Common.{◌≡◌, ◌-◌, [], length}
use Rattle.kt_bytes.specs.Reading.{many_at}
use Rattle.kt_super.specs.Rowsets.{least_after, taken_after, next_rowset_at}
use Rattle.kt_super.proofs.rowsets.rowsets_of.Given as goal

abbrev pub invariant-loop-i : goal.invariant-loop-i
invariant-loop-i l = record {
  reads : many_at (next_rowset_at l.next.rowset l.next.file l.count) (l.count - l.i) l.rowsets.items l.rest ≡ many_at (next_rowset_at l.next.rowset l.next.file l.count) l.count [] l.bytes;
  count : length l.rowsets.items ≡ l.i;
  least : l.least ≡ least_after 0 l.rowsets.items;
  taken : l.taken ≡ taken_after [] l.rowsets.items;
}
