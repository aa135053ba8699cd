use Rattle.std.proofs.Common.{◌≡◌, ◌-◌, ◌++◌, [], length, drop, true}
use Rattle.kt_bytes.specs.Reading.{many_at}
use Rattle.kt_records.specs.Reading.{operation_at}
use Rattle.kt_records.specs.Rising.{LastIsTop}
use Rattle.kt_records.proofs.lists.operations_into.Given as goal

abbrev pub invariant-ops : goal.invariant-ops
invariant-ops l = record {
  reads : many_at operation_at (l.count - l.counter) (drop l.first l.ops) l.rest ≡ many_at operation_at l.count [] l.bytes;
  front : l.ops ≡ l.initial.ops ++ drop l.first l.ops;
  first : l.first ≡ length l.initial.ops;
  few : length (drop l.first l.ops) ≡ l.counter;
  rises : l.rises ≡ true → LastIsTop (drop l.first l.ops);
}
