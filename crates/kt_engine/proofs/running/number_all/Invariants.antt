use Rattle.std.proofs.Common.{◌≡◌}
use Rattle.std.specs.List.{range_with_len}
use Rattle.std.specs.Vec.{vec_len, vec_capacity}
use Rattle.kt_engine.proofs.running.number_all.Given as goal

abbrev pub invariant-loop-at : goal.invariant-loop-at
invariant-loop-at l = record {
  items : l.numbers.items ≡ range_with_len 1 l.at;
  len : vec_len l.numbers ≡ l.at;
  room : vec_capacity l.numbers ≡ vec_capacity l.initial.numbers;
}
