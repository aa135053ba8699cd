use Rattle.std.proofs.Common.{◌≡◌, ◌≤◌, take, length}
use Rattle.std.specs.Vec.{vec_len, vec_capacity}
use Rattle.kt_files.specs.Held.{numbers_named}
use Rattle.kt_engine.proofs.round.numbers_of.Given as goal

abbrev pub invariant-rowsets : goal.invariant-rowsets
invariant-rowsets l = record {
  long : vec_len l.numbers ≡ l.rowset-index;
  room : length l.rowsets ≤ vec_capacity l.numbers;
  made : l.numbers.items ≡ numbers_named (take l.rowset-index l.rowsets);
}
