use Rattle.std.proofs.Common.{◌≡◌, ◌≤◌, take, map, length}
use Rattle.std.specs.Vec.{vec_len, vec_capacity}
use Rattle.kt_engine.specs.Rounds.{want_on}
use Rattle.kt_engine.proofs.round.each_want.Given as goal

abbrev pub invariant-rowsets : goal.invariant-rowsets
invariant-rowsets l = record {
  long : vec_len l.wants ≡ l.rowset-index;
  room : length l.rowsets ≤ vec_capacity l.wants;
  made : l.wants.items ≡ map (want_on l.chore) (take l.rowset-index l.rowsets);
}
