use Rattle.std.proofs.Common.{◌≡◌, ◌≤◌, take, map, length}
use Rattle.std.specs.Vec.{vec_len, vec_capacity}
use Rattle.kt_outputs.specs.Outputs.{meta_in}
use Rattle.kt_engine.proofs.outputs.metas_of.Given as goal

abbrev pub invariant-rowsets : goal.invariant-rowsets
invariant-rowsets l = record {
  long : vec_len l.metas ≡ l.rowset-index;
  room : length l.rowsets ≤ vec_capacity l.metas;
  made : l.metas.items ≡ map (meta_in 0) (take l.rowset-index l.rowsets);
}
