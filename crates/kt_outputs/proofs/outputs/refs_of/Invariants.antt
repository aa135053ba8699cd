use Rattle.std.proofs.Common.{◌≡◌, ◌≤◌, take, map, length}
use Rattle.std.specs.Vec.{vec_len, vec_capacity}
use Rattle.kt_outputs.specs.Outputs.{delta_ref}
use Rattle.kt_outputs.proofs.outputs.refs_of.Given as goal

abbrev pub invariant-files : goal.invariant-files
invariant-files l = record {
  long : vec_len l.refs ≡ l.held-index;
  room : length l.files ≤ vec_capacity l.refs;
  refs : l.refs.items ≡ map delta_ref (take l.held-index l.files);
}
