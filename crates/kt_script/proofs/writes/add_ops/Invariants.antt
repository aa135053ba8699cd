use Rattle.std.proofs.Common.{◌≡◌, ◌<◌, ◌≤◌, ◌++◌, min, length, map}
use Rattle.kt_script.specs.Writes.{op_of, ops_of, ops_no, many_no, words_cut, ops_cut}
use Rattle.kt_script.proofs.writes.add_ops.Given as goal

-- the operations so far, and those that are left
abbrev pub invariant-ops : goal.invariant-ops
invariant-ops l = record {
  ops : 18 < l.no → l.op.ops ++ map (op_of l.schema) (ops_cut l.left) ≡ map (op_of l.schema) (ops_of (words_cut l.first));
  few : length l.op.ops ≤ 64;
  least : min l.no (min (ops_no l.schema (ops_cut l.left)) (many_no (length l.op.ops) (ops_cut l.left))) ≡ min l.fn.no (min (ops_no l.schema (ops_of (words_cut l.first))) (many_no 0 (ops_of (words_cut l.first))));
}

abbrev pub decreases-ops : goal.decreases-ops
decreases-ops l = length (ops_cut l.left)
