use Rattle.std.proofs.Common.{◌≡◌, ◌<◌, ◌++◌, min, length, map, []}
use Rattle.kt_script.specs.Writes.{name_in, all_named, all_named_no, op_in, later_in, names_now}
use Rattle.kt_script.proofs.named.take_names.Given as goal

-- the names and cells so far, and those that are left
abbrev pub invariant-words : goal.invariant-words
invariant-words l = record {
  names : 13 < l.no → names_now l.names.items ++ map name_in (op_in l.left) ≡ map name_in (op_in l.rest);
  cells : 13 < l.no → all_named l.others l.cells.items (op_in l.left) ≡ all_named l.others [] (op_in l.rest);
  later : later_in l.left ≡ later_in l.rest;
  least : min l.no (all_named_no l.others (names_now l.names.items) (op_in l.left)) ≡ min l.fn.no (all_named_no l.others [] (op_in l.rest));
}

abbrev pub decreases-words : goal.decreases-words
decreases-words l = length (op_in l.left)
