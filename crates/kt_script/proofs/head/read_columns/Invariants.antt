use Rattle.std.proofs.Common.{◌≡◌, ◌≤◌, ◌+◌, [], length}
use Rattle.kt_script.specs.Pieces.{cut}
use Rattle.kt_script.specs.Columns.{IsTable}
use Rattle.kt_script.specs.Scripts.{head, fault_from, above_end}
use Rattle.kt_script.proofs.head.read_columns.Given as goal

-- what the columns so far leave to be read
abbrev pub invariant-lines : goal.invariant-lines
invariant-lines l = record {
  fault : fault_from (head []) 2 (cut 10 l.text) ≡ fault_from (head l.columns.items) (length l.columns.items + 2) (cut 10 l.rest);
  table : IsTable l.columns.items;
  end : above_end (head []) (cut 10 l.text) ≡ above_end (head l.columns.items) (cut 10 l.rest);
  size : length l.rest ≤ length l.text;
}

abbrev pub decreases-lines : goal.decreases-lines
decreases-lines l = length l.rest
