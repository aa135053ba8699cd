use Rattle.std.proofs.Common.{◌≡◌, ℕ, ◌+◌, length}
use Rattle.std.specs.List.{flat_map, AllByRecursion}
use Rattle.kt_script.specs.Texts.{line}
use Rattle.kt_script.specs.Outputs.{IsRowLine}
use Rattle.kt_script.specs.Stages.{sessions}
use Rattle.kt_script.specs.Reread.{Moves}
use Rattle.kt_script.proofs.reread.read_rows.Given as goal

abbrev pub invariant-loop-left : goal.invariant-loop-left
invariant-loop-left l = record {
  moves : (n : ℕ) → Moves l.text (sessions n l.due) l.start (sessions n l.left) l.at (flat_map line l.lines.items);
  count : length l.lines.items + l.left ≡ l.due;
  rows : AllByRecursion IsRowLine l.lines.items;
}

abbrev pub decreases-loop-left : goal.decreases-loop-left
decreases-loop-left l = l.left
