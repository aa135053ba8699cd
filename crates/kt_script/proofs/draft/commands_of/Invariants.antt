use Rattle.std.proofs.Common.{◌≡◌, ◌++◌, map, length}
use Rattle.std.specs.List.{All}
use Rattle.std.specs.Vec.Iter.{into_iter_items}
use Rattle.kt_script.specs.Drafts.{command_in, IsInside}
use Rattle.kt_script.proofs.draft.commands_of.Given as goal

-- the commands so far, and those of the entries that are left
abbrev pub invariant-entries : goal.invariant-entries
invariant-entries l = record {
  done : l.commands.items ++ map (command_in l.ops) (into_iter_items l.left) ≡ map (command_in l.ops) l.fn.entries.items;
  inside : All (IsInside l.ops) (into_iter_items l.left);
}

abbrev pub decreases-entries : goal.decreases-entries
decreases-entries l = length (into_iter_items l.left)
