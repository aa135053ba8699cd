use Rattle.std.proofs.Common.{◌≡◌, ◌≤◌, ◌*◌, length, drop}
use Rattle.std.specs.List.{flat_map}
use Rattle.kt_dict.specs.Spelling.{entries_after, dictionary}
use Rattle.kt_dict.specs.Writing.{text}
use Rattle.kt_column.proofs.least.are_within.Given as goal

abbrev pub invariant-items : goal.invariant-items
invariant-items l = record {
  so_far : entries_after l.entries (drop l.i l.items) ≡ dictionary l.items;
  few : length l.entries ≤ 4096;
  small : length (flat_map text l.entries) ≤ 65540 * l.i;
}
