use Rattle.std.proofs.Common.{◌≡◌, ◌≤◌, length, take}
use Rattle.std.specs.List.{AllByRecursion}
use Rattle.kt_baseset.specs.Rows.{keys_in}
use Rattle.kt_merge.specs.Major.{redos_from, AreFoldedTo, IsOldDelete}
use Rattle.kt_merge.specs.Told.{Grown}
use Rattle.kt_merge.proofs.folding.major.Given as goal

abbrev pub invariant-ordinals : goal.invariant-ordinals
invariant-ordinals l = record {
  grown : Grown l.base.schema l.out;
  front : keys_in l.out.rows.items ≡ take l.ordinal (keys_in l.base.rows);
  rows : AreFoldedTo l.ordinal l.mark l.base l.redo l.out;
  few : length l.out.undos.items ≤ redos_from 0 l.ordinal l.redo;
  deletes : AllByRecursion (IsOldDelete l.redo) l.out.redos.items;
}
