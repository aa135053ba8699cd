use Rattle.std.proofs.Common.{◌≡◌, drop, reverse}
use Rattle.std.specs.List.{All}
use Rattle.kt_rowfiles.specs.Reading.{steps_in}
use Rattle.kt_rowfiles.specs.Flushing.{after_all, undone}
use Rattle.kt_history.specs.declared.changes.Delta.{Delta}
use Rattle.kt_merge.proofs.row.go_over_all.Given as goal

abbrev pub invariant-steps : goal.invariant-steps
invariant-steps l = record {
  row : after_all (steps_in (drop l.step-index l.steps)) l.row ≡ after_all (steps_in l.steps) l.initial.row;
  undos : undone l.mark (steps_in (drop l.step-index l.steps)) l.row (reverse (steps_in l.undos.items)) ≡ undone l.mark (steps_in l.steps) l.initial.row (reverse (steps_in l.initial.undos.items));
  ordinals : All (λ (d : Delta). d.ordinal ≡ l.ordinal) l.initial.undos.items → All (λ (d : Delta). d.ordinal ≡ l.ordinal) l.undos.items;
}
