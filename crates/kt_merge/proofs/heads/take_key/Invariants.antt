use Rattle.std.proofs.Common.{◌≡◌, ◌++◌, take}
use Rattle.kt_rowfiles.specs.Reading.{steps_in}
use Rattle.kt_merge.specs.Heads.{row_next, steps_next}
use Rattle.kt_merge.proofs.heads.take_key.Given as goal

abbrev pub invariant-heads : goal.invariant-heads
invariant-heads l = record {
  row : l.row ≡ row_next l.span l.key (take l.head-index l.heads);
  steps : steps_in l.steps.items ≡ steps_in l.initial.steps.items ++ steps_next l.span l.key (take l.head-index l.heads);
}
