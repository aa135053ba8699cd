use Rattle.std.proofs.Common.{drop, Some}
use Rattle.kt_rowfiles.specs.Flushing.{AllUndone}
use Rattle.kt_rowfiles.specs.Reading.{steps_in}
use Rattle.kt_merge.proofs.undoing.are_undone.Given as goal

abbrev pub invariant-records : goal.invariant-records
invariant-records l = AllUndone (steps_in (drop l.record-index l.records)) l.row → AllUndone (steps_in l.records) (Some l.fn.base)
