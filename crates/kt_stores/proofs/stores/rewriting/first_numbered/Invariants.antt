use Rattle.kt_diskrowset.specs.Rowset.{name_of}
use Rattle.kt_stores.specs.Shelf.{is_rowset}
use Rattle.kt_stores.proofs.Seeking.{FailBelow}
use Rattle.kt_stores.proofs.stores.rewriting.first_numbered.Given as goal

abbrev pub invariant-loop-at : goal.invariant-loop-at
invariant-loop-at l = FailBelow (λ r. is_rowset l.number (name_of r)) l.at l.rowsets
