use Rattle.std.proofs.Common.{◌≡◌, ◌≤◌, ◌++◌, ◌+◌, List, [], length}
use Rattle.std.specs.List.{AllByRecursion}
use Rattle.std.specs.Vec.{vec_capacity}
use Rattle.std.specs.Vec.Iter.{into_iter_items}
use Rattle.kt_diskrowset.specs.declared.data.RowSetData.{RowSetData}
use Rattle.kt_merge.specs.Late.{AllTellChanges}
use Rattle.kt_outputs.specs.Again.{AllAddLate}
use Rattle.kt_outputs.specs.Outputs.{AreWhole}
use Rattle.kt_maint.proofs.since.changed_outputs.Given as goal

abbrev pub invariant-rest : goal.invariant-rest
invariant-rest l = record {
  fresh : AllByRecursion (λ d. d.fresh ≡ []) (into_iter_items l.rest);
  room : length l.late.items + length (into_iter_items l.rest) ≤ vec_capacity l.late;
  front : List RowSetData;
  are : l.fn.outputs.rowsets ≡ front ++ into_iter_items l.rest;
  tells : AllTellChanges l.bound l.lists front l.late.items;
  adds : AllAddLate front l.late.items;
  whole : AreWhole l.late.items;
}

abbrev pub decreases-rest : goal.decreases-rest
decreases-rest l = length (into_iter_items l.rest)
