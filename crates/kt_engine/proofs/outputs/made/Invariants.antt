use Rattle.std.proofs.Common.{◌≡◌, ◌≤◌, ◌++◌, ◌+◌, List, [], length}
use Rattle.std.specs.List.{AllByRecursion}
use Rattle.std.specs.Vec.{vec_capacity}
use Rattle.std.specs.Vec.Iter.{into_iter_items}
use Rattle.kt_diskrowset.specs.declared.data.RowSetData.{RowSetData}
use Rattle.kt_diskrowset.specs.Data.{files_in}
use Rattle.kt_diskrowset.specs.Rows.{UndosLeadBack}
use Rattle.kt_engine.specs.Outputs.{AreMade}
use Rattle.kt_engine.proofs.outputs.made.Given as goal

abbrev pub invariant-rest : goal.invariant-rest
invariant-rest l = record {
  lead : AllByRecursion (λ d. UndosLeadBack (files_in d)) (into_iter_items l.rest);
  fresh : AllByRecursion (λ d. d.fresh ≡ []) (into_iter_items l.rest);
  room : length l.made.items + length (into_iter_items l.rest) ≤ vec_capacity l.made;
  made : (front : List RowSetData) × (l.fn.rowsets.items ≡ front ++ into_iter_items l.rest) × AreMade front l.made.items;
}

abbrev pub decreases-rest : goal.decreases-rest
decreases-rest l = length (into_iter_items l.rest)
