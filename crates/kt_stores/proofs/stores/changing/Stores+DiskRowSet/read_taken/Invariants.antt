use Rattle.std.proofs.Common.{◌≡◌, ℕ, map, take, true}
use Rattle.std.specs.List.{AllByRecursion, filter, list_any}
use Rattle.std.specs.List.Sorted.{IsNonDecreasingBy}
use Rattle.std.specs.Prelude.{◌==◌}
use Rattle.kt_diskrowset.specs.declared.data.RowSetData.{RowSetData}
use Rattle.kt_diskrowset.specs.declared.rowset.DiskRowSet.{DiskRowSet}
use Rattle.kt_diskrowset.specs.Data.{files_in, held_in, store_in}
use Rattle.kt_diskrowset.specs.Rows.{UndosLeadBack}
use Rattle.kt_diskrowset.specs.Rowset.{held_of, name_of}
use Rattle.kt_stores.specs.Takes.{rowsets, takes}
use Rattle.kt_stores.proofs.ReadsTaken.{taken_of}
use Rattle.kt_stores.proofs.stores.changing.Stores+DiskRowSet.read_taken.Given as goal

abbrev pub invariant-rowsets : goal.invariant-rowsets
invariant-rowsets l = record {
  stores : map store_in l.list.items ≡ taken_of l.numbers l.self.pool (take l.rowset-index l.rowset-items);
  files : map held_in l.list.items ≡ map held_of (filter (λ (r : DiskRowSet). takes (rowsets l.numbers) (name_of r)) (take l.rowset-index l.rowset-items));
  numbers : AllByRecursion (λ (d : RowSetData). list_any (λ (s : ℕ). s == d.number) l.numbers ≡ true) l.list.items;
  lead : AllByRecursion (λ (d : RowSetData). UndosLeadBack (files_in d)) l.list.items;
  order : AllByRecursion (λ (d : RowSetData). IsNonDecreasingBy (λ c. c.ordinal) d.fresh) l.list.items;
}
