-- The numbers of opened stores are fresh.
use Rattle.std.proofs.Common.{◌≡◌, ◌≤◌, ◌-◌, ◌^◌, ℕ, List, [], ◌∷◌, ◌++◌, map, ap, arith}
use Rattle.std.specs.Prelude.{unwrap_or}
use Rattle.kt_history.specs.declared.target.Target.{Target}
use Rattle.kt_history.specs.declared.target.Target.TheVariants.{Mem, Delta}
use Rattle.kt_records.specs.declared.entry.CommitRow.{CommitRow}
use Rattle.kt_records.specs.declared.entry.Entry.{Entry}
use Rattle.kt_records.specs.declared.entry.Entry.TheVariants.{Replicate, Commit}
use Rattle.kt_rowfiles.specs.Files.{DiskRowset}
use Rattle.kt_content.specs.Places.{Super, last_dms_of}
use Rattle.kt_content.specs.InMemory.{rowset}
use Rattle.kt_content.specs.RunEvents.{Numbers, TargetsBelow, RowsBelow, RecordsBelow, StoresBelow, RowsetsBelow, DeltasAbove}
use Rattle.kt_reopen.specs.Numbers.{named_of, named_by, greatest_mem, behind_rowsets, dms_under, numbers_of}
use Rattle.kt_reopen.specs.Laws.{EachBelow, AllBelowNext, opened_numbers_are_fresh}

-- the numbers that lie at or above those of these targets
abbrev Covers : Numbers → List Target → Type 0
Covers numbers targets = (greatest_mem targets ≤ numbers.active) × (behind_rowsets targets ≤ numbers.next)

below_front : (most : ℕ) (xs ys : List Target) → EachBelow most (xs ++ ys) → EachBelow most xs × EachBelow most ys
below_front most [] ys h = (tt, h)
below_front most (Mem n ∷ xs) ys h = below_front most xs ys h
below_front most (Delta r n ∷ xs) ys h = let more = below_front most xs ys h.1 in ((h.0, more.0), more.1)

covers_front : (numbers : Numbers) (xs ys : List Target) → Covers numbers (xs ++ ys) → Covers numbers xs × Covers numbers ys
covers_front numbers [] ys h = ((omega arith, omega arith), h)
covers_front numbers (Mem n ∷ xs) ys h =
    let more = covers_front numbers xs ys (let a = h.0 in omega arith, h.1) in
    ((let a = h.0 in let b = more.0.0 in omega arith, more.0.1), more.1)
covers_front numbers (Delta r n ∷ xs) ys h =
    let more = covers_front numbers xs ys (h.0, let a = h.1 in omega arith) in
    ((more.0.0, let a = h.1 in let b = more.0.1 in omega arith), more.1)

targets_below : (numbers : Numbers) (targets : List Target) → Covers numbers targets → EachBelow (2 ^ 64 - 1) targets → TargetsBelow numbers targets
targets_below numbers [] h b = tt
targets_below numbers (Mem n ∷ targets) h b = (let a = h.0 in omega arith, targets_below numbers targets (let a = h.0 in omega arith, h.1) b)
targets_below numbers (Delta r n ∷ targets) h b = (let a = h.1 in let low = b.0 in omega arith, targets_below numbers targets (h.0, let a = h.1 in omega arith) b.1)

rows_below : (numbers : Numbers) (rows : List CommitRow) → Covers numbers (named_of rows) → EachBelow (2 ^ 64 - 1) (named_of rows) → RowsBelow numbers rows
rows_below numbers [] h b = tt
rows_below numbers (row ∷ rows) h b =
    let hs = covers_front numbers row.targets (named_of rows) h in
    let bs = below_front (2 ^ 64 - 1) row.targets (named_of rows) b in
    (targets_below numbers row.targets hs.0 bs.0, rows_below numbers rows hs.1 bs.1)

records_below : (numbers : Numbers) (records : List Entry) → Covers numbers (named_by records) → EachBelow (2 ^ 64 - 1) (named_by records) → RecordsBelow numbers records
records_below numbers [] h b = tt
records_below numbers (Replicate ts ops ∷ records) h b = records_below numbers records h b
records_below numbers (Commit ts rows ∷ records) h b =
    let hs = covers_front numbers (named_of rows) (named_by records) h in
    let bs = below_front (2 ^ 64 - 1) (named_of rows) (named_by records) b in
    (rows_below numbers rows hs.0 bs.0, records_below numbers records hs.1 bs.1)

module _ (super : Super) (records : List Entry) (next : ℕ) where
  rowsets_below : (rowsets : List DiskRowset) → AllBelowNext next rowsets → RowsetsBelow (numbers_of next super records) rowsets
  rowsets_below [] h = tt
  rowsets_below (d ∷ rowsets) h = (let low = h.0 in omega arith, rowsets_below rowsets h.1)

  names_below : (rowsets : List DiskRowset) → AllBelowNext next rowsets → StoresBelow (numbers_of next super records) (map (λ (d : DiskRowset). rowset d.rowset) rowsets)
  names_below [] h = tt
  names_below (d ∷ rowsets) h = (let low = h.0 in omega arith, names_below rowsets h.1)

-- a DeltaMemStore lies above the last durable one of its rowset
deltas_above : (super : Super) (records : List Entry) (rowsets : List DiskRowset) → DeltasAbove super.rowsets (map (λ (d : DiskRowset). (d.rowset, dms_under super records d.rowset)) rowsets)
deltas_above super records [] = tt
deltas_above super records (d ∷ rowsets) = (
  (λ last e. let is : unwrap_or (last_dms_of d.rowset super.rowsets) 0 ≡ last = ap (λ o. unwrap_or o 0) e in omega arith),
  deltas_above super records rowsets,
)

pub numbers_fresh : opened_numbers_are_fresh
numbers_fresh super records next low below =
    let numbers = numbers_of next super records in
    record {
      rowsets = rowsets_below super records next super.rowsets below;
      records_below = records_below numbers records (omega arith, omega arith) low;
      stores = (omega arith, names_below super records next super.rowsets below);
      mem = omega arith;
      deltas = deltas_above super records super.rowsets;
    }
