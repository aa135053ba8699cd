-- The numbers that a record names.
use Rattle.std.specs.Prelude.{ℕ, List, [], ◌∷◌}
use Rattle.std.specs.List.{flat_map}
use Rattle.kt_history.specs.declared.target.Target.{Target}
use Rattle.kt_history.specs.declared.target.Target.TheVariants.{Mem, Delta}
use Rattle.kt_records.specs.declared.entry.CommitRow.{CommitRow}
use Rattle.kt_records.specs.declared.entry.Entry.{Entry}
use Rattle.kt_records.specs.declared.entry.Entry.TheVariants.{Replicate, Commit}

-- those of stores: of a MemRowSet its number, of a DeltaMemStore its rowset's and its own
abbrev pub numbers_in : List Target → List ℕ
numbers_in [] = []
numbers_in (Mem number ∷ targets) = number ∷ numbers_in targets
numbers_in (Delta rowset dms ∷ targets) = rowset ∷ dms ∷ numbers_in targets

-- those of a record: of a COMMIT those of the stores that its rows name, of a REPLICATE none
abbrev pub numbers_of : Entry → List ℕ
numbers_of (Replicate ts ops) = []
numbers_of (Commit ts rows) = flat_map (λ (row : CommitRow). numbers_in row.targets) rows

-- and those of records
abbrev pub all_numbers : List Entry → List ℕ
all_numbers records = flat_map numbers_of records
