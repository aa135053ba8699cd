-- The numbers with which an opened tablet goes on: none that its superblock or its log has named is given again.
use Rattle.std.specs.Prelude.{◌≡◌, ℕ, ◌+◌, ◌-◌, ◌==◌, ◌^◌, ◌++◌, max, min, List, [], ◌∷◌, map, unwrap_or, if◌then◌else◌}
use Rattle.kt_history.specs.declared.target.Target.{Target}
use Rattle.kt_history.specs.declared.target.Target.TheVariants.{Mem, Delta}
use Rattle.kt_records.specs.declared.entry.CommitRow.{CommitRow}
use Rattle.kt_records.specs.declared.entry.Entry.{Entry}
use Rattle.kt_records.specs.declared.entry.Entry.TheVariants.{Replicate, Commit}
use Rattle.kt_rowfiles.specs.Files.{DiskRowset}
use Rattle.kt_content.specs.Places.{Super, Place, memory, disk, last_dms_of}
use Rattle.kt_content.specs.RunEvents.{Numbers}

-- the stores that the COMMITs of records name
abbrev pub named_of : List CommitRow → List Target
named_of [] = []
named_of (row ∷ rows) = row.targets ++ named_of rows

abbrev pub named_by : List Entry → List Target
named_by [] = []
named_by (Replicate ts ops ∷ records) = named_by records
named_by (Commit ts rows ∷ records) = named_of rows ++ named_by records

-- the greatest number of a MemRowSet among them, or 0
abbrev pub greatest_mem : List Target → ℕ
greatest_mem [] = 0
greatest_mem (Mem n ∷ targets) = max n (greatest_mem targets)
greatest_mem (Delta r n ∷ targets) = greatest_mem targets

-- the greatest number of a DeltaMemStore of this rowset
abbrev pub greatest_dms : ℕ → List Target → ℕ
greatest_dms r [] = 0
greatest_dms r (Mem n ∷ targets) = greatest_dms r targets
greatest_dms r (Delta s n ∷ targets) = if s == r then max n (greatest_dms r targets) else greatest_dms r targets

-- one above the greatest number of a rowset, or 0 where none is named; at the last value of its type it stays there
abbrev pub behind : ℕ → ℕ
behind n = min (n + 1) (2 ^ 64 - 1)

abbrev pub behind_rowsets : List Target → ℕ
behind_rowsets [] = 0
behind_rowsets (Mem n ∷ targets) = behind_rowsets targets
behind_rowsets (Delta r n ∷ targets) = max (behind r) (behind_rowsets targets)

-- the MemRowSet, of which the last durable one is told: the greatest number that is named, and one above that at least
abbrev pub mem_number : ℕ → List Entry → ℕ
mem_number last records = max (last + 1) (greatest_mem (named_by records))

-- the DeltaMemStore of a disk rowset, of which the last durable one is told
abbrev pub dms_number : ℕ → ℕ → List Entry → ℕ
dms_number r last records = max (last + 1) (greatest_dms r (named_by records))

-- of a rowset that a superblock names, or does not
abbrev pub dms_under : Super → List Entry → ℕ → ℕ
dms_under super records r = dms_number r (unwrap_or (last_dms_of r super.rowsets) 0) records

-- the next rowset, of which the superblock tells one
abbrev pub next_rowset : ℕ → List Entry → ℕ
next_rowset next records = max next (behind_rowsets (named_by records))

-- the name of each opened store
abbrev pub name_of : Super → List Entry → Place → Target
name_of super records memory = Mem (mem_number super.last_mem records)
name_of super records (disk r) = Delta r (dms_under super records r)

-- the numbers of the stores that take changes, and the next rowset number
abbrev pub numbers_of : ℕ → Super → List Entry → Numbers
numbers_of next super records = record {
  next = next_rowset next records;
  active = mem_number super.last_mem records;
  deltas = map (λ (d : DiskRowset). (d.rowset, dms_under super records d.rowset)) super.rowsets;
}

-- the greatest numbers that COMMITs name: of a MemRowSet, one above that of a rowset, and of the DeltaMemStores of each rowset
pub record IsNamed (mem next : ℕ) (dms : ℕ → ℕ) (targets : List Target) : Type 0 where
  pub mem_is : mem ≡ greatest_mem targets
  pub next_is : next ≡ behind_rowsets targets
  pub dms_is : (r : ℕ) → dms r ≡ greatest_dms r targets
