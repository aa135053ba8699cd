-- What an engine has in memory, in the words of what can be recovered: its flying writes, with what their COMMITs are going to say, and its stores by name.
use Rattle.std.specs.Prelude.{◌≡◌, ◌<◌, ◌^◌, ℕ, false, List, [], ◌∷◌, ◌++◌, map, take, Some}
use Rattle.std.specs.List.{All}
use Rattle.kt_history.specs.declared.target.Target.{Target}
use Rattle.kt_history.specs.declared.target.Target.TheVariants.{Mem, Delta}
use Rattle.kt_history.specs.Stores.{Hist}
use Rattle.kt_records.specs.declared.entry.CommitRow.{CommitRow}
use Rattle.kt_histlaws.specs.Histories.{hists}
use Rattle.kt_histlaws.specs.Pending.{Aloft}
use Rattle.kt_histlaws.specs.Core.{Core}
use Rattle.kt_content.specs.Places.{Super, last_dms_of}
use Rattle.kt_content.specs.InMemory.{Name, mem_rows, rowset, same_name, Stores}
use Rattle.kt_content.specs.RunEvents.{Named, Numbers}
use Rattle.kt_content.specs.Recoverable.{Resident}

-- the store that a COMMIT names: of a rowset it tells besides which DeltaMemStore took the change
abbrev pub name_of : Target → Name
name_of (Mem n) = mem_rows n
name_of (Delta r n) = rowset r

-- what the stores of these names have of a key
abbrev pub by_name : List Target → List Hist → Stores
by_name [] hs = []
by_name (t ∷ names) [] = []
by_name (t ∷ names) (h ∷ hs) = (name_of t, h) ∷ by_name names hs

-- a flying write: its operations that are applied, and what its COMMIT is going to say of them
abbrev pub named_write : Aloft → List CommitRow → Named
named_write w rows = record { ts = w.ts; ops = take w.applied w.ops; rows = rows }

-- the flying writes, the last one first
abbrev pub named_writes : List Aloft → List (List CommitRow) → List Named
named_writes [] notes = []
named_writes (w ∷ aloft) [] = []
named_writes (w ∷ aloft) (rows ∷ notes) = named_writes aloft notes ++ named_write w rows ∷ []

abbrev pub resident : Core → List Target → List (List CommitRow) → Numbers → Resident
resident core names notes numbers = record {
  last = core.c;
  named = named_writes core.aloft notes;
  stores = λ q. by_name names (hists q core.stores);
  names = map name_of names;
  numbers = numbers;
}

-- A store that takes changes stands for a place of an opening with this superblock, whose files do not have what its name tells. The name can be spelled.
abbrev pub IsNamed : Super → Target → Type 0
IsNamed super (Mem n) = (super.last_mem < n) × (n < 2 ^ 64)
IsNamed super (Delta r n) = ((last : ℕ) × (last_dms_of r super.rowsets ≡ Some last) × (last < n)) × (r < 2 ^ 64) × (n < 2 ^ 64)

-- the first store is a MemRowSet
abbrev pub FirstIsMem : List Target → Type 0
FirstIsMem [] = Unit {0}
FirstIsMem (Mem n ∷ names) = Unit {0}
FirstIsMem (Delta r n ∷ names) = ⊥

-- no store is there twice
abbrev pub LacksName : Name → List Target → Type 0
LacksName n [] = Unit {0}
LacksName n (t ∷ names) = (same_name (name_of t) n ≡ false) × LacksName n names

abbrev pub NamesDiffer : List Target → Type 0
NamesDiffer [] = Unit {0}
NamesDiffer (t ∷ names) = LacksName (name_of t) names × NamesDiffer names

-- the names of a tablet's stores, under a superblock
pub record AreNamed (super : Super) (names : List Target) : Type 0 where
  pub each : All (IsNamed super) names
  pub first : FirstIsMem names
  pub differ : NamesDiffer names
