-- The stores of an opened tablet, and which of them a COMMIT's names still need.
use Rattle.std.specs.Prelude.{ℕ, zero, suc, ◌==◌, nat_lt, Bool, true, false, List, [], ◌∷◌, map, Option, Some, None, if◌then◌else◌}
use Rattle.std.specs.List.{list_any}
use Rattle.kt_history.specs.declared.change.Change.{Change}
use Rattle.kt_history.specs.declared.target.Target.{Target}
use Rattle.kt_history.specs.declared.target.Target.TheVariants.{Mem, Delta}
use Rattle.kt_history.specs.Rows.{Row}
use Rattle.kt_histlaws.specs.Histories.{AtMostOne}
use Rattle.kt_history.specs.Stores.{Hist, row_of, push, never, Steps, Under}
use Rattle.kt_rowfiles.specs.Files.{DiskRowset, hist_in_files, redos_with, row_under}

-- what a superblock says: its mark, its last timestamp, how many records of the log it needs, the last MemRowSet that its files
-- hold, and its disk rowsets
pub record Super : Type 0 where
  pub a : ℕ
  pub c : ℕ
  pub need : ℕ
  pub last_mem : ℕ
  pub rowsets : List DiskRowset

-- that of a fresh tablet
abbrev pub fresh : Super
fresh = record { a = 0; c = 0; need = 0; last_mem = 0; rowsets = [] }

-- a store of an opened tablet: its one MemRowSet, or a disk rowset by its number
pub data Place : Type 0 where
  memory : Place
  disk : ℕ → Place

abbrev pub same_place : Place → Place → Bool
same_place memory memory = true
same_place memory (disk r) = false
same_place (disk r) memory = false
same_place (disk r) (disk s) = r == s

-- what the stores have of one key
abbrev pub Held : Type 0
Held = List (Place × Hist)

abbrev pub held_in : Held → List Hist
held_in held = map (λ h. h.1) held

-- what the files of a superblock have of a key, and a MemRowSet that has nothing
abbrev pub in_files : List ℕ → List DiskRowset → Held
in_files q rowsets = map (λ d. (disk d.rowset, hist_in_files q d)) rowsets

abbrev pub at_first : List ℕ → Super → Held
at_first q super = (memory, never) ∷ in_files q super.rowsets

-- the last DeltaMemStore that is durable of a rowset, where the superblock names it
abbrev pub last_dms_of : ℕ → List DiskRowset → Option ℕ
last_dms_of r [] = None
last_dms_of r (d ∷ rowsets) = if d.rowset == r then Some d.last_dms else last_dms_of r rowsets

abbrev pub newer : Place → ℕ → Option ℕ → Option Place
newer p n None = None
newer p n (Some last) = if nat_lt last n then Some p else None

-- where a named store makes a change needed, if it does: the files do not have it
abbrev pub needs : Super → Target → Option Place
needs super (Mem n) = newer memory n (Some super.last_mem)
needs super (Delta r n) = newer (disk r) n (last_dms_of r super.rowsets)

abbrev pub and_place : Option Place → List Place → List Place
and_place None places = places
and_place (Some p) places = if list_any (same_place p) places then places else p ∷ places

-- the stores that still need a change, each once
abbrev pub needed_in : Super → List Target → List Place
needed_in super [] = []
needed_in super (t ∷ targets) = and_place (needs super t) (needed_in super targets)

-- the row just before a timestamp
abbrev pub row_before : ℕ → Hist → Option Row
row_before zero h = h.first
row_before (suc t) h = row_of t h

-- the rows of the stores just before it
abbrev pub Standing : Type 0
Standing = List (Place × Option Row)

abbrev pub standing : ℕ → Held → Standing
standing ts held = map (λ h. (h.0, row_before ts h.1)) held

-- the row of one store
abbrev pub row_there : Place → Standing → Option Row
row_there p [] = None
row_there p (r ∷ rows) = if same_place p r.0 then r.1 else row_there p rows

-- the store that has it live, and its row
abbrev pub or_live : Place → Option Row → Option (Place × Row) → Option (Place × Row)
or_live p None other = other
or_live p (Some row) other = Some (p, row)

abbrev pub live_in : Standing → Option (Place × Row)
live_in [] = None
live_in (r ∷ rows) = or_live r.0 r.1 (live_in rows)

-- one store at most has it live
abbrev pub rows_in : Standing → List (Option Row)
rows_in rows = map (λ r. r.1) rows

abbrev pub OneLive : Standing → Type 0
OneLive rows = AtMostOne (rows_in rows)

-- changes that join stores at a timestamp
abbrev pub Moves : Type 0
Moves = List (Place × Change)

-- the stores of moves
abbrev pub places_of : Moves → List Place
places_of [] = []
places_of (m ∷ moves) = m.0 ∷ places_of moves

abbrev pub joined_in : Place → ℕ → Change → Held → Held
joined_in p ts c [] = []
joined_in p ts c (h ∷ held) = if same_place p h.0 then (h.0, push ts c h.1) ∷ held else h ∷ joined_in p ts c held

abbrev pub moved : ℕ → Moves → Held → Held
moved ts [] held = held
moved ts (m ∷ moves) held = moved ts moves (joined_in m.0 ts m.1 held)

-- the REDO records of a key in the files of a rowset
abbrev pub redos_in : List ℕ → ℕ → List DiskRowset → Steps
redos_in q r [] = []
redos_in q r (d ∷ rowsets) = if d.rowset == r then redos_with d (row_under q 0 d.base) else redos_in q r rowsets

-- a timestamp lies above those of the key in each of these stores
abbrev pub AboveRedos : List ℕ → Super → ℕ → List Place → Type 0
AboveRedos q super ts [] = Unit {0}
AboveRedos q super ts (memory ∷ places) = AboveRedos q super ts places
AboveRedos q super ts (disk r ∷ places) = Under ts (redos_in q r super.rowsets) × AboveRedos q super ts places
