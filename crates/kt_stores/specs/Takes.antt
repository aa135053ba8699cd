-- What a job takes of the stores of a tablet, by their names, and what it leaves.
use Rattle.std.specs.Prelude.{◌==◌, ℕ, nat_le, not, Bool, false, List, [], ◌∷◌, ◌++◌, if◌then◌else◌}
use Rattle.std.specs.List.{filter, list_any}
use Rattle.kt_history.specs.declared.target.Target.{Target}
use Rattle.kt_history.specs.declared.target.Target.TheVariants.{Mem, Delta}
use Rattle.kt_diskrowset.specs.Rowset.{HeldFiles}
use Rattle.kt_stores.specs.Shelf.{Shelved}

-- the MemRowSets of numbers up to one, or the disk rowsets of some numbers
pub data Takes : Type 0 where
  mems : ℕ → Takes
  rowsets : List ℕ → Takes

-- the name is of a store that is taken, whichever DeltaMemStore it tells
abbrev pub takes : Takes → Target → Bool
takes (mems last) (Mem n) = nat_le n last
takes (mems last) (Delta r dms) = false
takes (rowsets numbers) (Mem n) = false
takes (rowsets numbers) (Delta r dms) = list_any (λ (s : ℕ). s == r) numbers

-- Of what stands in the order of names: what is of the stores that are taken, and what is of the others
abbrev pub of_taken : {A : Type 0} → Takes → List Target → List A → List A
of_taken t [] xs = []
of_taken t (name ∷ names) [] = []
of_taken t (name ∷ names) (x ∷ xs) = if takes t name then x ∷ of_taken t names xs else of_taken t names xs

abbrev pub of_left : {A : Type 0} → Takes → List Target → List A → List A
of_left t [] xs = []
of_left t (name ∷ names) [] = []
of_left t (name ∷ names) (x ∷ xs) = if takes t name then of_left t names xs else x ∷ of_left t names xs

-- the first stays, then come the others that are left, and behind them what is new
abbrev pub over_to : {A : Type 0} → Takes → List A → List Target → List A → List A
over_to t come [] xs = []
over_to t come (name ∷ names) [] = []
over_to t come (name ∷ names) (x ∷ xs) = x ∷ of_left t names xs ++ come

-- the same of stores with their names
abbrev pub left_on : Takes → List Shelved → List Shelved
left_on t shelf = filter (λ (s : Shelved). not (takes t s.name)) shelf

abbrev pub shelf_over : Takes → List Shelved → List Shelved → List Shelved
shelf_over t come [] = []
shelf_over t come (s ∷ shelf) = s ∷ left_on t shelf ++ come

-- and of the files of disk rowsets, by their numbers
abbrev pub files_left : Takes → List HeldFiles → List HeldFiles
files_left (mems last) files = files
files_left (rowsets numbers) files = filter (λ (h : HeldFiles). not (list_any (λ (s : ℕ). s == h.number) numbers)) files

-- the files of the disk rowsets of some numbers
abbrev pub files_taken : List ℕ → List HeldFiles → List HeldFiles
files_taken numbers files = filter (λ (h : HeldFiles). list_any (λ (s : ℕ). s == h.number) numbers) files
