-- What a store holds, with each insert filled: its own cells over each other column's default, or null.
use Rattle.std.specs.Prelude.{ℕ, zero, suc, ◌-◌, List, [], ◌∷◌, map}
use Rattle.kt_history.specs.declared.change.Change.{Change}
use Rattle.kt_history.specs.declared.change.Change.TheVariants.{Ins, Upd, Del}
use Rattle.kt_history.specs.Rows.{Row, with_cells}
use Rattle.kt_history.specs.Stores.{Store, Hist}
use Rattle.kt_stores.specs.Shelf.{StoresView, stores_of}

abbrev pub filled_change : Row → Change → Change
filled_change fill (Ins cells) = Ins (with_cells cells fill)
filled_change fill (Upd cells) = Upd cells
filled_change fill Del = Del

-- one row's changes
abbrev pub filled_hist : Row → Hist → Hist
filled_hist fill h = record h { steps = map (λ (c : ℕ × Change). (c.0, filled_change fill c.1)) h.steps }

-- every row's
abbrev pub filled : Row → Store → Store
filled fill store = map (λ (r : List ℕ × Hist). (r.0, filled_hist fill r.1)) store

-- a store as its rows are told: one in memory with its inserts filled, and a disk rowset, whose rows are whole, as it is. So many stores from this one on lie in
-- memory
abbrev pub as_told : ℕ → Row → Store → Store
as_told zero fill store = store
as_told (suc memory) fill store = filled fill store

-- stores of which the first so many lie in memory
abbrev pub all_told : Row → ℕ → List Store → List Store
all_told fill memory [] = []
all_told fill memory (s ∷ stores) = as_told memory fill s ∷ all_told fill (memory - 1) stores

-- those of a tablet: the one that takes inserts and the frozen ones lie in memory
abbrev pub told_stores : Row → StoresView → List Store
told_stores fill view = all_told fill (suc view.frozen) (stores_of view)
