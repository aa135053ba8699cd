-- What stores in memory have of a key, as a job reads it: joined to one history, which is of the table and passes its rules.
use Rattle.std.specs.Prelude.{◌≡◌, ◌≤◌, ◌<◌, ◌^◌, ◌⊎◌, ℕ, suc, Bool, true, List, [], ◌∷◌, ◌++◌, map, length, Option, Some, None}
use Rattle.std.specs.List.{AllByRecursion, filter}
use Rattle.kt_history.specs.declared.change.Change.{Change}
use Rattle.kt_history.specs.declared.change.Change.TheVariants.{Ins, Upd, Del}
use Rattle.kt_history.specs.declared.changes.KeyChange.{KeyChange}
use Rattle.kt_history.specs.Rows.{Row}
use Rattle.kt_history.specs.Stores.{Hist, row_of, step_of}
use Rattle.kt_histlaws.specs.Fitting.{AreSound}
use Rattle.kt_histlaws.specs.Core.{Core, Stands}
use Rattle.kt_histlaws.specs.Flights.{AllUnder}
use Rattle.kt_histlaws.specs.Histories.{AtMostOne, ShowsKey, hists}
use Rattle.kt_rowfiles.specs.declared.taking.Span.{Span}
use Rattle.kt_rowfiles.specs.Flushing.{InOrderAt}
use Rattle.kt_rowfiles.specs.Merging.{joined_history}
use Rattle.kt_baseset.specs.declared.schema.ColumnShape.{ColumnShape}
use Rattle.kt_baseset.specs.Rows.{AreShapes, RowFits}
use Rattle.kt_diskrowset.specs.declared.inputs.Inputs.{Inputs}
use Rattle.kt_content.specs.InMemory.{Name, Stores}
use Rattle.kt_merge.specs.Changes.{rises}
use Rattle.kt_merge.specs.Fitting.{StandsUnder}
use Rattle.kt_merge.specs.Merge.{hists_upto, AreFaultless}

-- Of several stores one at most has the row at each time from a mark on, and one at most a change at each time above it. Their changes rise, and fit
pub record AreApart (j : ℕ) (hs : List Hist) : Type 0 where
  pub one_row : (t : ℕ) → j ≤ t → AtMostOne (map (row_of t) hs)
  pub one_step : (t : ℕ) → j < t → AtMostOne (map (step_of t) hs)
  pub sound : AreSound j hs

-- so are the stores of an engine that stands, from its mark on, and they have no change above its last timestamp
abbrev pub stores_that_stand_are_apart : Type 0
stores_that_stand_are_apart = (core : Core) (q : List ℕ) → Stands core → AreApart core.a (hists q core.stores) × AllUnder (suc core.c) (hists q core.stores)

-- and some of those that are apart
abbrev pub some_are_apart : Type 0
some_are_apart = (j : ℕ) (xs ys : List Hist) → AreApart j (xs ++ ys) → AreApart j xs

-- of stores by name too, those of some names
abbrev pub those_are_apart : Type 0
those_are_apart = (j : ℕ) (stays : Name → Bool) (stores : Stores) → AreApart j (map (λ (x : Name × Hist). x.1) stores) → AreApart j (map (λ (x : Name × Hist). x.1) (filter (λ (x : Name × Hist). stays x.0) stores))

-- in each the changes above the mark come behind the others
abbrev pub AllInOrder : ℕ → List Hist → Type 0
AllInOrder j [] = Unit {0}
AllInOrder j (h ∷ hs) = InOrderAt j h.steps × AllInOrder j hs

-- then they show one history, the joined one
abbrev pub a_joined_history_is_shown : Type 0
a_joined_history_is_shown = (j : ℕ) (hs : List Hist) → AreApart j hs → AllInOrder j hs → ShowsKey j hs (joined_history j hs)

-- ---- by the columns of a table

-- cells of some of these columns, in their order, each one that its column may hold
abbrev pub ArePart : List ColumnShape → Row → Type 0
ArePart [] [] = Unit {0}
ArePart [] (x ∷ cells) = ⊥
ArePart (c ∷ columns) [] = Unit {0}
ArePart (c ∷ columns) (x ∷ cells) = (StandsUnder c x × ArePart columns cells) ⊎ ArePart columns (x ∷ cells)

-- a whole row is inserted, and some of its cells are updated
abbrev pub IsOfTable : List ColumnShape → Change → Type 0
IsOfTable columns (Ins row) = RowFits columns row
IsOfTable columns (Upd cells) = ArePart columns cells
IsOfTable columns Del = Unit {0}

-- of one key, each change comes after the one before it
abbrev pub AreInTime : List KeyChange → Type 0
AreInTime [] = Unit {0}
AreInTime (c ∷ []) = Unit {0}
AreInTime (c ∷ d ∷ changes) = (c.key ≡ d.key → c.ts < d.ts) × AreInTime (d ∷ changes)

-- a row of the table, or none
abbrev pub RowIs : List ColumnShape → Option Row → Type 0
RowIs columns None = Unit {0}
RowIs columns (Some row) = RowFits columns row

-- the changes of a store in memory are of the table, under keys that are not too long
pub record AreOfTable (columns : List ColumnShape) (changes : List KeyChange) : Type 0 where
  pub time : AreInTime changes
  pub keys : AllByRecursion (λ (c : KeyChange). length c.key ≤ 16384) changes
  pub each : AllByRecursion (λ (c : KeyChange). IsOfTable columns c.change) changes

-- Then what a flush reads of them has no fault, where the stores are apart
abbrev pub a_flush_reads_no_fault : Type 0
a_flush_reads_no_fault = (span : Span) (inputs : Inputs) → inputs.rowsets ≡ [] → span.bound < 2 ^ 64 → AreShapes inputs.columns → AllByRecursion (AreOfTable inputs.columns) inputs.mems
    → AllByRecursion (λ (list : List KeyChange). rises list ≡ true) inputs.mems → ((q : List ℕ) → AreApart span.mark (hists_upto span.bound q inputs)) → AreFaultless span inputs
