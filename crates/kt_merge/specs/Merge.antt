-- What a flush or a compaction writes of its inputs.
use Rattle.std.specs.Prelude.{◌≡◌, ◌≤◌, ◌<◌, ◌+◌, ◌⊎◌, ◌^◌, ℕ, true, false, List, [], ◌∷◌, ◌++◌, length, map, not, Option, Some, None}
use Rattle.std.specs.List.{AllByRecursion, Contains, filter, sum_by}
use Rattle.std.specs.Ordering.{is_lt}
use Rattle.std.specs.List.Sorted.{IsNonDecreasingBy}
use Rattle.std.specs.FinMap.Entries.{find}
use Rattle.kt_history.specs.declared.changes.Delta.{Delta}
use Rattle.kt_history.specs.declared.changes.KeyChange.{KeyChange}
use Rattle.kt_history.specs.Rows.{key_cmp}
use Rattle.kt_history.specs.Stores.{Hist, hist_in}
use Rattle.kt_history.specs.Views.{AreRising, is_above}
use Rattle.kt_histlaws.specs.Disks.{DiskRow, AreUndos}
use Rattle.kt_histlaws.specs.Fitting.{AreSound}
use Rattle.kt_histlaws.specs.Jobs.{AreAlike}
use Rattle.kt_baseset.specs.declared.schema.ColumnShape.{ColumnShape}
use Rattle.kt_baseset.specs.Rows.{IdsRise}
use Rattle.kt_rowfiles.specs.Files.{hist_in_files}
use Rattle.kt_rowfiles.specs.declared.taking.Span.{Span}
use Rattle.kt_diskrowset.specs.declared.data.RowSetData.{RowSetData}
use Rattle.kt_diskrowset.specs.declared.inputs.Inputs.{Inputs}
use Rattle.kt_diskrowset.specs.Data.{files_in, store_in, keys_of}
use Rattle.kt_diskrowset.specs.Rows.{UndosLeadBack}
use Rattle.kt_merge.specs.Changes.{rises, keys_in, hist_in_changes}
use Rattle.kt_rowfiles.specs.Taking.{spanned}
use Rattle.kt_merge.specs.Heads.{source_keys, source_hist, hist_upto, AllStand, AreAbove}
use Rattle.kt_merge.specs.Minor.{held_records}
use Rattle.kt_merge.specs.OneKey.{IsTableRow, PassesFrom, UndosFitFile, key_written}
use Rattle.kt_merge.specs.Told.{Told, told_by_all, told_so_far, is_full, rows_in, Grows, AreOutputs}
use Rattle.kt_merge.specs.declared.heads.Head.{Head}
use Rattle.kt_merge.specs.declared.heads.Source.{Source}
use Rattle.kt_merge.specs.declared.outputs.Writing.{Writing}

-- the history of a key in each input, and those up to a bound
abbrev pub hists_of : List ℕ → Inputs → List Hist
hists_of q inputs = map (hist_in_changes q) inputs.mems ++ map (λ (d : RowSetData). hist_in q (store_in d)) inputs.rowsets

abbrev pub hists_upto : ℕ → List ℕ → Inputs → List Hist
hists_upto bound q inputs = map (hist_upto bound) (hists_of q inputs)

-- in each output, as its files tell it
abbrev pub hists_written : List ℕ → List RowSetData → List Hist
hists_written q rowsets = map (λ (d : RowSetData). hist_in_files q (files_in d)) rowsets

-- The inputs have the order of their types: columns by rising id, changes by rising key or by the order of their rows. And their UNDO
-- records lead back
abbrev pub IsReadable : RowSetData → Type 0
IsReadable d = UndosLeadBack (files_in d) × IsNonDecreasingBy (λ (x : Delta). x.ordinal) d.fresh

pub record AreReadable (inputs : Inputs) : Type 0 where
  pub ids : IdsRise 0 inputs.columns
  pub few : length inputs.columns < 2 ^ 16
  pub mems : AllByRecursion (λ (list : List KeyChange). rises list ≡ true) inputs.mems
  pub rowsets : AllByRecursion IsReadable inputs.rowsets

-- how many rows and changes they have together
abbrev pub changes_in : RowSetData → ℕ
changes_in d = length d.base.set.value.rows + length (held_records d.undo) + length (held_records d.redo) + length d.fresh

abbrev pub rows_and_changes : Inputs → ℕ
rows_and_changes inputs = sum_by (λ (list : List KeyChange). length list) inputs.mems + sum_by changes_in inputs.rowsets

-- The inputs have no fault from the mark on, up to the bound: of each key they show one history, whose changes rise and fit, and whose
-- rows are of the table. No key is too long
pub record AreFaultless (span : Span) (inputs : Inputs) : Type 0 where
  pub keys : AllByRecursion (λ (list : List KeyChange). AllByRecursion (λ (c : KeyChange). length c.key ≤ 16384) list) inputs.mems
  pub each : (q : List ℕ) → PassesFrom inputs.columns span.mark (2 ^ 64) (hists_upto span.bound q inputs)

-- of each key the outputs have what is written of it, and they have no other key
abbrev pub HaveEach : Span → Inputs → Told → Type 0
HaveEach span inputs told = (q : List ℕ) → find key_cmp q told ≡ key_written span.mark (hists_upto span.bound q inputs)

-- a key is one of some input's
abbrev pub IsOfMem : List ℕ → List (List KeyChange) → Type 0
IsOfMem q [] = ⊥
IsOfMem q (list ∷ lists) = Contains (keys_in list) q ⊎ IsOfMem q lists

abbrev pub IsOfRowset : List ℕ → List RowSetData → Type 0
IsOfRowset q [] = ⊥
IsOfRowset q (d ∷ rowsets) = Contains (keys_of d) q ⊎ IsOfRowset q rowsets

abbrev pub IsOfInput : List ℕ → Inputs → Type 0
IsOfInput q inputs = IsOfMem q inputs.mems ⊎ IsOfRowset q inputs.rowsets

-- The laws that lead from rows to histories. Disk rowsets that were written, and have of each key what is written of it, are alike to
-- the inputs from the mark on, and sound; and each of their UNDO records leads back
abbrev pub outputs_are_alike : Type 0
outputs_are_alike = (span : Span) (inputs : Inputs) (rowsets : List RowSetData) → span.mark < 2 ^ 64 → AreFaultless span inputs → AreOutputs inputs.columns rowsets → HaveEach span inputs (told_by_all rowsets)
    → (q : List ℕ) → AreAlike span.mark (hists_upto span.bound q inputs) (hists_written q rowsets)

abbrev pub outputs_are_sound : Type 0
outputs_are_sound = (span : Span) (inputs : Inputs) (rowsets : List RowSetData) → span.mark < 2 ^ 64 → AreFaultless span inputs → AreOutputs inputs.columns rowsets → HaveEach span inputs (told_by_all rowsets)
    → (q : List ℕ) → AreSound span.mark (hists_written q rowsets)

abbrev pub outputs_lead_back : Type 0
outputs_lead_back = (span : Span) (inputs : Inputs) (rowsets : List RowSetData) → span.mark < 2 ^ 64 → AreFaultless span inputs → AreOutputs inputs.columns rowsets → HaveEach span inputs (told_by_all rowsets)
    → AllByRecursion (λ (d : RowSetData). UndosLeadBack (files_in d)) rowsets

-- ---- on the way

-- what is written so far tells
abbrev pub told_of : Writing → Told
told_of w = told_by_all w.done.items ++ told_so_far w.growing

-- the disk rowsets that are full are cut, and the last one has room
pub record Writes (columns : List ColumnShape) (w : Writing) : Type 0 where
  pub done : AreOutputs columns w.done.items
  pub full : AllByRecursion (λ (d : RowSetData). is_full (rows_in d) ≡ true) w.done.items
  pub rise : AreRising (map (λ (r : List ℕ × DiskRow). r.0) (told_of w))
  pub grows : Grows columns w.growing

-- a key's row is there, or is not, behind other rows
abbrev pub MayBeWritten : List ℕ → Told → Told → Type 0
MayBeWritten key old new = (new ≡ old) ⊎ ((row : DiskRow) × (new ≡ old ++ (key, row) ∷ []))

-- what is to be written of it, if there is something
abbrev pub with_row : List ℕ → Option DiskRow → Told → Told
with_row key None told = told
with_row key (Some row) told = told ++ (key, row) ∷ []

-- files can hold it, and there is room
abbrev pub CanHold : List ColumnShape → List ℕ → Option DiskRow → Writing → Type 0
CanHold columns key None w = Unit {0}
CanHold columns key (Some row) w = (length key ≤ 16384) × IsTableRow columns row.base × UndosFitFile row.undos × AreUndos (2 ^ 64) row.undos (Some row.base) × (length w.growing.undos.items + length row.undos < 2 ^ 32)

-- then it is written
abbrev pub IsWritten : List ColumnShape → List ℕ → Option DiskRow → Writing → Writing → Type 0
IsWritten columns key row old new = CanHold columns key row old → told_of new ≡ with_row key row (told_of old)

-- no key of these rows is above one
abbrev pub NoneAbove : Option (List ℕ) → Told → Type 0
NoneAbove after told = AllByRecursion (λ r. is_above after r.0 ≡ false) told

-- no key is too long
abbrev pub AllShort : List Head → Type 0
AllShort heads = AllByRecursion (λ (h : Head). AllByRecursion (λ (key : List ℕ). length key ≤ 16384) (source_keys h.source)) heads

-- the keys of each input, and of each head
abbrev pub keys_of_inputs : Inputs → List (List (List ℕ))
keys_of_inputs inputs = map keys_in inputs.mems ++ map keys_of inputs.rowsets

abbrev pub keys_at : List Head → List (List (List ℕ))
keys_at heads = map (λ (h : Head). source_keys h.source) heads

-- each of these rows stands under a key of some input
abbrev pub NoOther : Inputs → Told → Type 0
NoOther inputs told = AllByRecursion (λ r. IsOfInput r.0 inputs) told

-- All keys up to one are written, and the inputs go on behind it
pub record GoesOn (span : Span) (inputs : Inputs) (heads : List Head) (told : Told) (after : Option (List ℕ)) : Type 0 where
  pub stand : AllStand heads
  pub above : AreAbove after heads
  pub hists : (q : List ℕ) → map (λ (h : Head). source_hist q h.source) heads ≡ hists_of q inputs
  pub keys : keys_at heads ≡ keys_of_inputs inputs
  pub own : NoOther inputs told
  pub short : AreFaultless span inputs → AllShort heads
  pub upto_ : NoneAbove after told
  pub have : AreFaultless span inputs → (q : List ℕ) → is_above after q ≡ false → find key_cmp q told ≡ key_written span.mark (hists_upto span.bound q inputs)

-- how many changes of an input lie in the span under keys that are not gone over, and of several inputs
abbrev pub changes_under : Span → List (List ℕ) → Source → ℕ
changes_under span keys s = sum_by (λ (q : List ℕ). length (spanned span (source_hist q s).steps)) keys

abbrev pub keys_behind : Option (List ℕ) → List (List ℕ) → List (List ℕ)
keys_behind None keys = []
keys_behind (Some key) keys = filter (λ (other : List ℕ). not (is_lt (key_cmp other key))) keys

abbrev pub changes_left : Span → List Head → ℕ
changes_left span heads = sum_by (λ (h : Head). changes_under span (keys_behind h.key (source_keys h.source)) h.source) heads

-- the UNDO records of the rowset that takes rows, and those that are still to come, are fewer than a file can count
abbrev pub HasRoom : Span → Inputs → List Head → Writing → Type 0
HasRoom span inputs heads w = length w.growing.undos.items + changes_left span heads < 2 ^ 32
