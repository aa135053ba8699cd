-- A fresh tablet is opened with nothing.
use Rattle.std.proofs.Common.{◌≡◌, ◌≢◌, ◌⊎◌, ℕ, max, List, [], ◌∷◌, map, Ok, Err, Result, ap, inl, inr, refl, sym, subst, ◌∙◌}
use Rattle.kt_history.specs.Rows.{Row}
use Rattle.kt_records.specs.declared.entry.Entry.{Entry}
use Rattle.kt_loglaws.specs.Replay.{last_of, gate_of}
use Rattle.kt_schema.specs.declared.column.Column.{Column}
use Rattle.kt_schema.specs.Columns.{fill_of}
use Rattle.kt_super.specs.declared.meta.Meta.{Meta}
use Rattle.kt_diskrowset.specs.declared.data.RowSetData.{RowSetData}
use Rattle.kt_diskrowset.specs.Data.{held_in}
use Rattle.kt_stores.specs.Shelf.{StoresView}
use Rattle.kt_content.specs.Places.{memory}
use Rattle.kt_content.specs.Opening.{Placed}
use Rattle.kt_reopen.specs.declared.opened.Made.{Made}
use Rattle.kt_reopen.specs.declared.why.Why.{Why}
use Rattle.kt_reopen.specs.declared.why.Why.TheVariants.{B1, B2, B3, B4, B5, B6, Fault, Memory}
use Rattle.kt_reopen.specs.Both.{Found, nothing, super_in, stores_after}
use Rattle.kt_reopen.specs.Opened.{first_meta, found_of, IsOpened, HasRoom}

abbrev empty : Placed
empty = (memory, []) ∷ []

module _ (columns : List Column) (cells : ℕ) (m : Meta) (records queued : List Entry) (view : StoresView) (next : ℕ) (m_is : m ≡ first_meta columns) (none : records ≡ []) where
  found_is : found_of (super_in m []) records empty ≡ nothing
  found_is = λ i. found_of (super_in (m_is i) []) (none i) empty

  makes : stores_after (fill_of columns) (super_in m []) records ≡ Ok empty
  makes = λ i. stores_after (fill_of columns) (super_in (m_is i) []) (none i)

  pub first_opened : ((stores : Placed) → stores_after (fill_of columns) (super_in m []) records ≡ Ok stores → IsOpened columns (found_of (super_in m []) records stores) m records queued view (max m.c (last_of records)) next)
      → ((stores : Placed) → HasRoom cells (found_of (super_in m []) records stores) view) → IsOpened columns nothing m records queued view 0 next × HasRoom cells nothing view
  first_opened made room = (
    subst (λ (n : ℕ). IsOpened columns nothing m records queued view n next) (λ i. max (m_is i).c (last_of (none i)))
        (subst (λ (f : Found). IsOpened columns f m records queued view (max m.c (last_of records)) next) found_is (made empty makes)),
    subst (λ (f : Found). HasRoom cells f view) found_is (room empty),
  )

  -- a list of rowsets that has none
  module _ (ds : List RowSetData) (nil : ds ≡ []) where
    pub made_of_none : ((stores : Placed) → stores_after (fill_of columns) (super_in m (map held_in ds)) records ≡ Ok stores → IsOpened columns (found_of (super_in m (map held_in ds)) records stores) m records queued view (max m.c (last_of records)) next)
        → (stores : Placed) → stores_after (fill_of columns) (super_in m []) records ≡ Ok stores → IsOpened columns (found_of (super_in m []) records stores) m records queued view (max m.c (last_of records)) next
    made_of_none made =
        subst (λ (l : List RowSetData). (stores : Placed) → stores_after (fill_of columns) (super_in m (map held_in l)) records ≡ Ok stores → IsOpened columns (found_of (super_in m (map held_in l)) records stores) m records queued view (max m.c (last_of records)) next) nil made

    pub room_of_none : ((stores : Placed) → HasRoom cells (found_of (super_in m (map held_in ds)) records stores) view) → (stores : Placed) → HasRoom cells (found_of (super_in m []) records stores) view
    room_of_none room = subst (λ (l : List RowSetData). (stores : Placed) → HasRoom cells (found_of (super_in m (map held_in l)) records stores) view) nil room

-- nothing is in the way of a log that has nothing
module _ (columns : List Column) (m : Meta) (records : List Entry) (m_is : m ≡ first_meta columns) (none : records ≡ []) where
  never_late : (fill : Row) (ts : ℕ) → stores_after fill (super_in m []) records ≡ Err ts → ⊥
  never_late fill ts late =
      let here : stores_after fill (super_in m []) records ≡ Ok empty = λ i. stores_after fill (super_in (m_is i) []) (none i) in
      let clash : Ok empty ≡ Err ts = sym here ∙ late in
      cc

  pub late_of_none : (ds : List RowSetData) → ds ≡ [] → (given why : Why) → given ≡ why → why ≢ Memory
      → ((no : Why) → ◌≡◌ {A = Result Made Why} (Err given) (Err no) → no ≢ Memory → (fill : Row) → (ts : ℕ) × (stores_after fill (super_in m (map held_in ds)) records ≡ Err ts) × (no ≡ B3 (gate_of ts records))) → ⊥
  late_of_none ds nil given why same other late =
      let found = late why (ap (λ (w : Why). Err w) same) other [] in
      never_late [] found.0 (subst (λ (l : List RowSetData). stores_after [] (super_in m (map held_in l)) records ≡ Err found.0) nil found.1)

-- so what is refused is for a fault or for want of memory
pub no_other_reason : (no : Why) → (no ≢ Memory → ⊥) → (no ≡ Fault) ⊎ (no ≡ Memory)
no_other_reason (B1 slot offset) h = absurd (h (λ e. cc))
no_other_reason (B2 file offset) h = absurd (h (λ e. cc))
no_other_reason (B3 offset) h = absurd (h (λ e. cc))
no_other_reason (B4 needs found) h = absurd (h (λ e. cc))
no_other_reason (B5 column) h = absurd (h (λ e. cc))
no_other_reason (B6 last) h = absurd (h (λ e. cc))
no_other_reason Fault h = inl refl
no_other_reason Memory h = inr refl

-- ---- and a superblock with its files, of which these are the rowsets, with what they make

module _ (columns : List Column) (cells : ℕ) (m : Meta) (records queued : List Entry) (view : StoresView) (last next : ℕ) (ds rowsets : List RowSetData) (same : ds ≡ rowsets) (last_is : last ≡ max m.c (last_of records)) where
  -- so many stores are opened from these
  abbrev pub IsMadeOf : List RowSetData → Type 0
  IsMadeOf l =
      (stores : Placed) × (stores_after (fill_of columns) (super_in m (map held_in l)) records ≡ Ok stores) × IsOpened columns (found_of (super_in m (map held_in l)) records stores) m records queued view last next
      × HasRoom cells (found_of (super_in m (map held_in l)) records stores) view

  pub later_opened : ((fill : Row) → (stores : Placed) × (stores_after fill (super_in m (map held_in ds)) records ≡ Ok stores))
      → ((columns : List Column) (stores : Placed) → stores_after (fill_of columns) (super_in m (map held_in ds)) records ≡ Ok stores → IsOpened columns (found_of (super_in m (map held_in ds)) records stores) m records queued view (max m.c (last_of records)) next)
      → ((stores : Placed) → HasRoom cells (found_of (super_in m (map held_in ds)) records stores) view) → IsMadeOf rowsets
  later_opened fits made room =
      let got = fits (fill_of columns) in
      let here : IsMadeOf ds = (
        got.0,
        got.1,
        subst (λ (n : ℕ). IsOpened columns (found_of (super_in m (map held_in ds)) records got.0) m records queued view n next) (sym last_is) (made columns got.0 got.1),
        room got.0,
      ) in
      subst IsMadeOf same here

-- an operation of them that is late
pub late_of_files : (m : Meta) (records : List Entry) (ds rowsets : List RowSetData) → ds ≡ rowsets → (given why : Why) → given ≡ why → why ≢ Memory
    → ((no : Why) → ◌≡◌ {A = Result Made Why} (Err given) (Err no) → no ≢ Memory → (fill : Row) → (ts : ℕ) × (stores_after fill (super_in m (map held_in ds)) records ≡ Err ts) × (no ≡ B3 (gate_of ts records)))
    → (fill : Row) → (ts : ℕ) × (stores_after fill (super_in m (map held_in rowsets)) records ≡ Err ts) × (why ≡ B3 (gate_of ts records))
late_of_files m records ds rowsets same given why is other late fill =
    subst (λ (l : List RowSetData). (ts : ℕ) × (stores_after fill (super_in m (map held_in l)) records ≡ Err ts) × (why ≡ B3 (gate_of ts records))) same (late why (ap (λ (w : Why). Err w) is) other fill)
