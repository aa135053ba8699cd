-- Pages: the keys behind a place, and the rows of some keys in turn.
use Rattle.std.proofs.Common.{◌≡◌, ◌≤◌, ◌<◌, ◌-◌, ◌+◌, ℕ, zero, suc, true, false, cond, List, [], ◌∷◌, ◌++◌, append_assoc, map, take, drop, length, length-append, get_or, Option, Some, None, refl, sym, ap, subst, ◌∙◌, arith}
use Rattle.std.specs.Prelude.{Bool}
use Rattle.std.specs.List.{filter, filter_map, flat_map, cons_option, between}
use Rattle.std.specs.Option.{option_map}
use Rattle.std.specs.Ordering.{is_lt}
use Rattle.std.proofs.lemmas.List.{take-append-drop, take_at, drop_at, drop-drop, drop_all, length-map}
use Rattle.std.proofs.lemmas.List.Edits.{between_more, length-between}
use Rattle.std.proofs.lemmas.List.Elements.{filter_map-append}
use Rattle.kt_base.specs.declared.cell.Cell.{Cell}
use Rattle.kt_history.specs.Rows.{Row, Rows, key_cmp}
use Rattle.kt_history.specs.Stores.{row_of, after_steps}
use Rattle.kt_history.specs.Views.{is_above, AreRising}
use Rattle.kt_histlaws.specs.Disks.{disk_row_at}
use Rattle.kt_lookup.specs.Index.{IsBelow}
use Rattle.kt_baseset.specs.declared.rows.KeyedRow.{KeyedRow}
use Rattle.kt_baseset.specs.Asked.{cell_asked, cells_asked}
use Rattle.kt_baseset.specs.Rows.{keys_in}
use Rattle.kt_baseset.specs.Tables.{key_at, cells_in}
use Rattle.kt_rowfiles.specs.Files.{row_under}
use Rattle.kt_diskrowset.specs.declared.data.RowSetData.{RowSetData}
use Rattle.kt_diskrowset.specs.declared.page.Gathered.{Gathered}
use Rattle.kt_diskrowset.specs.declared.page.Page.{Page}
use Rattle.kt_diskrowset.specs.Data.{files_in, fresh_in, keys_of}
use Rattle.kt_diskrowset.specs.Files.{row_with_files}
use Rattle.kt_diskrowset.specs.Gathered.{Holds, pieces_of, HasPieces}
use Rattle.kt_diskrowset.specs.Rows.{rows_of, hist_found, UndosLeadBack}
use Rattle.kt_diskrowset.specs.Page.{told_at, rows_under, Shows, IsPage}
use Rattle.kt_diskrowset.proofs.Histories.{found_there, hist_is}
use Rattle.kt_diskrowset.proofs.Plain.{keys_count, key_in, not_below}
use Rattle.kt_diskrowset.proofs.Rowsets.{row_is}

-- ---- the keys behind a place

-- what passes stands behind all that does not
filter_at : (test : List ℕ → Bool) (keys : List (List ℕ)) (n : ℕ) → n ≤ length keys → ((i : ℕ) → i < n → test (get_or keys i []) ≡ false) → ((i : ℕ) → n ≤ i → i < length keys → test (get_or keys i []) ≡ true) → drop n keys ≡ filter test keys
filter_at test [] zero within none all = refl
filter_at test [] (suc n) within none all = absurd (omega arith)
filter_at test (k ∷ keys) zero within none all =
    ap (λ ks. k ∷ ks) (filter_at test keys 0 (omega arith) (λ i low. absurd (omega arith)) (λ i from low. all (suc i) (omega arith) (omega arith)))
    ∙ sym (ap (λ b. cond b (k ∷ filter test keys) (filter test keys)) (all 0 (omega arith) (omega arith)))
filter_at test (k ∷ keys) (suc n) within none all =
    filter_at test keys n (omega arith) (λ i low. none (suc i) (omega arith)) (λ i from low. all (suc i) (omega arith) (omega arith))
    ∙ sym (ap (λ b. cond b (k ∷ filter test keys) (filter test keys)) (none 0 (omega arith)))

pub behind_is : (rows : List KeyedRow) (key : List ℕ) (n : ℕ) → n ≤ length rows → ((i : ℕ) → i < n → ¬ IsBelow key (key_at rows i)) → ((i : ℕ) → n ≤ i → i < length rows → IsBelow key (key_at rows i))
    → drop n (keys_in rows) ≡ filter (is_above (Some key)) (keys_in rows)
behind_is rows key n within before above =
    let count = keys_count rows in
    filter_at (is_above (Some key)) (keys_in rows) n (omega arith) (λ i low. ap (λ k. is_lt (key_cmp key k)) (key_in rows i) ∙ not_below key (key_at rows i) (before i low))
    (λ i from low. ap (λ k. is_lt (key_cmp key k)) (key_in rows i) ∙ ap is_lt (above i from (omega arith)))

pub all_behind : (keys : List (List ℕ)) → keys ≡ filter (is_above None) keys
all_behind [] = refl
all_behind (k ∷ keys) = ap (λ ks. k ∷ ks) (all_behind keys)

cut_behind : {X : Type 0} (xs : List X) (i j : ℕ) → i ≤ j → drop i xs ≡ between i j xs ++ drop j xs
cut_behind xs i j le = sym (take-append-drop (j - i) (drop i xs)) ∙ ap (λ ys. between i j xs ++ ys) (drop-drop (j - i) i xs ∙ (let e : i + (j - i) ≡ j = omega arith in ap (λ k. drop k xs) e))

-- ---- the row at a place

pub told_there : (d : RowSetData) (t i : ℕ) → UndosLeadBack (files_in d) → AreRising (keys_of d) → i < length d.base.set.value.rows
    → told_at t d (key_at d.base.set.value.rows i) ≡ after_steps t (fresh_in d i) (disk_row_at t (row_with_files d.undo d.redo i (cells_in d.base.set.value.rows i)))
told_there d t i lead rise low =
    let rows = d.base.set.value.rows in
    let found : ℕ × Row = (i, cells_in rows i) in
    let at : row_under (key_at rows i) 0 (rows_of rows) ≡ Some found = found_there rows 0 i rise low ∙ (let e : 0 + i ≡ i = omega arith in ap (λ k. Some (k, cells_in rows i)) e) in
    ap (row_of t) (hist_is (files_in d) (fresh_in d) (key_at rows i) ∙ ap (hist_found (files_in d) (fresh_in d)) at) ∙ row_is (files_in d) (fresh_in d) (key_at rows i) found t lead at

-- a key that has a row, and one that has none
pub row_here : (row : List ℕ → Option Row) (key : List ℕ) (r : Row) → row key ≡ Some r → rows_under row (key ∷ []) ≡ (key, r) ∷ []
row_here row key r e = ap (λ (o : Option Row). cons_option (option_map (λ x. (key, x)) o) []) e

pub no_row_here : (row : List ℕ → Option Row) (key : List ℕ) → row key ≡ None → rows_under row (key ∷ []) ≡ []
no_row_here row key e = ap (λ (o : Option Row). cons_option (option_map (λ x. (key, x)) o) []) e

-- ---- the rows of one key more

pub rows_more : (row : List ℕ → Option Row) (rows : List KeyedRow) (i j : ℕ) → i ≤ j → j < length rows → rows_under row (between i (j + 1) (keys_in rows)) ≡ rows_under row (between i j (keys_in rows)) ++ rows_under row (key_at rows j ∷ [])
rows_more row rows i j le low =
    let count = keys_count rows in
    ap (rows_under row) (between_more (keys_in rows) i j [] le (omega arith) ∙ ap (λ k. between i j (keys_in rows) ++ k ∷ []) (key_in rows j))
    ∙ filter_map-append (λ key. option_map (λ (r : Row). (key, r)) (row key)) (between i j (keys_in rows)) (key_at rows j ∷ [])

-- ---- pieces of one width

pub pieces_left : (w n : ℕ) (cells : List Cell) → 0 < n → HasPieces w n cells → HasPieces w (n - 1) (drop w cells)
pieces_left w zero cells some h = absurd (omega arith)
pieces_left w (suc n) cells some h = let e : suc n - 1 ≡ n = omega arith in subst (λ k. HasPieces w k (drop w cells)) (sym e) h.1

pieces_next : (w n : ℕ) (cells : List Cell) → 0 < n → pieces_of w n cells ≡ take w cells ∷ pieces_of w (n - 1) (drop w cells)
pieces_next w zero cells some = absurd (omega arith)
pieces_next w (suc n) cells some = let e : suc n - 1 ≡ n = omega arith in ap (λ k. take w cells ∷ pieces_of w k (drop w cells)) (sym e)

pub pieces_more : (w n : ℕ) (cells rest front : List Cell) (rows more whole : List (List Cell)) → 0 < n → front ≡ take w cells → rest ≡ drop w cells → more ≡ rows ++ front ∷ [] → rows ++ pieces_of w n cells ≡ whole → more ++ pieces_of w (n - 1) rest ≡ whole
pieces_more w n cells rest front rows more whole some front_is rest_is more_is so =
    ap (λ rs. rs ++ pieces_of w (n - 1) rest) more_is ∙ append_assoc rows (front ∷ []) (pieces_of w (n - 1) rest)
    ∙ ap (λ f. rows ++ f ∷ pieces_of w (n - 1) rest) front_is ∙ ap (λ cs. rows ++ take w cells ∷ pieces_of w (n - 1) cs) rest_is
    ∙ ap (λ ps. rows ++ ps) (sym (pieces_next w n cells some)) ∙ so

-- the cells of some rows are so many pieces
module _ (columns : Row) where
  abbrev line : List ℕ × Row → List Cell
  line r = cells_asked columns r.1

  width : (r : List ℕ × Row) → length (line r) ≡ length columns
  width r = length-map columns (cell_asked r.1)

  pieces_there : (told : Rows) → HasPieces (length columns) (length told) (flat_map line told)
  pieces_there [] = tt
  pieces_there (r ∷ told) = (
    (let w = width r in omega (arith, length-append (line r) (flat_map line told))),
    subst (HasPieces (length columns) (length told)) (sym (drop_at (line r) (flat_map line told) (length columns) (width r))) (pieces_there told),
  )

  pieces_are : (told : Rows) → pieces_of (length columns) (length told) (flat_map line told) ≡ map line told
  pieces_are [] = refl
  pieces_are (r ∷ told) =
      ap (λ p. p ∷ pieces_of (length columns) (length told) (drop (length columns) (line r ++ flat_map line told))) (take_at (line r) (flat_map line told) (length columns) (width r))
      ∙ ap (λ cs. line r ∷ pieces_of (length columns) (length told) cs) (drop_at (line r) (flat_map line told) (length columns) (width r))
      ∙ ap (λ ps. line r ∷ ps) (pieces_are told)

  module _ (told : Rows) (g : Gathered) (w n : ℕ) (cells : List Cell) (holds : Holds columns told g) (w_is : w ≡ length columns) (n_is : n ≡ length g.keys) (cells_are : cells ≡ g.cells.items) where
    count : length told ≡ n
    count = sym (length-map told (λ (r : List ℕ × Row). r.0)) ∙ sym (ap length holds.keys) ∙ sym n_is

    pub held_pieces : HasPieces w n cells
    held_pieces =
        subst (HasPieces w n) (sym (cells_are ∙ holds.cells)) (
        subst (λ k. HasPieces w k (flat_map line told)) count (subst (λ v. HasPieces v (length told) (flat_map line told)) (sym w_is) (pieces_there told))
        )

    pub held_shows : (page : Page) → page.keys ≡ g.keys → page.rows ≡ pieces_of w n cells → Shows columns told page
    held_shows page keys rows = record {
      keys = keys ∙ holds.keys;
      rows =
          rows ∙ ap (λ v. pieces_of v n cells) w_is ∙ sym (ap (λ k. pieces_of (length columns) k cells) count) ∙ ap (pieces_of (length columns) (length told)) (cells_are ∙ holds.cells)
          ∙ pieces_are told;
    }

-- ---- a page

pub page_is : (d : RowSetData) (t : ℕ) (after : Option (List ℕ)) (columns : Row) (start end : ℕ) (page : Page) → start ≤ end → end ≤ start + 1024 → drop start (keys_of d) ≡ filter (is_above after) (keys_of d) → end ≤ length d.base.set.value.rows
    → (page.more ≡ false → length d.base.set.value.rows ≤ end) → (page.more ≡ true → (start < end) × (page.last ≡ key_at d.base.set.value.rows (end - 1)))
    → Shows columns (rows_under (told_at t d) (between start end (keys_of d))) page → IsPage (told_at t d) (keys_of d) after columns page
page_is d t after columns start end page upto few behind within over some shows =
    let rows = d.base.set.value.rows in
    let count = keys_count rows in
    record {
      front = between start end (keys_of d);
      rest = drop end (keys_of d);
      parts = sym behind ∙ cut_behind (keys_of d) start end upto;
      shows = shows;
      few = omega (arith, length-between (keys_of d) start end (omega arith));
      ends = λ e. let o = over e in drop_all end (keys_of d) (omega arith);
      goes_on = λ e.
          let s = some e in
          let low = s.0 in
          let is : (end - 1) + 1 ≡ end = omega arith in
          record {
            before = between start (end - 1) (keys_of d);
            are = ap (λ k. between start k (keys_of d)) (sym is) ∙ between_more (keys_of d) start (end - 1) [] (omega arith) (omega arith) ∙ ap (λ k. between start (end - 1) (keys_of d) ++ k ∷ []) (key_in rows (end - 1) ∙ sym s.1);
          };
    }
