-- Flat cells: more texts change none of them, one cell more, and those in front.
use Rattle.std.proofs.Common.{◌≡◌, ℕ, ◌-◌, ◌<◌, List, [], ◌∷◌, ◌++◌, length, take, drop, map, get_or, refl, sym, ap, ◌∙◌, subst, arith, length-append}
use Rattle.std.specs.List.{All, between}
use Rattle.std.proofs.lemmas.List.{map-append, take-map, drop-map, length-map, get_or_default, take_at, get_or_append_left, get_or_at}
use Rattle.std.proofs.lemmas.List.Elements.{All-push, All-take, All-head, All-tail, All-weaker}
use Rattle.kt_base.specs.declared.cell.Cell.{Cell}
use Rattle.kt_base.specs.declared.cell.Cell.TheVariants.{Bytes}
use Rattle.kt_history.specs.declared.row_list.Flat.{Flat}
use Rattle.kt_history.specs.declared.row_list.Flat.TheVariants as flat
use Rattle.kt_bytes.specs.Cuts.{pieces, IsCut, start_at}
use Rattle.kt_bytes.proofs.Cuts.{count_is, item_is, pushed_cut, pushed_view}
use Rattle.kt_history.specs.Flat.{cell_among, IsAmong, AreFlat}

-- ---- one text more

still_among : (texts : List (List ℕ)) (text : List ℕ) (f : Flat) → IsAmong texts f → IsAmong (texts ++ text ∷ []) f
still_among texts text flat.Null h = h
still_among texts text (flat.Int n) h = h
still_among texts text (flat.Bool b) h = h
still_among texts text (flat.Bytes at) h = omega (arith, h, length-append texts (text ∷ []))

still_is : (texts : List (List ℕ)) (text : List ℕ) (f : Flat) → IsAmong texts f → cell_among (texts ++ text ∷ []) f ≡ cell_among texts f
still_is texts text flat.Null h = refl
still_is texts text (flat.Int n) h = refl
still_is texts text (flat.Bool b) h = refl
still_is texts text (flat.Bytes at) h = ap Bytes (get_or_append_left texts (text ∷ []) [] at h)

pub still_are : (texts : List (List ℕ)) (text : List ℕ) (flats : List Flat) → All (IsAmong texts) flats → map (cell_among (texts ++ text ∷ [])) flats ≡ map (cell_among texts) flats
still_are texts text [] all = refl
still_are texts text (f ∷ flats) all =
    rw (still_is texts text f (All-head (IsAmong texts) f flats all), still_are texts text flats (All-tail (IsAmong texts) f flats all)) refl

pub more_texts : (texts : List (List ℕ)) (text : List ℕ) (flats : List Flat) (row : List Cell) → AreFlat texts flats row → AreFlat (texts ++ text ∷ []) flats row
more_texts texts text flats row flat = record {
  among = All-weaker (IsAmong texts) (IsAmong (texts ++ text ∷ [])) (still_among texts text) flats flat.among;
  are = still_are texts text flats flat.among ∙ flat.are;
}

-- ---- one cell more

pub one_more : (texts : List (List ℕ)) (flats : List Flat) (f : Flat) (row : List Cell) → AreFlat texts flats row → IsAmong texts f → AreFlat texts (flats ++ f ∷ []) (row ++ cell_among texts f ∷ [])
one_more texts flats f row flat among = record {
  among = All-push (IsAmong texts) flats f flat.among among;
  are = map-append (cell_among texts) flats (f ∷ []) ∙ ap (λ (cells : List Cell). cells ++ cell_among texts f ∷ []) flat.are;
}

-- ---- those in front

pub in_front : (texts : List (List ℕ)) (flats : List Flat) (row more : List Cell) (n : ℕ) → AreFlat texts flats (row ++ more) → n ≡ length row → AreFlat texts (take n flats) row
in_front texts flats row more n flat is = record {
  among = All-take (IsAmong texts) n flats flat.among;
  are = sym (take-map (cell_among texts) n flats) ∙ ap (take n) flat.are ∙ take_at row more n (sym is);
}

-- the cell of a text that was just added
pub last_text : (texts : List (List ℕ)) (text : List ℕ) (n : ℕ) → n ≡ length texts → (IsAmong (texts ++ text ∷ []) (flat.Bytes n)) × (cell_among (texts ++ text ∷ []) (flat.Bytes n) ≡ Bytes text)
last_text texts text n is = (omega (arith, length-append texts (text ∷ [])), ap Bytes (get_or_at texts text [] [] n (sym is)))

-- ---- rows

-- the invariant of a list of rows
abbrev pub IsHeld : List ℕ → List Flat → List (List ℕ) → Type 0
IsHeld ends flats texts = IsCut 0 ends (length flats) × All (IsAmong texts) flats

module _ (ends : List ℕ) (flats : List Flat) (texts : List (List ℕ)) (flats' : List Flat) (texts' : List (List ℕ)) (items : List (List Cell)) (held : IsHeld ends flats texts) (view : pieces 0 ends (map (cell_among texts) flats) ≡ items) where
  abbrev row : List Cell
  row = map (cell_among texts) flats

  are_flat : AreFlat texts flats row
  are_flat = record { among = held.1; are = refl }

  cut : IsCut 0 ends (length row)
  cut = subst (IsCut 0 ends) (sym (length-map flats (cell_among texts))) held.0

  -- a row more
  module _ (more : List Cell) (ends' : List ℕ) (end : ℕ) (grown : (row : List Cell) → AreFlat texts flats row → AreFlat texts' flats' (row ++ more)) (at : ends' ≡ ends ++ end ∷ []) (is : end ≡ length flats') where
    same : map (cell_among texts') flats' ≡ row ++ more
    same = (grown row are_flat).are

    is_end : end ≡ length (map (cell_among texts') flats')
    is_end = is ∙ sym (length-map flats' (cell_among texts'))

    pub held_more : IsHeld ends' flats' texts'
    held_more = (subst (IsCut 0 ends') (length-map flats' (cell_among texts')) (pushed_cut ends row more ends' _ end cut at same is_end), (grown row are_flat).among)

    pub view_more : pieces 0 ends' (map (cell_among texts') flats') ≡ items ++ more ∷ []
    view_more = pushed_view ends row more ends' _ end items more view cut at same is_end refl

  -- the same rows
  module _ (kept : (row : List Cell) → AreFlat texts flats row → AreFlat texts' flats' row) where
    same_cells : map (cell_among texts') flats' ≡ row
    same_cells = (kept row are_flat).are

    pub held_still : IsHeld ends flats' texts'
    held_still = (subst (IsCut 0 ends) (ap length (sym same_cells) ∙ length-map flats' (cell_among texts')) cut, (kept row are_flat).among)

    pub view_still : pieces 0 ends (map (cell_among texts') flats') ≡ items
    view_still = ap (pieces 0 ends) same_cells ∙ view

-- flat cells are as many as those that they stand for
pub same_length : (texts : List (List ℕ)) (flats : List Flat) (row : List Cell) → AreFlat texts flats row → length flats ≡ length row
same_length texts flats row flat = sym (length-map flats (cell_among texts)) ∙ ap length flat.are

-- ---- one row

map-between : {A B : Type 0} (f : A → B) (i j : ℕ) (xs : List A) → map f (between i j xs) ≡ between i j (map f xs)
map-between f i j xs = sym (take-map f (j - i) (drop i xs)) ∙ ap (take (j - i)) (sym (drop-map f i xs))

pub row_is : (ends : List ℕ) (flats : List Flat) (texts : List (List ℕ)) (items : List (List Cell)) (i : ℕ) (row : List Flat) → pieces 0 ends (map (cell_among texts) flats) ≡ items → i < length items → row ≡ between (start_at 0 ends i) (get_or ends i 0) flats → map (cell_among texts) row ≡ get_or items i (map (cell_among texts) row)
row_is ends flats texts items i row view within is =
    let found = ap (map (cell_among texts)) is ∙ (map-between (cell_among texts) (start_at 0 ends i) (get_or ends i 0) flats ∙ item_is ends (map (cell_among texts) flats) items i view within) in
    found ∙ get_or_default items i [] (map (cell_among texts) row) within

pub rows_are : (ends : List ℕ) (flats : List Flat) (texts : List (List ℕ)) (items : List (List Cell)) → pieces 0 ends (map (cell_among texts) flats) ≡ items → length ends ≡ length items
rows_are ends flats texts items view = count_is ends (map (cell_among texts) flats) items view
