-- The store to which an operation goes has its row just then, or no store has it and that is the first of all.
use Rattle.std.proofs.Common.{◌≡◌, ℕ, zero, suc, List, [], ◌∷◌, map, length, Option, Some, None, true, false, is_some, refl, sym, ap, ◌∙◌, subst, ◌⊎◌, inl, inr}
use Rattle.std.specs.Prelude.{slice_get, unwrap_or}
use Rattle.std.proofs.lemmas.List.{length-map}
use Rattle.kt_history.specs.Rows.{Row}
use Rattle.kt_history.specs.Stores.{Store, Hist, hist_in, row_of, last_row}
use Rattle.kt_histlaws.specs.Core.{live}
use Rattle.kt_histlaws.specs.Flights.{AllUnder}
use Rattle.kt_histlaws.specs.Histories.{hists, first_some}
use Rattle.kt_memrowset.proofs.Last.{last_under}
use Rattle.kt_stores.specs.Shelf.{Shelved, has_live, last_live, place_of, names_of}
use Rattle.kt_stores.proofs.Beside.{some_is, none_some}
use Rattle.kt_stores.proofs.Seeking.{seek, seek_at}
use Rattle.kt_stores.proofs.Taking.{live_some, place_is}
use Rattle.kt_tablet.specs.Filling.{all_told}
use Rattle.kt_tablet.proofs.Several.{length-told}

-- the rows after all changes are those at a time above them
lasts_under : (ts : ℕ) (hs : List Hist) → AllUnder ts hs → map last_row hs ≡ map (row_of ts) hs
lasts_under ts [] under = refl
lasts_under ts (h ∷ hs) under = ap (λ r. r ∷ map last_row hs) (last_under ts h under.0) ∙ ap (λ rs. row_of ts h ∷ rs) (lasts_under ts hs under.1)

none_is : {A : Type 0} (o : Option A) → is_some o ≡ false → o ≡ None
none_is None e = refl
none_is (Some x) e = cc

-- a history among those of the stores is of one of them
store_there : (q : List ℕ) (stores : List Store) (i : ℕ) (h : Hist) → slice_get (hists q stores) i ≡ Some h → (s : Store) × (slice_get stores i ≡ Some s) × (hist_in q s ≡ h)
store_there q [] i h at = none_some h at
store_there q (s ∷ stores) zero h at = (s, refl, some_is (hist_in q s) h at)
store_there q (s ∷ stores) (suc i) h at = store_there q stores i h at

under_at : (ts : ℕ) (hs : List Hist) (i : ℕ) (h : Hist) → AllUnder ts hs → slice_get hs i ≡ Some h → last_row h ≡ row_of ts h
under_at ts [] i h under at = none_some h at
under_at ts (g ∷ hs) zero h under at = subst (λ (x : Hist). last_row x ≡ row_of ts x) (some_is g h at) (last_under ts g under.0)
under_at ts (g ∷ hs) (suc i) h under at = under_at ts hs i h under.1 at

pub taken_live : (q : List ℕ) (ts : ℕ) (stores : List Store) (h : Hist) → AllUnder ts (hists q stores) → slice_get (hists q stores) (place_of q stores) ≡ Some h
    → (is_some (row_of ts h) ≡ true) ⊎ ((live stores q ts ≡ None) × (place_of q stores ≡ 0))
taken_live q ts stores h under at = by (seek (has_live q) stores) refl
  where
    by : (o : Option ℕ) → seek (has_live q) stores ≡ o → (is_some (row_of ts h) ≡ true) ⊎ ((live stores q ts ≡ None) × (place_of q stores ≡ 0))
    by None found =
        let none : last_live q stores ≡ None = none_is (last_live q stores) (live_some q stores ∙ ap is_some found) in
        inr (ap first_some (sym (lasts_under ts (hists q stores) under)) ∙ none, place_is q stores ∙ ap (λ o. unwrap_or o 0) found)
    by (Some i) found =
        let place : place_of q stores ≡ i = place_is q stores ∙ ap (λ o. unwrap_or o 0) found in
        let here : slice_get (hists q stores) i ≡ Some h = ap (slice_get (hists q stores)) (sym place) ∙ at in
        let s = store_there q stores i h here in
        let lives : is_some (last_row (hist_in q s.0)) ≡ true = seek_at (has_live q) stores i s.0 found s.1 in
        inl (ap is_some (sym (under_at ts (hists q stores) i h under here)) ∙ ap (λ (x : Hist). is_some (last_row x)) (sym s.2) ∙ lives)

-- each store has a name
pub each_named : (fill : Row) (memory : ℕ) (shelf : List Shelved) → length (names_of shelf) ≡ length (all_told fill memory (map (λ (s : Shelved). s.store) shelf))
each_named fill memory shelf =
    length-map shelf (λ (s : Shelved). s.name) ∙ sym (length-told fill memory (map (λ (s : Shelved). s.store) shelf) ∙ length-map shelf (λ (s : Shelved). s.store))
