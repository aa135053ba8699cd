-- Filling the inserts of a store keeps which rows are there, and commutes with what an operation adds.
use Rattle.std.proofs.Common.{◌≡◌, ℕ, List, [], ◌∷◌, Some, None, Option, refl, sym, ap, map, is_some}
use Rattle.std.specs.FinMap.Entries.{put}
use Rattle.std.specs.declared.cmp.Ordering.TheVariants.{Less, Equal, Greater}
use Rattle.std.proofs.lemmas.List.{map-append}
use Rattle.kt_history.specs.declared.change.Change.{Change}
use Rattle.kt_history.specs.declared.change.Change.TheVariants.{Ins, Upd, Del}
use Rattle.kt_history.specs.Rows.{Row, apply, key_cmp}
use Rattle.kt_history.specs.Stores.{Steps, Hist, Store, push, hist_in, Under, apply_all, last_row}
use Rattle.kt_tablet.specs.Filling.{filled_change, filled_hist, filled}

-- a change makes a row there or not, whatever the cells are
apply_alike : (fill : Row) (c : Change) (x y : Option Row) → is_some x ≡ is_some y → is_some (apply (filled_change fill c) x) ≡ is_some (apply c y)
apply_alike fill (Ins cells) None None e = refl
apply_alike fill (Ins cells) (Some r) (Some s) e = refl
apply_alike fill (Ins cells) None (Some s) e = refl
apply_alike fill (Ins cells) (Some r) None e = refl
apply_alike fill (Upd cells) None None e = refl
apply_alike fill (Upd cells) (Some r) (Some s) e = refl
apply_alike fill (Upd cells) None (Some s) e = e
apply_alike fill (Upd cells) (Some r) None e = e
apply_alike fill Del x y e = refl

all_alike : (fill : Row) (steps : Steps) (x y : Option Row) → is_some x ≡ is_some y → is_some (apply_all (map (λ (c : ℕ × Change). (c.0, filled_change fill c.1)) steps) x) ≡ is_some (apply_all steps y)
all_alike fill [] x y e = e
all_alike fill (c ∷ steps) x y e = all_alike fill steps (apply (filled_change fill c.1) x) (apply c.1 y) (apply_alike fill c.1 x y e)

pub last_alike : (fill : Row) (h : Hist) → is_some (last_row (filled_hist fill h)) ≡ is_some (last_row h)
last_alike fill h = all_alike fill h.steps h.first h.first refl

-- the histories of a key
pub find-filled : (fill : Row) (q : List ℕ) (store : Store) → hist_in q (filled fill store) ≡ filled_hist fill (hist_in q store)
find-filled fill q [] = refl
find-filled fill q (r ∷ store) = elim (key_cmp q r.0) as (λ o. key_cmp q r.0 ≡ o → hist_in q (filled fill (r ∷ store)) ≡ filled_hist fill (hist_in q (r ∷ store))) [
  | Less ↦ λ e. rw e (find-filled fill q store)
  | Equal ↦ λ e. rw e refl
  | Greater ↦ λ e. rw e (find-filled fill q store)
] refl

pub push-filled : (fill : Row) (ts : ℕ) (c : Change) (h : Hist) → push ts (filled_change fill c) (filled_hist fill h) ≡ filled_hist fill (push ts c h)
push-filled fill ts c h = ap (λ s. record { first = h.first; steps = s }) (sym (map-append (λ (c : ℕ × Change). (c.0, filled_change fill c.1)) h.steps ((ts, c) ∷ [])))

pub put-filled : (fill : Row) (q : List ℕ) (h : Hist) (store : Store) → put key_cmp q (filled_hist fill h) (filled fill store) ≡ filled fill (put key_cmp q h store)
put-filled fill q h [] = refl
put-filled fill q h (r ∷ store) = elim (key_cmp q r.0) as (λ o. key_cmp q r.0 ≡ o → put key_cmp q (filled_hist fill h) (filled fill (r ∷ store)) ≡ filled fill (put key_cmp q h (r ∷ store))) [
  | Less ↦ λ e. rw e refl
  | Equal ↦ λ e. rw e refl
  | Greater ↦ λ e. rw e (ap (λ s. (r.0, filled_hist fill r.1) ∷ s) (put-filled fill q h store))
] refl

pub under-filled : (fill : Row) (ts : ℕ) (steps : Steps) → Under ts (map (λ (c : ℕ × Change). (c.0, filled_change fill c.1)) steps) → Under ts steps
under-filled fill ts [] under = tt
under-filled fill ts (c ∷ steps) under = (under.0, under-filled fill ts steps under.1)
