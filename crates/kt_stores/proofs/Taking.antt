-- Where a change goes, and what it leaves.
use Rattle.std.proofs.Common.{◌≡◌, ℕ, zero, suc, ◌+◌, Bool, true, false, List, [], ◌∷◌, map, Option, Some, None, is_some, refl, sym, ap, subst, ◌∙◌, arith}
use Rattle.std.specs.Prelude.{slice_get, unwrap_or, if◌then◌else◌}
use Rattle.std.specs.Option.{option_map}
use Rattle.kt_history.proofs.Beside.{Stays, IsPlaced}
use Rattle.kt_history.specs.declared.operation.RowOp.{RowOp}
use Rattle.kt_history.specs.declared.row_store.Taken.{Taken}
use Rattle.kt_history.specs.declared.target.Kindly.{Kindly}
use Rattle.kt_history.specs.declared.target.Target.{Target}
use Rattle.kt_history.specs.Rows.{Row}
use Rattle.kt_history.specs.Stores.{Store, Under, hist_in, last_row, kind_made, change_by, with_change}
use Rattle.kt_histlaws.specs.Flights.{AllUnder}
use Rattle.kt_histlaws.specs.Histories.{hists, or_else, on_nth}
use Rattle.kt_pool.specs.Contents.{Contents}
use Rattle.kt_stores.specs.Shelf.{Shelved, has_live, last_live, place_of, name_at, holding, FirstIsOpen}
use Rattle.kt_stores.specs.Parts.{shelf_of, AreKept, HasTakenAt, MayTakeAt}
use Rattle.kt_stores.proofs.Beside.{none_some, some_is, read_at, exact_at, on_nth_at, on_nth_same, map-on_nth, map_at, kept_grown}
use Rattle.kt_stores.proofs.Seeking.{seek, position_is, seek_at, seek_none, some_suc}

-- what each store of a shelf holds
abbrev pub held : List Shelved → List Store
held shelf = map (λ (s : Shelved). s.store) shelf

-- ---- where a change goes

pub live_some : (q : List ℕ) (stores : List Store) → is_some (last_live q stores) ≡ is_some (seek (has_live q) stores)
live_some q [] = refl
live_some q (s ∷ stores) = by (last_row (hist_in q s)) (live_some q stores)
  where
    by : (o : Option Row) → is_some (last_live q stores) ≡ is_some (seek (has_live q) stores) → is_some (or_else o (last_live q stores)) ≡ is_some (if is_some o then Some 0 else option_map (λ n. suc n) (seek (has_live q) stores))
    by None more = more ∙ sym (some_suc (seek (has_live q) stores))
    by (Some row) more = refl

pub place_is : (q : List ℕ) (stores : List Store) → place_of q stores ≡ unwrap_or (seek (has_live q) stores) 0
place_is q stores = ap (λ o. unwrap_or o 0) (position_is (has_live q) stores)

-- the store there has the row, if any has
pub there_at : (q : List ℕ) (stores : List Store) (i : ℕ) (s : Store) → i ≡ place_of q stores → slice_get stores i ≡ Some s → has_live q s ≡ is_some (last_live q stores)
there_at q stores i s e at = by (seek (has_live q) stores) refl
  where
    by : (o : Option ℕ) → seek (has_live q) stores ≡ o → has_live q s ≡ is_some (last_live q stores)
    by None found = seek_none (has_live q) stores i s found at ∙ sym (live_some q stores ∙ ap is_some found)
    by (Some j) found =
        let same : i ≡ j = e ∙ place_is q stores ∙ ap (λ o. unwrap_or o 0) found in
        seek_at (has_live q) stores i s (found ∙ ap (λ n. Some n) (sym same)) at ∙ sym (live_some q stores ∙ ap is_some found)

open_first : (shelf : List Shelved) (r : Shelved) → FirstIsOpen shelf → slice_get shelf 0 ≡ Some r → r.closed ≡ false
open_first [] r first at = absurd first
open_first (s ∷ shelf) r first at = ap (λ (s : Shelved). s.closed) (sym (some_is s r at)) ∙ first.0

true_false : {G : Type 0} (b : Bool) → b ≡ true → b ≡ false → G
true_false b t f = cc

-- and else it takes inserts
pub open_at : (q : List ℕ) (shelf : List Shelved) (i : ℕ) (r : Shelved) → i ≡ place_of q (held shelf) → FirstIsOpen shelf → slice_get shelf i ≡ Some r → has_live q r.store ≡ false → r.closed ≡ false
open_at q shelf i r e first at none = by (seek (has_live q) (held shelf)) refl
  where
    by : (o : Option ℕ) → seek (has_live q) (held shelf) ≡ o → r.closed ≡ false
    by None found =
        let same : i ≡ 0 = e ∙ place_is q (held shelf) ∙ ap (λ o. unwrap_or o 0) found in
        open_first shelf r first (ap (slice_get shelf) (sym same) ∙ at)
    by (Some j) found =
        let same : i ≡ j = e ∙ place_is q (held shelf) ∙ ap (λ o. unwrap_or o 0) found in
        true_false (has_live q r.store) (seek_at (has_live q) (held shelf) i r.store (found ∙ ap (λ n. Some n) (sym same)) (map_at i (λ (s : Shelved). s.store) r shelf at)) none

pub may_take : {X : Type 0} (read : X → Contents → Shelved) (i : ℕ) (xs : List X) (pool : Contents) (op : RowOp) → i ≡ place_of op.key (held (shelf_of read pool xs)) → FirstIsOpen (shelf_of read pool xs) → MayTakeAt read i xs pool op
may_take read i xs pool op e first x at none = open_at op.key (shelf_of read pool xs) i (read x pool) e first (read_at read pool i x xs at) none

-- ---- what it leaves

under_at : (ts : ℕ) (q : List ℕ) (i : ℕ) (s : Store) (stores : List Store) → AllUnder ts (hists q stores) → slice_get stores i ≡ Some s → Under ts (hist_in q s).steps
under_at ts q i s [] under at = none_some s at
under_at ts q zero s (z ∷ stores) under at = subst (λ z. Under ts (hist_in q z).steps) (some_is z s at) under.0
under_at ts q (suc i) s (z ∷ stores) under at = under_at ts q i s stores under.1 at

holds_more : (r s : Shelved) (n : ℕ) → r.name ≡ s.name → r.closed ≡ s.closed → r.cells ≡ s.cells + n → r ≡ holding r.store n s
holds_more r s n name closed cells = λ k. record { name = name k; store = r.store; closed = closed k; cells = cells k }

name_made : (kind : Option Kindly) (n : Target) (found : Option Target) → found ≡ Some n → option_map (λ _. n) kind ≡ (if is_some kind then found else None)
name_made None n found e = refl
name_made (Some kind) n found e = sym e

module _ {X : Type 0} (stands : X → Contents → Type 0) (owns : X → Contents → ℕ → Type 0) (read : X → Contents → Shelved) (stays : Stays stands owns read) (placed : IsPlaced stands owns)
    (i : ℕ) (xs ys : List X) (old new : Contents) (ts : ℕ) (op : RowOp) (taken : Taken) (kept : AreKept stands owns read xs old) (t : HasTakenAt stands owns read i xs ys old new ts op taken) where
  here : slice_get (shelf_of read old xs) i ≡ Some (read t.before old)
  here = read_at read old i t.before xs t.at

  stored : slice_get (held (shelf_of read old xs)) i ≡ Some (read t.before old).store
  stored = map_at i (λ (s : Shelved). s.store) (read t.before old) (shelf_of read old xs) here

  exact_after : (read t.after new).store ≡ [] → (read t.after new).cells ≡ 0
  exact_after none =
      let same = (t.one.idle (t.one.has_row none)).0 in
      ap (λ (s : Shelved). s.cells) same ∙ exact_at i (read t.before old) (shelf_of read old xs) here kept.exact (sym (ap (λ (s : Shelved). s.store) same) ∙ none)

  grown : AreKept stands owns read ys new × (shelf_of read new ys ≡ on_nth i (λ _. read t.after new) (shelf_of read old xs))
  grown = subst (λ ys. AreKept stands owns read ys new × (shelf_of read new ys ≡ on_nth i (λ _. read t.after new) (shelf_of read old xs))) (sym t.is)
      (kept_grown stands owns read stays placed old new t.before t.after i xs kept t.at t.one.grown t.one.more t.one.closed exact_after)

  pub kept_after : AreKept stands owns read ys new
  kept_after = grown.0

  cells_after : (read t.after new).cells ≡ (read t.before old).cells + t.one.takes.cells
  cells_after = let more = t.one.more in let u = t.one.takes.used in omega arith

  pub shelf_after : shelf_of read new ys ≡ on_nth i (holding (read t.after new).store t.one.takes.cells) (shelf_of read old xs)
  shelf_after = grown.1 ∙ on_nth_at i (holding (read t.after new).store t.one.takes.cells) (read t.before old) (read t.after new) (shelf_of read old xs) here (holds_more (read t.after new) (read t.before old) t.one.takes.cells t.one.name t.one.closed cells_after)

  pub stores_after : AllUnder ts (hists op.key (held (shelf_of read old xs))) → held (shelf_of read new ys) ≡ on_nth i (with_change op.key ts (change_by op taken.there)) (held (shelf_of read old xs))
  stores_after under =
      ap held grown.1 ∙ map-on_nth i (λ (s : Shelved). s.store) (read t.after new) (shelf_of read old xs)
      ∙ on_nth_at i (with_change op.key ts (change_by op taken.there)) (read t.before old).store (read t.after new).store (held (shelf_of read old xs)) stored (t.one.changed (under_at ts op.key i (read t.before old).store (held (shelf_of read old xs)) under stored))

  pub named_after : taken.target ≡ (if is_some (kind_made op.kind taken.there) then name_at i (shelf_of read old xs) else None)
  named_after = t.one.named ∙ name_made (kind_made op.kind taken.there) (read t.before old).name (name_at i (shelf_of read old xs)) (ap (option_map (λ (s : Shelved). s.name)) here)

  pub idle_after : taken.target ≡ None → (new ≡ old) × (shelf_of read new ys ≡ shelf_of read old xs)
  idle_after none =
      let same = t.one.idle none in
      (same.1, grown.1 ∙ ap (λ s. on_nth i (λ _. s) (shelf_of read old xs)) same.0 ∙ on_nth_same i (read t.before old) (shelf_of read old xs) here)

  pub there_after : i ≡ place_of op.key (held (shelf_of read old xs)) → taken.there ≡ is_some (last_live op.key (held (shelf_of read old xs)))
  there_after e = t.one.there ∙ there_at op.key (held (shelf_of read old xs)) i (read t.before old).store e stored
