-- A row of a flying write is applied.
use Rattle.std.proofs.Common.{◌≡◌, ◌≤◌, ◌<◌, ◌-◌, ℕ, suc, List, [], ◌∷◌, Some, None, refl, sym, ap, ◌∙◌, subst, arith, cond, true, false, map, ◌⊎◌, inl, inr}
use Rattle.std.specs.Prelude.{is_some}
use Rattle.kt_history.specs.declared.change.Change.{Change}
use Rattle.kt_history.specs.declared.operation.RowOp.{RowOp}
use Rattle.kt_history.specs.Rows.{Row}
use Rattle.kt_history.specs.Operations.{effect}
use Rattle.kt_histlaws.specs.Histories.{first_some, AtMostOne, Alone, nth_option}
use Rattle.kt_history.specs.Stores.{Hist, row_of, step_of, Under}
use Rattle.kt_histlaws.specs.Flights.{AllUnder}
use Rattle.kt_histlaws.proofs.OneKey.{alone_of_one, alone_of_none, length_map, none_left, none_right}
use Rattle.kt_histlaws.proofs.Applying.{all_under, none_under, rows-settled}
use Rattle.kt_content.specs.Places.{Super, Place, memory, same_place, Held, Moves, held_in, standing, live_in, or_live, row_before, moved}
use Rattle.kt_content.specs.KeyOps.{to_live, to_place}
use Rattle.kt_content.specs.Content.{Shown}
use Rattle.kt_content.specs.MoreOps.{PlacesDiffer, BeginsInMemory}
use Rattle.kt_content.specs.InMemory.{Name, Stores, same_name, stands_for, is_at, group, hist_at, HasPlace, Mirrors, hist_of_name, joined_name, index_in}
use Rattle.kt_content.specs.Applying.{an_applied_change_mirrors, an_operation_without_a_change_mirrors}
use Rattle.kt_content.proofs.MoreOps.{none_in, place_itself, place_in, row_in, live_is, before_is, row_is}
use Rattle.kt_content.proofs.Names.{none_there}
use Rattle.kt_content.proofs.InMemory.{is_name, row_there_is, live_places, index_long, both_mirror}
use Rattle.kt_content.proofs.Options.{or_none}

live_has : (ts : ℕ) (p : Place) (row : Row) (held : Held) → live_in (standing ts held) ≡ Some (p, row) → HasPlace p held
live_has ts p row [] h = absurd (cc)
live_has ts p row (h ∷ held) is = elim (row_before ts h.1) as (λ o. or_live h.0 o (live_in (standing ts held)) ≡ Some (p, row) → HasPlace p (h ∷ held)) [
  | None ↦ λ e. inr (live_has ts p row held e)
  | Some r ↦ λ e. inl (let same : h.0 ≡ p = ap place_in e in ap (same_place p) same ∙ place_itself p)
] is

memory_has : (held : Held) → BeginsInMemory held → HasPlace memory held
memory_has [] b = absurd b
memory_has (h ∷ held) b = inl (ap (same_place memory) b)

-- the row of a store at its place in the group
nth_in : (t : ℕ) (super : Super) (p : Place) (n : Name) (h : Hist) (stores : Stores) → hist_of_name n stores ≡ Some h → stands_for super n ≡ Some p → nth_option (index_in super p n stores) (map (row_of t) (group super p stores)) ≡ row_of t h
nth_in t super p n h [] is at = absurd (let e : None ≡ Some h = is in cc)
nth_in t super p n h (x ∷ stores) is at = elim (same_name n x.0) as (λ b. same_name n x.0 ≡ b → cond b (Some x.1) (hist_of_name n stores) ≡ Some h
    → nth_option (cond b 0 (cond (is_at p (stands_for super x.0)) (suc (index_in super p n stores)) (index_in super p n stores))) (map (row_of t) (cond (is_at p (stands_for super x.0)) (x.1 ∷ group super p stores) (group super p stores))) ≡ row_of t h) [
      | true ↦ λ e is.
          let here : x.1 ≡ h = cc in
          let there : is_at p (stands_for super x.0) ≡ true = ap (λ m. is_at p (stands_for super m)) (sym (is_name n x.0 e)) ∙ ap (is_at p) at ∙ place_itself p in
          subst (λ b. nth_option 0 (map (row_of t) (cond b (x.1 ∷ group super p stores) (group super p stores))) ≡ row_of t h) (sym there) (ap (row_of t) here)
      | false ↦ λ e is.
          let rest = nth_in t super p n h stores is at in
          elim (is_at p (stands_for super x.0)) as (λ b. nth_option (cond b (suc (index_in super p n stores)) (index_in super p n stores)) (map (row_of t) (cond b (x.1 ∷ group super p stores) (group super p stores))) ≡ row_of t h) [
            | true ↦ rest
            | false ↦ rest
          ]
    ] refl is

module _ (fill : Row) (a ts : ℕ) (super : Super) (stores : Stores) (held : Held) (whole : Hist) (op : RowOp)
    (d : PlacesDiffer held) (b : BeginsInMemory held) (m : Mirrors a super stores held) (s : Shown a held whole) (un : Under ts whole.steps) (lt : a < ts) where
  live : row_in (live_in (standing ts held)) ≡ row_before ts whole
  live = row_is fill a ts held whole op d b s un lt

  pub no_moves : (effect fill op.kind op.cells (row_before ts whole)).0 ≡ None → to_live fill op (live_in (standing ts held)) ≡ []
  no_moves none = live_is fill op (live_in (standing ts held)) ∙ ap (λ r. to_place (place_in (live_in (standing ts held))) (effect fill op.kind op.cells r).0) live ∙ ap (to_place (place_in (live_in (standing ts held)))) none

  pub no_change : (effect fill op.kind op.cells (row_before ts whole)).0 ≡ None → Mirrors a super stores (moved ts (to_live fill op (live_in (standing ts held))) held)
  no_change none = subst (λ (ms : Moves). Mirrors a super stores (moved ts ms held)) (sym (no_moves none)) m

  module _ (n : Name) (h : Hist) (p : Place) (c : Change) (is : hist_of_name n stores ≡ Some h) (at : stands_for super n ≡ Some p) (one : AtMostOne (map (row_of (ts - 1)) (group super p stores)))
      (made : (effect fill op.kind op.cells (row_before ts whole)).0 ≡ Some c) where
    abbrev hs : List Hist
    hs = group super p stores

    abbrev i : ℕ
    i = index_in super p n stores

    -- the content has no change of the key from ts on, and so has the group
    none_from : (t : ℕ) → ts ≤ t → first_some (map (step_of t) (held_in held)) ≡ None
    none_from t le = s.shows.steps t (omega arith) ∙ none_under ts t whole.steps un le

    held_under : (t : ℕ) (f : Held) → first_some (map (step_of t) (held_in f)) ≡ None → step_of t (hist_at p f) ≡ None
    held_under t [] e = refl
    held_under t (x ∷ f) e = elim (same_place p x.0) as (λ b. step_of t (cond b x.1 (hist_at p f)) ≡ None) [
      | true ↦ none_left (step_of t x.1) (first_some (map (step_of t) (held_in f))) e
      | false ↦ held_under t f (none_right (step_of t x.1) (first_some (map (step_of t) (held_in f))) e)
    ]

    group_none : (t : ℕ) → ts ≤ t → first_some (map (step_of t) hs) ≡ None
    group_none t le = (m p).steps t (omega arith) ∙ or_none (step_of t (hist_at p held)) ∙ held_under t held (none_from t le)

    group_under : AllUnder ts hs
    group_under = all_under ts hs group_none

    alone_before : ((is_some (row_before ts h) ≡ true) ⊎ ((row_before ts whole ≡ None) × (p ≡ memory))) → Alone i (map (row_of (ts - 1)) hs)
    alone_before (inl there) = alone_of_one i (map (row_of (ts - 1)) hs) one (ap is_some (nth_in (ts - 1) super p n h stores is at) ∙ ap is_some (sym (before_is ts h (omega arith))) ∙ there)
    alone_before (inr nowhere) =
        let none : live_in (standing ts held) ≡ None = none_in (live_in (standing ts held)) (live ∙ nowhere.0) in
        let here : row_of (ts - 1) (hist_at p held) ≡ None = sym (before_is ts (hist_at p held) (omega arith)) ∙ sym (row_there_is ts p held) ∙ none_there ts p held none in
        alone_of_none i (map (row_of (ts - 1)) hs) (subst (λ k. i < k) (sym (length_map (row_of (ts - 1)) hs)) (index_long super p n h stores is at))
        ((m p).rows (ts - 1) (omega arith) ∙ or_none (row_of (ts - 1) (hist_at p held)) ∙ here)

    alone_from : ((is_some (row_before ts h) ≡ true) ⊎ ((row_before ts whole ≡ None) × (p ≡ memory))) → (t : ℕ) → ts ≤ t → Alone i (map (row_of t) hs)
    alone_from o t le = subst (Alone i) (rows-settled ts (ts - 1) t hs group_under (omega arith) (omega arith)) (alone_before o)

    -- the move of the operation is the change, to that place
    pub moves : ((is_some (row_before ts h) ≡ true) ⊎ ((row_before ts whole ≡ None) × (p ≡ memory))) → (to_live fill op (live_in (standing ts held)) ≡ (p, c) ∷ []) × HasPlace p held
    moves (inl there) =
        let found = live_places a ts super stores held whole n h p d m s lt is at there in
        let row : Some found.0 ≡ row_before ts whole = sym (ap row_in found.1) ∙ live in
        (ap (to_live fill op) found.1 ∙ ap (λ r. to_place p (effect fill op.kind op.cells r).0) row ∙ ap (to_place p) made, live_has ts p found.0 held found.1)
    moves (inr nowhere) =
        let none : live_in (standing ts held) ≡ None = none_in (live_in (standing ts held)) (live ∙ nowhere.0) in (
          ap (to_live fill op) none ∙ ap (λ r. to_place memory (effect fill op.kind op.cells r).0) (sym nowhere.0) ∙ ap (to_place memory) made ∙ ap (λ q. (q, c) ∷ []) (sym nowhere.1),
          subst (λ (q : Place). HasPlace q held) (sym nowhere.1) (memory_has held b),
        )

    pub changed : ((is_some (row_before ts h) ≡ true) ⊎ ((row_before ts whole ≡ None) × (p ≡ memory))) → Mirrors a super (joined_name n ts c stores) (moved ts (to_live fill op (live_in (standing ts held))) held)
    changed o = let mv = moves o in subst (λ (ms : Moves). Mirrors a super (joined_name n ts c stores) (moved ts ms held)) (sym mv.0) (both_mirror a ts super stores held n p c h m lt at is mv.1 (alone_from o) (group_none ts (omega arith)))

pub applied_mirrors : an_applied_change_mirrors
applied_mirrors fill a ts super stores held whole n h p op c d b m s un lt is at one o made = changed fill a ts super stores held whole op d b m s un lt n h p c is at one made o

pub unchanged_mirrors : an_operation_without_a_change_mirrors
unchanged_mirrors fill a ts super stores held whole op d b m s un lt none = no_change fill a ts super stores held whole op d b m s un lt none
