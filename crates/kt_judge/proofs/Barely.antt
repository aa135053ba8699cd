-- Keys of which nothing became yet, and the rows at a mark under them.
use Rattle.std.proofs.Common.{◌≡◌, ℕ, zero, suc, ◌+◌, ◌-◌, ◌<◌, ◌≤◌, List, [], ◌∷◌, ◌++◌, Some, None, refl, true, false, Bool, ◌&&◌, cond, sym, ap, ◌∙◌, subst, arith, length, take, get_or, inl, inr}
use Rattle.std.specs.Prelude.{nat_le, slice_get}
use Rattle.std.specs.List.{AllByRecursion}
use Rattle.std.specs.Option.{option_map}
use Rattle.std.specs.Ordering.{is_lt, is_eq, eq_by_cmp}
use Rattle.std.specs.FinMap.Entries.{find, below_all, is_sorted}
use Rattle.std.proofs.lemmas.Bool.{and_parts, cases_eq}
use Rattle.std.proofs.lemmas.Bool.Decides.{nat_tests}
use Rattle.std.proofs.lemmas.Cmp.{nat_list_cmp_total}
use Rattle.std.proofs.lemmas.List.{take_more, map-append}
use Rattle.std.proofs.lemmas.Option.{slice_get-get_or}
use Rattle.kt_history.specs.declared.change.Change.{Change}
use Rattle.kt_history.specs.declared.change.Change.TheVariants.{Ins}
use Rattle.kt_history.specs.Rows.{Row, Rows, Changes, AreApart, changed, key_cmp}
use Rattle.kt_history.specs.History.{row_after}
use Rattle.kt_history.proofs.KeyLaws.{find-changed}
use Rattle.kt_judge.specs.Tables.{Versions, Entries, AreOrdered, row_of, row_from, versions_in, IsTableUpTo, IsPut, Shows, with_changes}
use Rattle.kt_judge.specs.Bare.{is_above, AreBare, HasRows, inserts}
use Rattle.kt_judge.proofs.Placed.{less, sorted_at}
use Rattle.kt_judge.proofs.Shown.{shows_put, shows_same, changes-append}

-- ---- one key more

below_push : (x k : List ℕ) (es : Entries) → below_all key_cmp x es ≡ true → is_lt (key_cmp x k) ≡ true → below_all key_cmp x (es ++ (k, []) ∷ []) ≡ true
below_push x k [] h lt = ap (λ b. b && true) lt
below_push x k (e ∷ es) h lt = ap (λ b. b && below_all key_cmp x (es ++ (k, []) ∷ [])) (and_parts _ _ h).0 ∙ below_push x k es (and_parts _ _ h).1 lt

sorted_push : (k : List ℕ) (es : Entries) → is_sorted key_cmp es ≡ true → ((i : ℕ) (d : List ℕ × Versions) → i < length es → is_lt (key_cmp (get_or es i d).0 k) ≡ true) → is_sorted key_cmp (es ++ (k, []) ∷ []) ≡ true
sorted_push k [] h above = refl
sorted_push k (e ∷ es) h above =
    ap (λ b. b && is_sorted key_cmp (es ++ (k, []) ∷ [])) (below_push e.0 k es (and_parts _ _ h).0 (above zero e (omega arith)))
    ∙ sorted_push k es (and_parts _ _ h).1 (λ i d lt. above (suc i) d (omega arith))

-- what is above the last is above all
above_all : (k : List ℕ) (es : Entries) → is_sorted key_cmp es ≡ true → is_above (slice_get es (length es - 1)) k ≡ true → (i : ℕ) (d : List ℕ × Versions) → i < length es → is_lt (key_cmp (get_or es i d).0 k) ≡ true
above_all k es h above i d lt =
    let last : is_lt (key_cmp (get_or es (length es - 1) d).0 k) ≡ true = subst (λ o. is_above o k ≡ true) (slice_get-get_or es (length es - 1) d (omega arith)) above in
    elim (cases_eq i (length es - 1)) [
      | inl e ↦ subst (λ (n : ℕ). is_lt (key_cmp (get_or es n d).0 k) ≡ true) (sym e) last
      | inr ne ↦ ap is_lt (nat_list_cmp_total.trans (get_or es i d).0 (get_or es (length es - 1) d).0 k (sorted_at es i (length es - 1) d h (omega arith) (omega arith)) (less _ last))
    ]

bare_push : (k : List ℕ) (v : Versions) (es : Entries) → v ≡ [] → AllByRecursion (λ (e : List ℕ × Versions). e.1 ≡ []) es → AllByRecursion (λ (e : List ℕ × Versions). e.1 ≡ []) (es ++ (k, v) ∷ [])
bare_push k v [] none h = (none, tt)
bare_push k v (e ∷ es) none h = (h.0, bare_push k v es none h.1)

bare_more : (k : List ℕ) (v : Versions) (es : Entries) → AreBare es → v ≡ [] → is_above (slice_get es (length es - 1)) k ≡ true → AreBare (es ++ (k, v) ∷ [])
bare_more k v es bare none above = record {
  rising = subst (λ (w : Versions). is_sorted key_cmp (es ++ (k, w) ∷ []) ≡ true) (sym none) (sorted_push k es bare.rising (above_all k es bare.rising above));
  bare = bare_push k v es none bare.bare;
}

-- the next of some keys, which is above the last, is put behind it
pub bare_next : (k q : List ℕ) (v : Versions) (found es new : Entries) (above : Bool) → AreBare es → q ≡ k → v ≡ [] → found ≡ es → above ≡ is_above (slice_get found (length found - 1)) k → above ≡ true → new ≡ es ++ (q, v) ∷ [] → AreBare new
bare_next k q v found es new above bare copied none same told holds pushed =
    let last : is_above (slice_get es (length es - 1)) k ≡ true = subst (λ (fs : Entries). is_above (slice_get fs (length fs - 1)) k ≡ true) same (sym told ∙ holds) in
    subst AreBare (sym pushed) (bare_more q v es bare none (subst (λ (p : List ℕ). is_above (slice_get es (length es - 1)) p ≡ true) (sym copied) last))

-- ---- rows under bare keys

nothing_ordered : (v : Versions) → v ≡ [] → AreOrdered v
nothing_ordered v none = subst AreOrdered (sym none) (λ i j d le lt. absurd (omega arith))

all_ordered : (es : Entries) → AllByRecursion (λ (e : List ℕ × Versions). e.1 ≡ []) es → AllByRecursion (λ (e : List ℕ × Versions). AreOrdered e.1) es
all_ordered [] h = tt
all_ordered (e ∷ es) h = (nothing_ordered e.1 h.0, all_ordered es h.1)

nothing_later : (es : Entries) → AllByRecursion (λ (e : List ℕ × Versions). e.1 ≡ []) es → IsTableUpTo 0 es
nothing_later [] h = tt
nothing_later (e ∷ es) h = (subst (λ (v : Versions). AllByRecursion (λ w. w.0 ≤ 0) v) (sym h.0) tt, nothing_later es h.1)

no_row : (es : Entries) (key : List ℕ) (t : ℕ) → AllByRecursion (λ (e : List ℕ × Versions). e.1 ≡ []) es → row_of es key t ≡ None
no_row [] key t h = refl
no_row (e ∷ es) key t h = elim (eq_by_cmp key_cmp key e.0) as (λ b. row_from None t (versions_in (cond b (Some e.1) (find key_cmp key es))) ≡ None) [
  | true ↦ ap (row_from None t) h.0
  | false ↦ no_row es key t h.1
]

from_start : (t : ℕ) → nat_le 0 t ≡ true
from_start t = grind (arith, nat_tests)

pub bare_has : (es : Entries) → AreBare es → HasRows [] es
bare_has es bare = record {
  table = record { rising = bare.rising; ordered = all_ordered es bare.bare };
  up_to = nothing_later es bare.bare;
  shows = λ key t. no_row es key t bare.bare ∙ nothing key t;
}
  where
    nothing : (key : List ℕ) (t : ℕ) → None ≡ find key_cmp key (with_changes 0 [] (λ u. []) t)
    nothing key t = ap (λ b. find key_cmp key (cond {A = Rows} b [] [])) (sym (from_start t))

pub has_more : (rows : Rows) (k : ℕ) (r d : List ℕ × Row) (key : List ℕ) (change : Change) (es new : Entries) → k < length rows → r ≡ get_or rows k d → key ≡ r.0 → change ≡ Ins r.1 → HasRows (take k rows) es → IsPut 0 change key es new → HasRows (take (k + 1) rows) new
has_more rows k r d key change es new below is same made has put =
    let ins : Change = Ins r.1 in
    let put' : IsPut 0 (Ins r.1) r.0 es new = subst (λ (q : List ℕ). IsPut 0 (Ins r.1) q es new) same (subst (λ (c : Change). IsPut 0 c key es new) made put) in
    let one = shows_put 0 (Ins r.1) r.0 es new (with_changes 0 (inserts (take k rows)) (λ t. [])) put' has.shows in
    let more : inserts (take k rows) ++ (r.0, Ins r.1) ∷ [] ≡ inserts (take (k + 1) rows) =
    sym (map-append (λ (x : List ℕ × Row). (x.0, Ins x.1)) (take k rows) (r ∷ [])) ∙ ap inserts (ap (λ (x : List ℕ × Row). take k rows ++ x ∷ []) is ∙ sym (take_more rows k d below)) in
    record {
      table = put.table;
      up_to = put.up_to;
      shows = subst (λ (cs : Changes). Shows new (with_changes 0 cs (λ t. []))) more
          (shows_same new (with_changes 0 ((r.0, Ins r.1) ∷ []) (with_changes 0 (inserts (take k rows)) (λ t. []))) (with_changes 0 (inserts (take k rows) ++ (r.0, Ins r.1) ∷ []) (λ t. [])) (changes-append 0 (inserts (take k rows)) ((r.0, Ins r.1) ∷ []) (λ t. [])) one);
    }

-- ---- inserted rows are the rows

find-inserts : (q : List ℕ) (rows : Rows) → find key_cmp q (inserts rows) ≡ option_map Ins (find key_cmp q rows)
find-inserts q [] = refl
find-inserts q (r ∷ rows) = elim (eq_by_cmp key_cmp q r.0) as (λ b. cond b (Some (Ins r.1)) (find key_cmp q (inserts rows)) ≡ option_map Ins (cond b (Some r.1) (find key_cmp q rows))) [
  | true ↦ refl
  | false ↦ find-inserts q rows
]

none_below : (q : List ℕ) (rows : Rows) → below_all key_cmp q rows ≡ true → find key_cmp q rows ≡ None
none_below q [] h = refl
none_below q (r ∷ rows) h = ap (λ o. cond (is_eq o) (Some r.1) (find key_cmp q rows)) (less _ (and_parts _ _ h).0) ∙ none_below q rows (and_parts _ _ h).1

apart-inserts : (rows : Rows) → is_sorted key_cmp rows ≡ true → AreApart (inserts rows)
apart-inserts [] h = tt
apart-inserts (r ∷ rows) h = (find-inserts r.0 rows ∙ ap (option_map Ins) (none_below r.0 rows (and_parts _ _ h).0), apart-inserts rows (and_parts _ _ h).1)

pub inserted : (q : List ℕ) (rows : Rows) (t : ℕ) → is_sorted key_cmp rows ≡ true → find key_cmp q (with_changes 0 (inserts rows) (λ u. []) t) ≡ find key_cmp q rows
inserted q rows t h =
    ap (λ b. find key_cmp q (cond b (changed (inserts rows) []) [])) (from_start t)
    ∙ find-changed q (inserts rows) [] (apart-inserts rows h)
    ∙ ap (λ o. row_after o None) (find-inserts q rows)
    ∙ elim (find key_cmp q rows) as (λ o. row_after (option_map Ins o) None ≡ o) [ None ↦ refl | Some r ↦ refl ]
