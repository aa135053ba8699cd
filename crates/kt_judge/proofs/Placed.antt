-- Keys in order: where one stands, and the row that it has.
use Rattle.std.proofs.Common.{◌≡◌, ℕ, zero, suc, ◌<◌, ◌≤◌, List, [], ◌∷◌, Some, None, Ok, Err, Result, refl, true, false, Bool, ◌&&◌, cond, sym, ap, ◌∙◌, subst, arith, length, get_or, T}
use Rattle.std.specs.Prelude.{nat_le, slice_set, slice_get}
use Rattle.std.proofs.lemmas.Option.{get_or_from_slice_get, slice_get-get_or}
use Rattle.std.specs.List.Sorted.{IsPartitionedBy}
use Rattle.std.specs.Ordering.{is_lt, is_eq, eq_by_cmp, ordering_reverse}
use Rattle.std.specs.declared.cmp.Ordering.{Ordering}
use Rattle.std.specs.declared.cmp.Ordering.TheVariants.{Less, Equal, Greater}
use Rattle.std.specs.List.{AllByRecursion, insert}
use Rattle.std.specs.FinMap.{nat_cmp-IsAntisymmetric, slice_cmp-IsAntisymmetric}
use Rattle.std.specs.FinMap.Entries.{by_order, find, put, below_all, is_sorted, find-put, find_tied, is_sorted-put}
use Rattle.std.proofs.lemmas.Cmp.{nat_list_cmp_total}
use Rattle.std.proofs.lemmas.Bool.{and_parts, cases_eq}
use Rattle.std.proofs.Common.{inl, inr}
use Rattle.kt_history.specs.declared.change.Change.{Change}
use Rattle.kt_history.specs.Rows.{apply, key_cmp}
use Rattle.kt_history.specs.Places.{place_of, one_later}
use Rattle.kt_history.proofs.PlaceLaws.{Says, says_at}
use Rattle.kt_judge.specs.Tables.{Versions, Entries, AreOrdered, AreUpTo, IsTable, IsTableUpTo, IsPut, versions_in, row_from, row_of, is_of_key}
use Rattle.kt_judge.proofs.Dated.{IsChanged}

-- ---- orders

pub less : (o : Ordering) → is_lt o ≡ true → o ≡ Less
less Less h = refl
less Equal h = cc
less Greater h = cc

pub equal : (o : Ordering) → is_eq o ≡ true → o ≡ Equal
equal Less h = cc
equal Equal h = refl
equal Greater h = cc

turned : (a q : List ℕ) → key_cmp q a ≡ ordering_reverse (key_cmp a q)
turned a q = nat_list_cmp_total.antisymm q a

greater : (a q : List ℕ) → is_lt (key_cmp a q) ≡ true → key_cmp q a ≡ Greater
greater a q h = turned a q ∙ ap ordering_reverse (less _ h)

-- what is neither below nor the key is above it
above : (a q : List ℕ) → is_lt (key_cmp a q) ≡ false → is_eq (key_cmp q a) ≡ false → key_cmp q a ≡ Less
above a q ge ne = by (key_cmp q a) (key_cmp a q) (turned a q) ge ne
  where
    by : (o p : Ordering) → o ≡ ordering_reverse p → is_lt p ≡ false → is_eq o ≡ false → o ≡ Less
    by Less p e ge ne = refl
    by Equal p e ge ne = cc
    by Greater Less e ge ne = cc
    by Greater Equal e ge ne = cc
    by Greater Greater e ge ne = cc

-- ---- sorted entries

below_at : (x : List ℕ) (es : Entries) (k : ℕ) (d : List ℕ × Versions) → below_all key_cmp x es ≡ true → k < length es → key_cmp x (get_or es k d).0 ≡ Less
below_at x [] k d h lt = absurd (omega arith)
below_at x (e ∷ es) zero d h lt = less _ (and_parts _ _ h).0
below_at x (e ∷ es) (suc k) d h lt = below_at x es k d (and_parts _ _ h).1 (omega arith)

pub sorted_at : (es : Entries) (i j : ℕ) (d : List ℕ × Versions) → is_sorted key_cmp es ≡ true → i < j → j < length es → key_cmp (get_or es i d).0 (get_or es j d).0 ≡ Less
sorted_at [] i j d h lt within = absurd (omega arith)
sorted_at (e ∷ es) i zero d h lt within = absurd (omega arith)
sorted_at (e ∷ es) zero (suc j) d h lt within = below_at e.0 es j d (and_parts _ _ h).0 (omega arith)
sorted_at (e ∷ es) (suc i) (suc j) d h lt within = sorted_at es i j d (and_parts _ _ h).1 (omega arith) (omega arith)

below_too : (a b q : List ℕ) → key_cmp a b ≡ Less → is_lt (key_cmp b q) ≡ true → is_lt (key_cmp a q) ≡ true
below_too a b q le lt = ap is_lt (nat_list_cmp_total.trans a b q le (less _ lt))

pub parts_below : (es : Entries) (q : List ℕ) → is_sorted key_cmp es ≡ true → IsPartitionedBy (λ (e : List ℕ × Versions). is_lt (key_cmp e.0 q)) es
parts_below es q h i j d le within lt = elim (cases_eq i j) [
  | inl e ↦ subst (λ (k : ℕ). is_lt (key_cmp (get_or es k d).0 q) ≡ true) (sym e) lt
  | inr ne ↦ below_too (get_or es i d).0 (get_or es j d).0 q (sorted_at es i j d h (omega arith) within) lt
]

-- ---- the place of a key behind those that are below it

pub place_end : (q : List ℕ) (es : Entries) → ((k : ℕ) (d : List ℕ × Versions) → k < length es → is_lt (key_cmp (get_or es k d).0 q) ≡ true) → place_of key_cmp q es ≡ Err (length es)
place_end q [] h = refl
place_end q (e ∷ es) h =
    ap (λ o. by_order o (Err 0) (Ok 0) (one_later (place_of key_cmp q es))) (greater e.0 q (h zero e (omega arith)))
    ∙ ap one_later (place_end q es (λ k d lt. h (suc k) d (omega arith)))

pub place_here : (q : List ℕ) (es : Entries) (n : ℕ) (d : List ℕ × Versions) → n < length es → ((k : ℕ) (d : List ℕ × Versions) → k < n → is_lt (key_cmp (get_or es k d).0 q) ≡ true) → is_eq (key_cmp q (get_or es n d).0) ≡ true → place_of key_cmp q es ≡ Ok n
place_here q [] n d lt h e = absurd (omega arith)
place_here q (x ∷ es) zero d lt h e = ap (λ o. by_order o (Err 0) (Ok 0) (one_later (place_of key_cmp q es))) (equal _ e)
place_here q (x ∷ es) (suc n) d lt h e =
    ap (λ o. by_order o (Err 0) (Ok 0) (one_later (place_of key_cmp q es))) (greater x.0 q (h zero x (omega arith)))
    ∙ ap one_later (place_here q es n d (omega arith) (λ k d below. h (suc k) d (omega arith)) e)

pub place_gap : (q : List ℕ) (es : Entries) (n : ℕ) (d : List ℕ × Versions) → n < length es → ((k : ℕ) (d : List ℕ × Versions) → k < n → is_lt (key_cmp (get_or es k d).0 q) ≡ true) → is_lt (key_cmp (get_or es n d).0 q) ≡ false → is_eq (key_cmp q (get_or es n d).0) ≡ false → place_of key_cmp q es ≡ Err n
place_gap q [] n d lt h ge ne = absurd (omega arith)
place_gap q (x ∷ es) zero d lt h ge ne = ap (λ o. by_order o (Err 0) (Ok 0) (one_later (place_of key_cmp q es))) (above x.0 q ge ne)
place_gap q (x ∷ es) (suc n) d lt h ge ne =
    ap (λ o. by_order o (Err 0) (Ok 0) (one_later (place_of key_cmp q es))) (greater x.0 q (h zero x (omega arith)))
    ∙ ap one_later (place_gap q es n d (omega arith) (λ k d below. h (suc k) d (omega arith)) ge ne)

-- ---- a key whose entry is at a place

pub entry_of : (q : List ℕ) (es : Entries) (n : ℕ) → is_of_key q (slice_get es n) ≡ true → (n < length es) × ((d : List ℕ × Versions) → key_cmp q (get_or es n d).0 ≡ Equal)
entry_of q [] zero h = cc
entry_of q [] (suc n) h = cc
entry_of q (e ∷ es) zero h = (omega arith, λ d. equal _ h)
entry_of q (e ∷ es) (suc n) h = let rest = entry_of q es n h in (omega (arith, rest.0), rest.1)

pub place_known : (q : List ℕ) (es : Entries) (n : ℕ) → is_sorted key_cmp es ≡ true → is_of_key q (slice_get es n) ≡ true → place_of key_cmp q es ≡ Ok n
place_known q [] n sorted h = absurd (omega (arith, (entry_of q [] n h).0))
place_known q (x ∷ es) n sorted h = place_here q (x ∷ es) n x there.0 below (ap is_eq (there.1 x))
  where
    there : (n < length (x ∷ es)) × ((d : List ℕ × Versions) → key_cmp q (get_or (x ∷ es) n d).0 ≡ Equal)
    there = entry_of q (x ∷ es) n h

    below : (k : ℕ) (d : List ℕ × Versions) → k < n → is_lt (key_cmp (get_or (x ∷ es) k d).0 q) ≡ true
    below k d lt = ap is_lt (subst (λ (p : List ℕ). key_cmp (get_or (x ∷ es) k d).0 p ≡ Less) (sym (slice_cmp-IsAntisymmetric nat_cmp-IsAntisymmetric q (get_or (x ∷ es) n d).0 (there.1 d))) (sorted_at (x ∷ es) k n d sorted lt there.0))

-- ---- what the place says of the key

-- the versions at a place, and none at a gap
abbrev pub Finds : List ℕ → Entries → Result ℕ ℕ → Type 0
Finds q es (Ok i) = (i < length es) × ((d : List ℕ × Versions) → find key_cmp q es ≡ Some (get_or es i d).1)
Finds q es (Err i) = find key_cmp q es ≡ None

later_finds : (q : List ℕ) (e : List ℕ × Versions) (es : Entries) (r : Result ℕ ℕ) → key_cmp q e.0 ≡ Greater → Finds q es r → Finds q (e ∷ es) (one_later r)
later_finds q e es (Ok i) h f = (omega (arith, f.0), λ d. ap (λ o. cond (is_eq o) (Some e.1) (find key_cmp q es)) h ∙ f.1 d)
later_finds q e es (Err i) h f = ap (λ o. cond (is_eq o) (Some e.1) (find key_cmp q es)) h ∙ f

none_below : (q : List ℕ) (es : Entries) → below_all key_cmp q es ≡ true → find key_cmp q es ≡ None
none_below q [] h = refl
none_below q (e ∷ es) h = ap (λ o. cond (is_eq o) (Some e.1) (find key_cmp q es)) (less _ (and_parts _ _ h).0) ∙ none_below q es (and_parts _ _ h).1

below_lower : (x y : List ℕ) (es : Entries) → key_cmp x y ≡ Less → below_all key_cmp y es ≡ true → below_all key_cmp x es ≡ true
below_lower x y [] h b = refl
below_lower x y (e ∷ es) h b =
    let here : is_lt (key_cmp x e.0) ≡ true = ap is_lt (nat_list_cmp_total.trans x y e.0 h (less _ (and_parts _ _ b).0)) in
    ap (λ v. v && below_all key_cmp x es) here ∙ below_lower x y es h (and_parts _ _ b).1

pub place_finds : (q : List ℕ) (es : Entries) → is_sorted key_cmp es ≡ true → Finds q es (place_of key_cmp q es)
place_finds q [] h = refl
place_finds q (e ∷ es) h =
    elim (key_cmp q e.0) as (λ o. key_cmp q e.0 ≡ o → Finds q (e ∷ es) (by_order o (Err 0) (Ok 0) (one_later (place_of key_cmp q es)))) [
      | Less ↦ λ lt. ap (λ o. cond (is_eq o) (Some e.1) (find key_cmp q es)) lt ∙ none_below q es (below_lower q e.0 es lt (and_parts _ _ h).0)
      | Equal ↦ λ eq. (omega arith, λ d. ap (λ o. cond (is_eq o) (Some e.1) (find key_cmp q es)) eq)
      | Greater ↦ λ gt. later_finds q e es (place_of key_cmp q es) gt (place_finds q es (and_parts _ _ h).1)
    ] refl

-- ---- what the place of a key tells

pub found_at : (q : List ℕ) (es : Entries) (r : Result ℕ ℕ) (i : ℕ) → is_sorted key_cmp es ≡ true → r ≡ place_of key_cmp q es → r ≡ Ok i → (i < length es) × ((d : List ℕ × Versions) → find key_cmp q es ≡ Some (get_or es i d).1)
found_at q es r i sorted is ok = subst (Finds q es) (sym is ∙ ok) (place_finds q es sorted)

pub missing_at : (q : List ℕ) (es : Entries) (r : Result ℕ ℕ) (i : ℕ) → is_sorted key_cmp es ≡ true → r ≡ place_of key_cmp q es → r ≡ Err i → find key_cmp q es ≡ None
missing_at q es r i sorted is err = subst (Finds q es) (sym is ∙ err) (place_finds q es sorted)

-- ---- versions put under a key

all_put : (P : Versions → Type 0) (q : List ℕ) (v : Versions) (es : Entries) → P v → AllByRecursion (λ (e : List ℕ × Versions). P e.1) es → AllByRecursion (λ (e : List ℕ × Versions). P e.1) (put key_cmp q v es)
all_put P q v [] p h = (p, tt)
all_put P q v (e ∷ es) p h =
    elim (key_cmp q e.0) as (λ o. key_cmp q e.0 ≡ o → AllByRecursion (λ (e : List ℕ × Versions). P e.1) (put key_cmp q v (e ∷ es))) [
      | Less ↦ λ o. rw o (p, h)
      | Equal ↦ λ o. rw o (p, h.1)
      | Greater ↦ λ o. rw o (h.0, all_put P q v es p h.1)
    ] refl

pub all_in : (P : Versions → Type 0) (q : List ℕ) (es : Entries) → P [] → AllByRecursion (λ (e : List ℕ × Versions). P e.1) es → P (versions_in (find key_cmp q es))
all_in P q [] p h = p
all_in P q (e ∷ es) p h = elim (is_eq (key_cmp q e.0)) as (λ b. P (versions_in (cond b (Some e.1) (find key_cmp q es)))) [ true ↦ h.0 | false ↦ all_in P q es p h.1 ]

as_T : (b : Bool) → b ≡ true → T b
as_T b h = subst T (sym h) tt

from_T : (b : Bool) → T b → b ≡ true
from_T true h = refl
from_T false h = absurd h

pub table_put : (q : List ℕ) (v : Versions) (es : Entries) → AreOrdered v → IsTable es → IsTable (put key_cmp q v es)
table_put q v es ordered table = record {
  rising = from_T _ (is_sorted-put key_cmp nat_list_cmp_total q v es (as_T _ table.rising));
  ordered = all_put AreOrdered q v es ordered table.ordered;
}

pub up_to_put : (ts : ℕ) (q : List ℕ) (v : Versions) (es : Entries) → AreUpTo ts v → IsTableUpTo ts es → IsTableUpTo ts (put key_cmp q v es)
up_to_put ts q v es up all = all_put (AreUpTo ts) q v es up all

pub rows_put : (ts : ℕ) (change : Change) (k : List ℕ) (v : Versions) (es : Entries) → IsChanged ts change (versions_in (find key_cmp k es)) v
    → (q : List ℕ) (t : ℕ) → row_of (put key_cmp k v es) q t ≡ cond (eq_by_cmp key_cmp q k && nat_le ts t) (apply change (row_of es k t)) (row_of es q t)
rows_put ts change k v es is q t =
    ap (λ o. row_from None t (versions_in o)) (find-put key_cmp nat_list_cmp_total q k v es)
    ∙ elim (eq_by_cmp key_cmp q k) as (λ b. eq_by_cmp key_cmp q k ≡ b → row_from None t (versions_in (cond b (Some v) (find key_cmp q es))) ≡ cond (b && nat_le ts t) (apply change (row_of es k t)) (row_of es q t)) [
      | true ↦ λ e. is t ∙ ap (λ o. cond (nat_le ts t) (apply change (row_of es k t)) (row_from None t (versions_in o))) (find_tied key_cmp nat_list_cmp_total q k (equal _ e) es)
      | false ↦ λ e. refl
    ] refl

puts : (ts : ℕ) (change : Change) (k : List ℕ) (v : Versions) (es new : Entries) → IsTable es → IsTableUpTo ts es → AreOrdered v → AreUpTo ts v → IsChanged ts change (versions_in (find key_cmp k es)) v → new ≡ put key_cmp k v es → IsPut ts change k es new
puts ts change k v es new table up ordered below is so =
    subst (λ (n : Entries). IsPut ts change k es n) (sym so) (record { table = table_put k v es ordered table; up_to = up_to_put ts k v es below up; rows = rows_put ts change k v es is })

-- over the versions that stand there, and over none
pub puts_there : (ts : ℕ) (change : Change) (k : List ℕ) (v : Versions) (es found : Entries) (r : Result ℕ ℕ) (i : ℕ) (e : List ℕ × Versions) → found ≡ es → r ≡ place_of key_cmp k found → r ≡ Ok i → e ≡ get_or es i e
    → IsTable es → IsTableUpTo ts es → AreOrdered v → AreUpTo ts v → IsChanged ts change e.1 v → IsPut ts change k es (slice_set es i (e.0, v))
puts_there ts change k v es found r i e same is ok at table up ordered below changed =
    let there = (found_at k es r i table.rising (is ∙ ap (place_of key_cmp k) same) ok).1 e in
    puts ts change k v es (slice_set es i (e.0, v)) table up ordered below
    (subst (λ (vs : Versions). IsChanged ts change vs v) (ap (λ (x : List ℕ × Versions). x.1) at ∙ sym (ap versions_in there)) changed)
    ((subst (λ x. Says key_cmp k v es x) ok (says_at key_cmp k v es found r same is)).1 e at)

pub puts_new : (ts : ℕ) (change : Change) (k key : List ℕ) (first v : Versions) (es found new : Entries) (r : Result ℕ ℕ) (i : ℕ) → found ≡ es → r ≡ place_of key_cmp k found → r ≡ Err i → key ≡ k → first ≡ [] → new ≡ insert es i (key, v)
    → IsTable es → IsTableUpTo ts es → AreOrdered v → AreUpTo ts v → IsChanged ts change first v → IsPut ts change k es new
puts_new ts change k key first v es found new r i same is err copy none so table up ordered below changed =
    puts ts change k v es new table up ordered below
    (subst (λ (vs : Versions). IsChanged ts change vs v) (none ∙ sym (ap versions_in (missing_at k es r i table.rising (is ∙ ap (place_of key_cmp k) same) err))) changed)
    (so ∙ ap (λ (q : List ℕ). insert es i (q, v)) copy ∙ (subst (λ x. Says key_cmp k v es x) err (says_at key_cmp k v es found r same is)).1)

pub within_there : (k : List ℕ) (es found : Entries) (r : Result ℕ ℕ) (i : ℕ) → found ≡ es → r ≡ place_of key_cmp k found → r ≡ Ok i → i < length es
within_there k es found r i same is ok = (subst (λ x. Says key_cmp k [] es x) ok (says_at key_cmp k [] es found r same is)).0

pub within_gap : (k : List ℕ) (es found : Entries) (r : Result ℕ ℕ) (i : ℕ) → found ≡ es → r ≡ place_of key_cmp k found → r ≡ Err i → i ≤ length es
within_gap k es found r i same is err = (subst (λ x. Says key_cmp k [] es x) err (says_at key_cmp k [] es found r same is)).0

-- the versions of a key are in order, and none is too late
nothing_ordered : AreOrdered []
nothing_ordered i j d le lt = absurd (omega arith)

pub ordered_of : (q : List ℕ) (es : Entries) (vs : Versions) → IsTable es → Some vs ≡ find key_cmp q es → AreOrdered vs
ordered_of q es vs table is = subst (λ o. AreOrdered (versions_in o)) (sym is) (all_in AreOrdered q es nothing_ordered table.ordered)

all_at : (P : Versions → Type 0) (es : Entries) (i : ℕ) (d : List ℕ × Versions) → AllByRecursion (λ (e : List ℕ × Versions). P e.1) es → i < length es → P (get_or es i d).1
all_at P [] i d h lt = absurd (omega arith)
all_at P (e ∷ es) zero d h lt = h.0
all_at P (e ∷ es) (suc i) d h lt = all_at P es i d h.1 (omega arith)

pub entry_at : (P : Versions → Type 0) (es : Entries) (i : ℕ) (e : List ℕ × Versions) → AllByRecursion (λ (e : List ℕ × Versions). P e.1) es → i < length es → e ≡ get_or es i e → P e.1
entry_at P es i e h lt at = subst (λ (x : List ℕ × Versions). P x.1) (sym at) (all_at P es i e h lt)

-- the entry at the place of a key tells its versions
pub tells_at : (q : List ℕ) (es : Entries) (r : Result ℕ ℕ) (i : ℕ) (e : List ℕ × Versions) → is_sorted key_cmp es ≡ true → r ≡ place_of key_cmp q es → r ≡ Ok i → slice_get es i ≡ Some e → Some e.1 ≡ find key_cmp q es
tells_at q es r i e sorted is ok at =
    sym ((found_at q es r i sorted is ok).1 e ∙ ap (λ (x : List ℕ × Versions). Some x.1) (get_or_from_slice_get es i e e at))

pub never_none : (q : List ℕ) (es : Entries) (r : Result ℕ ℕ) (i : ℕ) → is_sorted key_cmp es ≡ true → r ≡ place_of key_cmp q es → r ≡ Ok i → slice_get es i ≡ None → ⊥
never_none q es r i sorted is ok at = let some = slice_get-get_or es i ([], []) (found_at q es r i sorted is ok).0 in cc
