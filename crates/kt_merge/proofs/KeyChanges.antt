-- What the changes of a MemRowSet tell, by rising key.
use Rattle.std.proofs.Common.{◌≡◌, ℕ, zero, suc, ◌+◌, ◌<◌, ◌≤◌, ◌⊎◌, List, [], ◌∷◌, ◌++◌, Some, None, Option, refl, true, false, Bool, ◌&&◌, cond, sym, ap, ◌∙◌, subst, arith, map, length, take, drop, get_or, append_assoc, inl, inr}
use Rattle.std.specs.Prelude.{not, slice_get}
use Rattle.std.specs.Cmp.{IsTotalOrder}
use Rattle.std.specs.List.{filter, find, list_all, between, AllByRecursion}
use Rattle.std.specs.List.Sorted.{IsPartitionedBy, IsPartitionPoint}
use Rattle.std.specs.Option.{option_map}
use Rattle.std.specs.Ordering.{is_lt, is_gt, is_eq, eq_by_cmp, ordering_reverse}
use Rattle.std.specs.declared.cmp.Ordering.{Ordering}
use Rattle.std.specs.declared.cmp.Ordering.TheVariants.{Less, Equal, Greater}
use Rattle.std.specs.FinMap.{nat_cmp-IsAntisymmetric, slice_cmp-IsAntisymmetric}
use Rattle.std.proofs.lemmas.Bool.{false≢true, and_parts, cases_eq, cases_lt}
use Rattle.std.proofs.lemmas.Cmp.{nat_list_cmp_total, upto, eq_by_cmp_equiv}
use Rattle.std.proofs.lemmas.List.Elements.{filter-append}
use Rattle.std.proofs.lemmas.List.Edits.{between_more, between_none, split_between, length-between, get_or-between}
use Rattle.std.proofs.lemmas.List.{map-append, append-nil}
use Rattle.kt_history.specs.declared.change.Change.TheVariants.{Del}
use Rattle.kt_history.specs.declared.changes.KeyChange.{KeyChange}
use Rattle.kt_history.specs.AsBytes.{step_of}
use Rattle.kt_history.specs.Rows.{Row, key_cmp}
use Rattle.kt_history.specs.Stores.{Steps, after_steps}
use Rattle.kt_history.specs.Views.{AreRising, is_above, key_above}
use Rattle.kt_histlaws.proofs.OneKey.{after_steps-append}
use Rattle.kt_rowfiles.specs.Taking.{spanned}
use Rattle.kt_rowfiles.specs.declared.taking.Span.{Span}
use Rattle.kt_rowfiles.proofs.TakenSteps.{spanned-append}
use Rattle.kt_merge.specs.Changes.{rises, keys_in, changes_of, steps_of}

-- Down to the part on parts of a list, these lemmas stand in kt_tablet too, of whose views they speak: they belong below both.

pub order : IsTotalOrder key_cmp
order = nat_list_cmp_total

pub by_bool : {G : Type 0} (b : Bool) → (b ≡ true → G) → (b ≡ false → G) → G
by_bool true f g = f refl
by_bool false f g = g refl

pub not_true : (b : Bool) → not b ≡ true → b ≡ false
not_true true h = sym h
not_true false h = refl

less_of : (o : Ordering) → is_gt o ≡ false → is_eq o ≡ false → o ≡ Less
less_of Less g e = refl
less_of Equal g e = absurd (false≢true (sym e))
less_of Greater g e = absurd (false≢true (sym g))

pub equal_of : (o : Ordering) → is_eq o ≡ true → o ≡ Equal
equal_of Less e = absurd (false≢true e)
equal_of Equal e = refl
equal_of Greater e = absurd (false≢true e)

pub same_key : (a b : List ℕ) → eq_by_cmp key_cmp a b ≡ true → a ≡ b
same_key a b e = slice_cmp-IsAntisymmetric nat_cmp-IsAntisymmetric a b (equal_of (key_cmp a b) e)

filter_all : {X : Type 0} (p r : X → Bool) (xs : List X) → list_all p xs ≡ true → list_all p (filter r xs) ≡ true
filter_all p r [] h = refl
filter_all p r (x ∷ xs) h = let parts = and_parts (p x) (list_all p xs) h in by_bool (r x)
    (λ e. ap (λ b. list_all p (cond b (x ∷ filter r xs) (filter r xs))) e ∙ ap (λ b. b && list_all p (filter r xs)) parts.0 ∙ filter_all p r xs parts.1)
    (λ e. ap (λ b. list_all p (cond b (x ∷ filter r xs) (filter r xs))) e ∙ filter_all p r xs parts.1)

keys_all : (p : List ℕ → Bool) (cs : List KeyChange) → list_all (λ c. p c.key) cs ≡ true → list_all p (keys_in cs) ≡ true
keys_all p [] h = refl
keys_all p (c ∷ cs) h = let parts = and_parts (p c.key) (list_all (λ c. p c.key) cs) h in
    ap (λ b. b && list_all p (filter (λ key. not (eq_by_cmp key_cmp c.key key)) (keys_in cs))) parts.0 ∙ filter_all p (λ key. not (eq_by_cmp key_cmp c.key key)) (keys_in cs) (keys_all p cs parts.1)

all_less : (a : List ℕ) (keys : List (List ℕ)) → list_all (λ key. not (is_gt (key_cmp a key))) keys ≡ true → AllByRecursion (λ other. key_cmp a other ≡ Less) (filter (λ key. not (eq_by_cmp key_cmp a key)) keys)
all_less a [] h = tt
all_less a (key ∷ keys) h = by_bool (eq_by_cmp key_cmp a key)
    (λ e. subst (λ b. AllByRecursion (λ other. key_cmp a other ≡ Less) (cond (not b) (key ∷ filter (λ key. not (eq_by_cmp key_cmp a key)) keys) (filter (λ key. not (eq_by_cmp key_cmp a key)) keys))) (sym e) (all_less a keys (and_parts _ _ h).1))
    (λ e. subst (λ b. AllByRecursion (λ other. key_cmp a other ≡ Less) (cond (not b) (key ∷ filter (λ key. not (eq_by_cmp key_cmp a key)) keys) (filter (λ key. not (eq_by_cmp key_cmp a key)) keys))) (sym e)
    (less_of (key_cmp a key) (not_true _ (and_parts _ _ h).0) e, all_less a keys (and_parts _ _ h).1))

filter_less : (P : List ℕ → Type 0) (r : List ℕ → Bool) (keys : List (List ℕ)) → AllByRecursion P keys → AllByRecursion P (filter r keys)
filter_less P r [] h = tt
filter_less P r (key ∷ keys) h = elim (r key) as (λ b. AllByRecursion P (cond b (key ∷ filter r keys) (filter r keys))) [ true ↦ (h.0, filter_less P r keys h.1) | false ↦ filter_less P r keys h.1 ]

filter_rising : (r : List ℕ → Bool) (keys : List (List ℕ)) → AreRising keys → AreRising (filter r keys)
filter_rising r [] h = tt
filter_rising r (key ∷ keys) h = elim (r key) as (λ b. AreRising (cond b (key ∷ filter r keys) (filter r keys))) [ true ↦ (filter_less (λ other. key_cmp key other ≡ Less) r keys h.0, filter_rising r keys h.1) | false ↦ filter_rising r keys h.1 ]

pub keys_in_rise : (cs : List KeyChange) → rises cs ≡ true → AreRising (keys_in cs)
keys_in_rise [] h = tt
keys_in_rise (c ∷ cs) h = (all_less c.key (keys_in cs) (keys_all (λ key. not (is_gt (key_cmp c.key key))) cs (and_parts _ _ h).0), filter_rising (λ key. not (eq_by_cmp key_cmp c.key key)) (keys_in cs) (keys_in_rise cs (and_parts _ _ h).1))

-- KEYS IN ORDER
gt_back : (o : Ordering) → is_gt (ordering_reverse o) ≡ is_lt o
gt_back Less = refl
gt_back Equal = refl
gt_back Greater = refl

pub gt_is_lt : (a q : List ℕ) → is_gt (key_cmp q a) ≡ is_lt (key_cmp a q)
gt_is_lt a q = ap is_gt (order.antisymm q a) ∙ gt_back (key_cmp a q)

greater_of : (o : Ordering) → is_lt o ≡ false → is_eq o ≡ false → is_gt o ≡ true
greater_of Less l e = absurd (false≢true (sym l))
greater_of Equal l e = absurd (false≢true (sym e))
greater_of Greater l e = refl

-- what is below a key, so is all before it
below_too : (a b q : List ℕ) → is_gt (key_cmp a b) ≡ false → is_lt (key_cmp b q) ≡ true → is_lt (key_cmp a q) ≡ true
below_too a b q le lt = by_bool (is_lt (key_cmp a q)) (λ e. e) (λ e. absurd (false≢true (sym (upto order q a b (gt_is_lt a q ∙ e) le) ∙ gt_is_lt b q ∙ lt)))

-- what is not above a key, so is all before it
not_above_too : (a b q : List ℕ) → is_gt (key_cmp a b) ≡ false → not (is_lt (key_cmp q b)) ≡ true → not (is_lt (key_cmp q a)) ≡ true
not_above_too a b q le h = ap not (sym (gt_is_lt q a) ∙ upto order a b q le (gt_is_lt q b ∙ not_true (is_lt (key_cmp q b)) h))

-- what comes after a greater key is another
other_after : (q x d : List ℕ) → eq_by_cmp key_cmp q x ≡ false → is_lt (key_cmp x q) ≡ false → is_gt (key_cmp x d) ≡ false → eq_by_cmp key_cmp q d ≡ false
other_after q x d ne ge le = by_bool (eq_by_cmp key_cmp q d)
    (λ e. absurd (false≢true (sym le ∙ gt_is_lt d x ∙ ap is_lt (sym (order.congr q d x (equal_of (key_cmp q d) e))) ∙ sym (gt_is_lt q x)
    ∙ greater_of (key_cmp x q) ge ((eq_by_cmp_equiv order).symm x q ∙ ne))))
    (λ e. e)

-- PARTS OF A LIST
pub rises_drop : (n : ℕ) (cs : List KeyChange) → rises cs ≡ true → rises (drop n cs) ≡ true
rises_drop zero cs h = h
rises_drop (suc n) [] h = refl
rises_drop (suc n) (c ∷ cs) h = rises_drop n cs ((and_parts _ _ h).1)

all_at : {X : Type 0} (p : X → Bool) (xs : List X) (k : ℕ) (d : X) → list_all p xs ≡ true → k < length xs → p (get_or xs k d) ≡ true
all_at p [] k d h lt = absurd (omega arith)
all_at p (x ∷ xs) zero d h lt = (and_parts _ _ h).0
all_at p (x ∷ xs) (suc k) d h lt = all_at p xs k d (and_parts _ _ h).1 (omega arith)

-- a key is at or below each that comes later
rises_at : (cs : List KeyChange) (i j : ℕ) (d : KeyChange) → rises cs ≡ true → i < j → j < length cs → is_gt (key_cmp (get_or cs i d).key (get_or cs j d).key) ≡ false
rises_at [] i j d h lt within = absurd (omega arith)
rises_at (c ∷ cs) i zero d h lt within = absurd (omega arith)
rises_at (c ∷ cs) zero (suc j) d h lt within = not_true _ (all_at (λ x. not (is_gt (key_cmp c.key x.key))) cs j d (and_parts _ _ h).0 (omega arith))
rises_at (c ∷ cs) (suc i) (suc j) d h lt within = rises_at cs i j d (and_parts _ _ h).1 (omega arith) (omega arith)

pub parts_below : (cs : List KeyChange) (q : List ℕ) → rises cs ≡ true → IsPartitionedBy (λ c. is_lt (key_cmp c.key q)) cs
parts_below cs q h i j d le within lt = elim (cases_eq i j) [
  | inl e ↦ subst (λ k. is_lt (key_cmp (get_or cs k d).key q) ≡ true) (sym e) lt
  | inr ne ↦ below_too (get_or cs i d).key (get_or cs j d).key q (rises_at cs i j d h (omega arith) within) lt
]

pub parts_not_above : (cs : List KeyChange) (q : List ℕ) → rises cs ≡ true → IsPartitionedBy (λ c. not (is_lt (key_cmp q c.key))) cs
parts_not_above cs q h i j d le within lt = elim (cases_eq i j) [
  | inl e ↦ subst (λ k. not (is_lt (key_cmp q (get_or cs k d).key)) ≡ true) (sym e) lt
  | inr ne ↦ not_above_too (get_or cs i d).key (get_or cs j d).key q (rises_at cs i j d h (omega arith) within) lt
]

-- THE KEYS
find_filter : (p r : List ℕ → Bool) (keys : List (List ℕ)) → ((key : List ℕ) → p key ≡ true → r key ≡ true) → find p (filter r keys) ≡ find p keys
find_filter p r [] f = refl
find_filter p r (key ∷ keys) f = by_bool (r key)
    (λ e. ap (λ b. find p (cond b (key ∷ filter r keys) (filter r keys))) e ∙ ap (λ o. cond (p key) (Some key) o) (find_filter p r keys f))
    (λ e. ap (λ b. find p (cond b (key ∷ filter r keys) (filter r keys))) e ∙ find_filter p r keys f
    ∙ by_bool (p key) (λ pass. absurd (false≢true (sym e ∙ f key pass))) (λ fail. sym (ap (λ b. cond b (Some key) (find p keys)) fail)))

pub find_keys : (p : List ℕ → Bool) (cs : List KeyChange) → find p (keys_in cs) ≡ option_map (λ c. c.key) (find (λ c. p c.key) cs)
find_keys p [] = refl
find_keys p (c ∷ cs) = by_bool (p c.key)
    (λ e. ap (λ b. cond b (Some c.key) (find p (filter (λ key. not (eq_by_cmp key_cmp c.key key)) (keys_in cs)))) e ∙ sym (ap (λ b. option_map (λ x. x.key) (cond b (Some c) (find (λ x. p x.key) cs))) e))
    (λ e. ap (λ b. cond b (Some c.key) (find p (filter (λ key. not (eq_by_cmp key_cmp c.key key)) (keys_in cs)))) e
    ∙ find_filter p (λ key. not (eq_by_cmp key_cmp c.key key)) (keys_in cs) (λ key pass. by_bool (eq_by_cmp key_cmp c.key key) (λ same. absurd (false≢true (sym e ∙ ap p (same_key c.key key same) ∙ pass))) (λ other. ap not other))
    ∙ find_keys p cs ∙ sym (ap (λ b. option_map (λ x. x.key) (cond b (Some c) (find (λ x. p x.key) cs))) e))

pub find_at : {X : Type 0} (p : X → Bool) (xs : List X) (n : ℕ) → ((k : ℕ) (d : X) → k < n → k < length xs → p (get_or xs k d) ≡ false) → ((d : X) → n < length xs → p (get_or xs n d) ≡ true) → find p xs ≡ slice_get xs n
find_at p [] n before here = refl
find_at p (x ∷ xs) zero before here = ap (λ b. cond b (Some x) (find p xs)) (here x (omega arith))
find_at p (x ∷ xs) (suc n) before here = ap (λ b. cond b (Some x) (find p xs)) (before zero x (omega arith) (omega arith)) ∙ find_at p xs n (λ k d lt within. before (suc k) d (omega arith) (omega arith)) (λ d within. here d (omega arith))

-- the first key that is above another, or the first of all
pub above_none : (cs : List KeyChange) → option_map (λ c. c.key) (slice_get cs 0) ≡ key_above None (keys_in cs)
above_none cs = ap (option_map (λ c. c.key)) (sym (find_at (λ c. is_above None c.key) cs 0 (λ k d lt within. absurd (omega arith)) (λ d within. refl))) ∙ sym (find_keys (is_above None) cs)

pub above_some : (cs : List KeyChange) (a : List ℕ) (n : ℕ) → IsPartitionPoint (λ c. not (is_lt (key_cmp a c.key)) ≡ true) (λ c. not (is_lt (key_cmp a c.key)) ≡ false) cs n → option_map (λ c. c.key) (slice_get cs n) ≡ key_above (Some a) (keys_in cs)
above_some cs a n parts = ap (option_map (λ c. c.key)) (sym (find_at (λ c. is_above (Some a) c.key) cs n (λ k d lt within. not_true _ (parts.0 k d (omega arith) lt)) (λ d within. not_false _ (parts.1 n d (omega arith) within)))) ∙ sym (find_keys (is_above (Some a)) cs)
  where
    not_false : (b : Bool) → not b ≡ false → b ≡ true
    not_false true h = refl
    not_false false h = sym h

-- ---- parts of a list

none_before : {X : Type 0} (p : X → Bool) (xs : List X) (n : ℕ) → ((k : ℕ) (d : X) → k < n → k < length xs → p (get_or xs k d) ≡ false) → filter p (take n xs) ≡ []
none_before p [] zero h = refl
none_before p [] (suc n) h = refl
none_before p (x ∷ xs) zero h = refl
none_before p (x ∷ xs) (suc n) h = ap (λ (b : Bool). cond b (x ∷ filter p (take n xs)) (filter p (take n xs))) (h 0 x (omega arith) (omega arith)) ∙ none_before p xs n (λ k d lt within. h (suc k) d (omega arith) (omega arith))

none_behind : {X : Type 0} (p : X → Bool) (xs : List X) (n : ℕ) → ((k : ℕ) (d : X) → n ≤ k → k < length xs → p (get_or xs k d) ≡ false) → filter p (drop n xs) ≡ []
none_behind p [] zero h = refl
none_behind p [] (suc n) h = refl
none_behind p (x ∷ xs) zero h = ap (λ (b : Bool). cond b (x ∷ filter p xs) (filter p xs)) (h 0 x (omega arith) (omega arith)) ∙ none_behind p xs 0 (λ k d le within. h (suc k) d (omega arith) (omega arith))
none_behind p (x ∷ xs) (suc n) h = none_behind p xs n (λ k d le within. h (suc k) d (omega arith) (omega arith))

all_here : {X : Type 0} (p : X → Bool) (xs : List X) → ((k : ℕ) (d : X) → k < length xs → p (get_or xs k d) ≡ true) → filter p xs ≡ xs
all_here p [] h = refl
all_here p (x ∷ xs) h = ap (λ (b : Bool). cond b (x ∷ filter p xs) (filter p xs)) (h 0 x (omega arith)) ∙ ap (λ (l : List _). x ∷ l) (all_here p xs (λ k d within. h (suc k) d (omega arith)))

-- those that pass stand between two places
part_is : {X : Type 0} (p : X → Bool) (xs : List X) (i j : ℕ) → i ≤ j → j ≤ length xs → ((k : ℕ) (d : X) → k < i → k < length xs → p (get_or xs k d) ≡ false) → ((k : ℕ) (d : X) → i ≤ k → k < j → p (get_or xs k d) ≡ true)
    → ((k : ℕ) (d : X) → j ≤ k → k < length xs → p (get_or xs k d) ≡ false) → filter p xs ≡ between i j xs
part_is p xs i j le within before here behind =
    ap (filter p) (split_between xs i j le)
    ∙ filter-append p (take i xs) (between i j xs ++ drop j xs) ∙ ap (λ (l : List _). l ++ filter p (between i j xs ++ drop j xs)) (none_before p xs i before)
    ∙ filter-append p (between i j xs) (drop j xs)
    ∙ ap (λ (l : List _). l ++ filter p (drop j xs)) (all_here p (between i j xs) (λ k d low. let long = length-between xs i j within in subst (λ x. p x ≡ true) (sym (get_or-between xs i j k d (omega (arith, long, low)))) (here (i + k) d (omega arith) (omega (arith, long, low)))))
    ∙ ap (λ (l : List _). between i j xs ++ l) (none_behind p xs j behind) ∙ append-nil (between i j xs)

-- ---- the changes of one key

is_key : (o : Ordering) → is_lt (ordering_reverse o) ≡ false → is_lt o ≡ false → is_eq o ≡ true
is_key Less a b = absurd (false≢true (sym b))
is_key Equal a b = refl
is_key Greater a b = absurd (false≢true (sym a))

not_key : (o : Ordering) → is_lt o ≡ true → is_eq o ≡ false
not_key Less h = refl
not_key Equal h = absurd (false≢true h)
not_key Greater h = absurd (false≢true h)

not_key_back : (o : Ordering) → is_lt (ordering_reverse o) ≡ true → is_eq o ≡ false
not_key_back Less h = absurd (false≢true h)
not_key_back Equal h = absurd (false≢true h)
not_key_back Greater h = refl

fails_not : (b : Bool) → not b ≡ false → b ≡ true
fails_not true h = refl
fails_not false h = sym h

module _ (cs : List KeyChange) (q : List ℕ) (start end : ℕ) (within : end ≤ length cs)
    (below : IsPartitionPoint (λ c. is_lt (key_cmp c.key q) ≡ true) (λ c. is_lt (key_cmp c.key q) ≡ false) cs start)
    (upto_ : IsPartitionPoint (λ c. not (is_lt (key_cmp q c.key)) ≡ true) (λ c. not (is_lt (key_cmp q c.key)) ≡ false) cs end) where
  -- the order of two keys the other way round
  back : (a : List ℕ) → key_cmp a q ≡ ordering_reverse (key_cmp q a)
  back a = order.antisymm a q

  lies_before : (k : ℕ) (d : KeyChange) → k < start → k < length cs → eq_by_cmp key_cmp q (get_or cs k d).key ≡ false
  lies_before k d low in_ = not_key_back (key_cmp q (get_or cs k d).key) (sym (ap is_lt (back (get_or cs k d).key)) ∙ below.0 k d (omega arith) low)

  lies_behind : (k : ℕ) (d : KeyChange) → end ≤ k → k < length cs → eq_by_cmp key_cmp q (get_or cs k d).key ≡ false
  lies_behind k d from in_ = not_key (key_cmp q (get_or cs k d).key) (fails_not _ (upto_.1 k d from in_))

  lies_here : (k : ℕ) (d : KeyChange) → start ≤ k → k < end → eq_by_cmp key_cmp q (get_or cs k d).key ≡ true
  lies_here k d from low =
      let in_ : k < length cs = omega (arith, low, within) in
      is_key (key_cmp q (get_or cs k d).key) (sym (ap is_lt (back (get_or cs k d).key)) ∙ below.1 k d from in_) (not_true _ (upto_.0 k d (omega arith) low))

  -- if they end before they begin, there are none
  pub none_between : end < start → changes_of q cs ≡ []
  none_between less = none_behind (λ (c : KeyChange). eq_by_cmp key_cmp q c.key) cs 0 (λ k d le in_. elim (cases_lt k start) [ inl low ↦ lies_before k d low in_ | inr from ↦ lies_behind k d (omega (arith, from, less)) in_ ])

  pub own_changes : start ≤ end → changes_of q cs ≡ between start end cs
  own_changes le = part_is (λ (c : KeyChange). eq_by_cmp key_cmp q c.key) cs start end le within lies_before lies_here lies_behind

-- ---- changes in turn

module _ (cs : List KeyChange) (span : Span) (start : ℕ) where
  abbrev pub steps_to : ℕ → Steps
  steps_to i = map step_of (between start i cs)

  steps_more : (i : ℕ) (d : KeyChange) → start ≤ i → i < length cs → steps_to (i + 1) ≡ steps_to i ++ step_of (get_or cs i d) ∷ []
  steps_more i d from low = ap (map step_of) (between_more cs start i d from low) ∙ map-append step_of (between start i cs) (get_or cs i d ∷ [])

  pub row_more : (i : ℕ) (d : KeyChange) (row row2 : Option Row) → start ≤ i → i < length cs → row ≡ after_steps span.mark (steps_to i) None → row2 ≡ after_steps span.mark (step_of (get_or cs i d) ∷ []) row
      → row2 ≡ after_steps span.mark (steps_to (i + 1)) None
  row_more i d row row2 from low so e =
      e ∙ ap (after_steps span.mark (step_of (get_or cs i d) ∷ [])) so ∙ sym (after_steps-append span.mark (steps_to i) (step_of (get_or cs i d) ∷ []) None)
      ∙ sym (ap (λ (l : Steps). after_steps span.mark l None) (steps_more i d from low))

  pub taken_more : (i : ℕ) (d : KeyChange) (first old new : Steps) → start ≤ i → i < length cs → old ≡ first ++ spanned span (steps_to i) → new ≡ old ++ spanned span (step_of (get_or cs i d) ∷ [])
      → new ≡ first ++ spanned span (steps_to (i + 1))
  taken_more i d first old new from low so e =
      e ∙ ap (λ (l : Steps). l ++ spanned span (step_of (get_or cs i d) ∷ [])) so ∙ append_assoc first (spanned span (steps_to i)) (spanned span (step_of (get_or cs i d) ∷ []))
      ∙ ap (λ (l : Steps). first ++ l) (sym (ap (spanned span) (steps_more i d from low) ∙ spanned-append span (steps_to i) (step_of (get_or cs i d) ∷ [])))

  -- before the first there are none
  pub none_to : steps_to start ≡ []
  none_to = ap (map step_of) (between_none cs start)

-- at the end these are all changes of the key
module _ (cs : List KeyChange) (q : List ℕ) (span : Span) (start end : ℕ) (within : end ≤ length cs)
    (below : IsPartitionPoint (λ c. is_lt (key_cmp c.key q) ≡ true) (λ c. is_lt (key_cmp c.key q) ≡ false) cs start)
    (upto_ : IsPartitionPoint (λ c. not (is_lt (key_cmp q c.key)) ≡ true) (λ c. not (is_lt (key_cmp q c.key)) ≡ false) cs end) where
  pub all_taken : (i : ℕ) → start ≤ i → (i ≡ start) ⊎ (i ≤ end) → end ≤ i → steps_to cs span start i ≡ steps_of q cs
  all_taken i from (inr le) past =
      let same : i ≡ end = omega (arith, le, past) in
      ap (λ (k : ℕ). map step_of (between start k cs)) same ∙ sym (ap (map step_of) (own_changes cs q start end within below upto_ (omega (arith, from, le))))
  all_taken i from (inl is) past =
      ap (steps_to cs span start) is ∙ none_to cs span start
      ∙ sym (elim (cases_lt end start) [
        | inl less ↦ ap (map step_of) (none_between cs q start end within below upto_ less)
        | inr le ↦
            let same : end ≡ start = omega (arith, le, past, is) in
            ap (map step_of) (own_changes cs q start end within below upto_ le ∙ ap (λ (k : ℕ). between start k cs) same ∙ between_none cs start)
      ])

-- the change at a place, as it is got
pub got : (cs : List KeyChange) (i : ℕ) (d : KeyChange) → i < length cs → slice_get cs i ≡ Some (get_or cs i d)
got [] i d low = absurd (omega arith)
got (c ∷ cs) zero d low = refl
got (c ∷ cs) (suc i) d low = got cs i d (omega arith)

-- some change
abbrev pub some_change : KeyChange
some_change = record { key = []; ts = 0; change = Del }
