-- What the changes of a store tell, by rising key.
use Rattle.std.proofs.Common.{◌≡◌, ℕ, zero, suc, ◌+◌, ◌<◌, ◌≤◌, List, [], ◌∷◌, ◌++◌, Some, None, Option, refl, true, false, Bool, ◌&&◌, cond, sym, ap, ◌∙◌, subst, arith, map, length, take, drop, get_or}
use Rattle.std.specs.Prelude.{not, slice_get}
use Rattle.std.specs.List.{filter, find, list_all}
use Rattle.std.specs.List.Sorted.{IsPartitionedBy, IsPartitionPoint}
use Rattle.std.specs.Option.{option_map}
use Rattle.std.specs.Ordering.{is_lt, is_gt, is_eq, eq_by_cmp, ordering_reverse}
use Rattle.std.specs.declared.cmp.Ordering.{Ordering}
use Rattle.std.specs.declared.cmp.Ordering.TheVariants.{Less, Equal, Greater}
use Rattle.std.proofs.lemmas.Bool.{false≢true, and_parts, cases_eq}
use Rattle.std.proofs.Common.{inl, inr}
use Rattle.kt_history.specs.Stores.{after_steps}
use Rattle.std.proofs.lemmas.Cmp.{upto, eq_by_cmp_equiv, tied_itself}
use Rattle.kt_history.specs.declared.change.Change.TheVariants.{Del}
use Rattle.std.proofs.lemmas.List.Elements.{filter-append}
use Rattle.kt_history.specs.declared.changes.KeyChange.{KeyChange}
use Rattle.kt_history.specs.Rows.{Row, key_cmp}
use Rattle.kt_history.specs.Views.{is_above, key_above}
use Rattle.kt_histlaws.proofs.OneKey.{after_steps-append}
use Rattle.std.proofs.lemmas.List.{map-append, take_more}
use Rattle.kt_tablet.specs.SnapLaws.{order, by_bool, not_true, equal_of, same_key}
use Rattle.kt_tablet.specs.Snaps.{rises, keys_in, changes_of, step_in, row_in, is_above_at, is_reached_at, change_there}
use Rattle.kt_tablet.specs.Filling.{filled_change}
use Rattle.kt_history.specs.AsBytes.{step_of}
use Rattle.kt_history.specs.declared.change.Change.{Change}
use Rattle.std.proofs.lemmas.List.{append-nil}

-- KEYS IN ORDER
gt_back : (o : Ordering) → is_gt (ordering_reverse o) ≡ is_lt o
gt_back Less = refl
gt_back Equal = refl
gt_back Greater = refl

pub gt_is_lt : (a q : List ℕ) → is_gt (key_cmp q a) ≡ is_lt (key_cmp a q)
gt_is_lt a q = ap is_gt (order.antisymm q a) ∙ gt_back (key_cmp a q)

greater_of : (o : Ordering) → is_lt o ≡ false → is_eq o ≡ false → is_gt o ≡ true
greater_of Less l e = absurd (false≢true (sym l))
greater_of Equal l e = absurd (false≢true (sym e))
greater_of Greater l e = refl

-- what is below a key, so is all before it
below_too : (a b q : List ℕ) → is_gt (key_cmp a b) ≡ false → is_lt (key_cmp b q) ≡ true → is_lt (key_cmp a q) ≡ true
below_too a b q le lt = by_bool (is_lt (key_cmp a q)) (λ e. e) (λ e. absurd (false≢true (sym (upto order q a b (gt_is_lt a q ∙ e) le) ∙ gt_is_lt b q ∙ lt)))

-- what is not above a key, so is all before it
not_above_too : (a b q : List ℕ) → is_gt (key_cmp a b) ≡ false → not (is_lt (key_cmp q b)) ≡ true → not (is_lt (key_cmp q a)) ≡ true
not_above_too a b q le h = ap not (sym (gt_is_lt q a) ∙ upto order a b q le (gt_is_lt q b ∙ not_true (is_lt (key_cmp q b)) h))

-- what comes after a greater key is another
other_after : (q x d : List ℕ) → eq_by_cmp key_cmp q x ≡ false → is_lt (key_cmp x q) ≡ false → is_gt (key_cmp x d) ≡ false → eq_by_cmp key_cmp q d ≡ false
other_after q x d ne ge le = by_bool (eq_by_cmp key_cmp q d)
    (λ e. absurd (false≢true (sym le ∙ gt_is_lt d x ∙ ap is_lt (sym (order.congr q d x (equal_of (key_cmp q d) e))) ∙ sym (gt_is_lt q x)
    ∙ greater_of (key_cmp x q) ge ((eq_by_cmp_equiv order).symm x q ∙ ne))))
    (λ e. e)

-- PARTS OF A LIST
pub rises_drop : (n : ℕ) (cs : List KeyChange) → rises cs ≡ true → rises (drop n cs) ≡ true
rises_drop zero cs h = h
rises_drop (suc n) [] h = refl
rises_drop (suc n) (c ∷ cs) h = rises_drop n cs ((and_parts _ _ h).1)

all_at : {X : Type 0} (p : X → Bool) (xs : List X) (k : ℕ) (d : X) → list_all p xs ≡ true → k < length xs → p (get_or xs k d) ≡ true
all_at p [] k d h lt = absurd (omega arith)
all_at p (x ∷ xs) zero d h lt = (and_parts _ _ h).0
all_at p (x ∷ xs) (suc k) d h lt = all_at p xs k d (and_parts _ _ h).1 (omega arith)

-- a key is at or below each that comes later
rises_at : (cs : List KeyChange) (i j : ℕ) (d : KeyChange) → rises cs ≡ true → i < j → j < length cs → is_gt (key_cmp (get_or cs i d).key (get_or cs j d).key) ≡ false
rises_at [] i j d h lt within = absurd (omega arith)
rises_at (c ∷ cs) i zero d h lt within = absurd (omega arith)
rises_at (c ∷ cs) zero (suc j) d h lt within = not_true _ (all_at (λ x. not (is_gt (key_cmp c.key x.key))) cs j d (and_parts _ _ h).0 (omega arith))
rises_at (c ∷ cs) (suc i) (suc j) d h lt within = rises_at cs i j d (and_parts _ _ h).1 (omega arith) (omega arith)

pub parts_below : (cs : List KeyChange) (q : List ℕ) → rises cs ≡ true → IsPartitionedBy (λ c. is_lt (key_cmp c.key q)) cs
parts_below cs q h i j d le within lt = elim (cases_eq i j) [
  | inl e ↦ subst (λ k. is_lt (key_cmp (get_or cs k d).key q) ≡ true) (sym e) lt
  | inr ne ↦ below_too (get_or cs i d).key (get_or cs j d).key q (rises_at cs i j d h (omega arith) within) lt
]

pub parts_not_above : (cs : List KeyChange) (q : List ℕ) → rises cs ≡ true → IsPartitionedBy (λ c. not (is_lt (key_cmp q c.key))) cs
parts_not_above cs q h i j d le within lt = elim (cases_eq i j) [
  | inl e ↦ subst (λ k. not (is_lt (key_cmp q (get_or cs k d).key)) ≡ true) (sym e) lt
  | inr ne ↦ not_above_too (get_or cs i d).key (get_or cs j d).key q (rises_at cs i j d h (omega arith) within) lt
]

-- THE ROW OF A KEY
-- none of these is of the key
pub none_of : (q : List ℕ) (cs : List KeyChange) → list_all (λ c. not (eq_by_cmp key_cmp q c.key)) cs ≡ true → changes_of q cs ≡ []
none_of q [] h = refl
none_of q (c ∷ cs) h = ap (λ b. cond b (c ∷ changes_of q cs) (changes_of q cs)) (not_true _ (and_parts _ _ h).0) ∙ none_of q cs (and_parts _ _ h).1

pub all_map : {X : Type 0} (p r : X → Bool) (xs : List X) → ((x : X) → p x ≡ true → r x ≡ true) → list_all p xs ≡ true → list_all r xs ≡ true
all_map p r [] f h = refl
all_map p r (x ∷ xs) f h = let parts = and_parts (p x) (list_all p xs) h in ap (λ b. b && list_all r xs) (f x parts.0) ∙ all_map p r xs f parts.1

-- after a greater key there is none of this one
pub none_after : (q : List ℕ) (x : KeyChange) (cs : List KeyChange) → rises (x ∷ cs) ≡ true → is_lt (key_cmp x.key q) ≡ false → eq_by_cmp key_cmp q x.key ≡ false → changes_of q (x ∷ cs) ≡ []
none_after q x cs h ge ne = ap (λ b. cond b (x ∷ changes_of q cs) (changes_of q cs)) ne
    ∙ none_of q cs (all_map (λ d. not (is_gt (key_cmp x.key d.key))) (λ d. not (eq_by_cmp key_cmp q d.key)) cs (λ d le. ap not (other_after q x.key d.key ne ge (not_true _ le))) (and_parts _ _ h).0)

-- the changes of lesser keys tell nothing of it
not_below : (q a : List ℕ) → is_lt (key_cmp a q) ≡ true → eq_by_cmp key_cmp q a ≡ false
not_below q a lt = by_bool (eq_by_cmp key_cmp q a) (λ e. absurd (false≢true (sym (lt_of_equal (key_cmp a q) ((eq_by_cmp_equiv order).symm a q ∙ e)) ∙ lt))) (λ e. e)
  where
    lt_of_equal : (o : Ordering) → is_eq o ≡ true → is_lt o ≡ false
    lt_of_equal Less e = absurd (false≢true e)
    lt_of_equal Equal e = refl
    lt_of_equal Greater e = refl

-- THE KEYS
find_filter : (p r : List ℕ → Bool) (keys : List (List ℕ)) → ((key : List ℕ) → p key ≡ true → r key ≡ true) → find p (filter r keys) ≡ find p keys
find_filter p r [] f = refl
find_filter p r (key ∷ keys) f = by_bool (r key)
    (λ e. ap (λ b. find p (cond b (key ∷ filter r keys) (filter r keys))) e ∙ ap (λ o. cond (p key) (Some key) o) (find_filter p r keys f))
    (λ e. ap (λ b. find p (cond b (key ∷ filter r keys) (filter r keys))) e ∙ find_filter p r keys f
    ∙ by_bool (p key) (λ pass. absurd (false≢true (sym e ∙ f key pass))) (λ fail. sym (ap (λ b. cond b (Some key) (find p keys)) fail)))

pub find_keys : (p : List ℕ → Bool) (cs : List KeyChange) → find p (keys_in cs) ≡ option_map (λ c. c.key) (find (λ c. p c.key) cs)
find_keys p [] = refl
find_keys p (c ∷ cs) = by_bool (p c.key)
    (λ e. ap (λ b. cond b (Some c.key) (find p (filter (λ key. not (eq_by_cmp key_cmp c.key key)) (keys_in cs)))) e ∙ sym (ap (λ b. option_map (λ x. x.key) (cond b (Some c) (find (λ x. p x.key) cs))) e))
    (λ e. ap (λ b. cond b (Some c.key) (find p (filter (λ key. not (eq_by_cmp key_cmp c.key key)) (keys_in cs)))) e
    ∙ find_filter p (λ key. not (eq_by_cmp key_cmp c.key key)) (keys_in cs) (λ key pass. by_bool (eq_by_cmp key_cmp c.key key) (λ same. absurd (false≢true (sym e ∙ ap p (same_key c.key key same) ∙ pass))) (λ other. ap not other))
    ∙ find_keys p cs ∙ sym (ap (λ b. option_map (λ x. x.key) (cond b (Some c) (find (λ x. p x.key) cs))) e))

pub find_at : {X : Type 0} (p : X → Bool) (xs : List X) (n : ℕ) → ((k : ℕ) (d : X) → k < n → k < length xs → p (get_or xs k d) ≡ false) → ((d : X) → n < length xs → p (get_or xs n d) ≡ true) → find p xs ≡ slice_get xs n
find_at p [] n before here = refl
find_at p (x ∷ xs) zero before here = ap (λ b. cond b (Some x) (find p xs)) (here x (omega arith))
find_at p (x ∷ xs) (suc n) before here = ap (λ b. cond b (Some x) (find p xs)) (before zero x (omega arith) (omega arith)) ∙ find_at p xs n (λ k d lt within. before (suc k) d (omega arith) (omega arith)) (λ d within. here d (omega arith))

-- one change more of the key
more_of : (q : List ℕ) (cs : List KeyChange) (i : ℕ) (x : KeyChange) → i < length cs → x ≡ get_or cs i x → eq_by_cmp key_cmp q x.key ≡ true → changes_of q (take (i + 1) cs) ≡ changes_of q (take i cs) ++ x ∷ []
more_of q cs i x lt is e =
    ap (changes_of q) (take_more cs i x lt) ∙ ap (λ y. changes_of q (take i cs ++ y ∷ [])) (sym is) ∙ filter-append (λ c. eq_by_cmp key_cmp q c.key) (take i cs) (x ∷ [])
    ∙ ap (λ b. changes_of q (take i cs) ++ cond b (x ∷ []) []) e

pub step_more : (fill : Row) (q : List ℕ) (t : ℕ) (cs : List KeyChange) (i : ℕ) (x : KeyChange) (row new : Option Row) → i < length cs → x ≡ get_or cs i x → eq_by_cmp key_cmp q x.key ≡ true
    → new ≡ after_steps t (step_in fill x ∷ []) row → row ≡ after_steps t (map (step_in fill) (changes_of q (take i cs))) None → new ≡ after_steps t (map (step_in fill) (changes_of q (take (i + 1) cs))) None
step_more fill q t cs i x row new lt is e one before =
    one ∙ ap (after_steps t (step_in fill x ∷ [])) before ∙ sym (after_steps-append t (map (step_in fill) (changes_of q (take i cs))) (step_in fill x ∷ []) None)
    ∙ ap (λ l. after_steps t l None) (sym (ap (map (step_in fill)) (more_of q cs i x lt is e) ∙ map-append (step_in fill) (changes_of q (take i cs)) (x ∷ [])))

-- the first key that is above another, or the first of all
pub above_none : (cs : List KeyChange) → option_map (λ c. c.key) (slice_get cs 0) ≡ key_above None (keys_in cs)
above_none cs = ap (option_map (λ c. c.key)) (sym (find_at (λ c. is_above None c.key) cs 0 (λ k d lt within. absurd (omega arith)) (λ d within. refl))) ∙ sym (find_keys (is_above None) cs)

pub above_some : (cs : List KeyChange) (a : List ℕ) (n : ℕ) → IsPartitionPoint (λ c. not (is_lt (key_cmp a c.key)) ≡ true) (λ c. not (is_lt (key_cmp a c.key)) ≡ false) cs n → option_map (λ c. c.key) (slice_get cs n) ≡ key_above (Some a) (keys_in cs)
above_some cs a n parts = ap (option_map (λ c. c.key)) (sym (find_at (λ c. is_above (Some a) c.key) cs n (λ k d lt within. not_true _ (parts.0 k d (omega arith) lt)) (λ d within. not_false _ (parts.1 n d (omega arith) within)))) ∙ sym (find_keys (is_above (Some a)) cs)
  where
    not_false : (b : Bool) → not b ≡ false → b ≡ true
    not_false true h = refl
    not_false false h = sym h

-- THE PLACE THAT IS GUESSED
-- where an element fails that no earlier one but the last before it is known to pass, those that pass end
point_at : {X : Type 0} (p : X → Bool) (xs : List X) (i : ℕ) → IsPartitionedBy p xs → i ≤ length xs → ((d : X) → i < length xs → p (get_or xs i d) ≡ false) → ((k : ℕ) (d : X) → i ≡ k + 1 → p (get_or xs k d) ≡ true)
    → IsPartitionPoint (λ y. p y ≡ true) (λ y. p y ≡ false) xs i
point_at {X = X} p xs i parts le here before = (below i le before, above)
  where
    below : (j : ℕ) → j ≤ length xs → ((k : ℕ) (d : X) → j ≡ k + 1 → p (get_or xs k d) ≡ true) → (k : ℕ) (d : X) → 0 ≤ k → k < j → p (get_or xs k d) ≡ true
    below zero le before k d low lt = absurd (omega arith)
    below (suc j) le before k d low lt = parts k j d (omega arith) (omega arith) (before j d (omega arith))

    above : (k : ℕ) (d : X) → i ≤ k → k < length xs → p (get_or xs k d) ≡ false
    above k d ge within = by_bool (p (get_or xs k d)) (λ pass. absurd (false≢true (sym (here d (omega arith)) ∙ parts i k d ge within pass))) (λ fail. fail)

get_at : {X : Type 0} (xs : List X) (k : ℕ) (d : X) → k < length xs → slice_get xs k ≡ Some (get_or xs k d)
get_at [] k d lt = absurd (omega arith)
get_at (x ∷ xs) zero d lt = refl
get_at (x ∷ xs) (suc k) d lt = get_at xs k d (omega arith)

abbrev key_at : List KeyChange → ℕ → Option (List ℕ)
key_at cs k = option_map (λ c. c.key) (slice_get cs k)

pub above_begin : (cs : List KeyChange) (q : List ℕ) (at : ℕ) → rises cs ≡ true → at ≤ length cs → is_above_at q (key_at cs at) ≡ true → ((k : ℕ) → at ≡ k + 1 → is_above_at q (key_at cs k) ≡ false)
    → IsPartitionPoint (λ c. not (is_lt (key_cmp q c.key)) ≡ true) (λ c. not (is_lt (key_cmp q c.key)) ≡ false) cs at
above_begin cs q at h le here before = point_at (λ c. not (is_lt (key_cmp q c.key))) cs at (parts_not_above cs q h) le
    (λ d lt. ap not (sym (ap (λ (o : Option KeyChange). is_above_at q (option_map (λ c. c.key) o)) (get_at cs at d lt)) ∙ here))
    (λ k d e. ap not (sym (ap (λ (o : Option KeyChange). is_above_at q (option_map (λ c. c.key) o)) (get_at cs k d (omega (arith, e, le)))) ∙ before k e))

pub reached_begin : (cs : List KeyChange) (q : List ℕ) (at : ℕ) → rises cs ≡ true → at ≤ length cs → is_reached_at q (key_at cs at) ≡ true → ((k : ℕ) → at ≡ k + 1 → is_reached_at q (key_at cs k) ≡ false)
    → IsPartitionPoint (λ c. is_lt (key_cmp c.key q) ≡ true) (λ c. is_lt (key_cmp c.key q) ≡ false) cs at
reached_begin cs q at h le here before = point_at (λ c. is_lt (key_cmp c.key q)) cs at (parts_below cs q h) le
    (λ d lt. not_true _ (sym (ap (λ (o : Option KeyChange). is_reached_at q (option_map (λ c. c.key) o)) (get_at cs at d lt)) ∙ here))
    (λ k d e. not_not _ (sym (ap (λ (o : Option KeyChange). is_reached_at q (option_map (λ c. c.key) o)) (get_at cs k d (omega (arith, e, le)))) ∙ before k e))
  where
    not_not : (b : Bool) → not b ≡ false → b ≡ true
    not_not true e = refl
    not_not false e = sym e

-- WHERE THE CHANGES OF A KEY BEGIN AND END
some_is : {X : Type 0} (x y : X) → Some x ≡ Some y → x ≡ y
some_is x y e = cc

apart_less : (a b : List ℕ) → is_gt (key_cmp a b) ≡ false → (a ≡ b → ⊥) → is_lt (key_cmp a b) ≡ true
apart_less a b le ne = less (key_cmp a b) le (by_bool (eq_by_cmp key_cmp a b) (λ e. absurd (ne (same_key a b e))) (λ e. e))
  where
    less : (o : Ordering) → is_gt o ≡ false → is_eq o ≡ false → is_lt o ≡ true
    less Less g e = refl
    less Equal g e = absurd (false≢true (sym e))
    less Greater g e = absurd (false≢true (sym g))

-- the key of a change that is there
key_is : (cs : List KeyChange) (k : ℕ) (q : List ℕ) → key_at cs k ≡ Some q → (k < length cs) × ((d : KeyChange) → (get_or cs k d).key ≡ q)
key_is [] k q e = absurd cc
key_is (c ∷ cs) zero q e = (omega arith, λ d. some_is c.key q e)
key_is (c ∷ cs) (suc k) q e = let rest = key_is cs k q e in (omega (arith, rest.0), rest.1)

module _ (cs : List KeyChange) (q : List ℕ) (h : rises cs ≡ true) where
  any_change : KeyChange
  any_change = record { key = []; ts = 0; change = Del }

  -- two neighbours of different keys
  rise_between : (k : ℕ) (a b : List ℕ) → key_at cs k ≡ Some a → key_at cs (k + 1) ≡ Some b → (key_at cs k ≡ key_at cs (k + 1) → ⊥) → is_lt (key_cmp a b) ≡ true
  rise_between k a b here behind other =
      let one = key_is cs k a here in
      let two = key_is cs (k + 1) b behind in
      apart_less a b
      (ap (λ x. is_gt (key_cmp x b)) (sym (one.1 any_change)) ∙ ap (λ x. is_gt (key_cmp (get_or cs k any_change).key x)) (sym (two.1 any_change)) ∙ rises_at cs k (k + 1) any_change h (omega arith) two.0)
      (λ same. other (here ∙ ap Some same ∙ sym behind))

  -- behind the last change of a key, those above it begin
  pub above_next : (k : ℕ) → key_at cs k ≡ Some q → (key_at cs k ≡ key_at cs (k + 1) → ⊥) → is_above_at q (key_at cs (k + 1)) ≡ true
  above_next k here other = by (key_at cs (k + 1)) refl
    where
      by : (o : Option (List ℕ)) → key_at cs (k + 1) ≡ o → is_above_at q o ≡ true
      by None e = refl
      by (Some b) e = rise_between k q b here e other

  -- before the first change of a key, all are below it
  pub below_before : (k : ℕ) → key_at cs (k + 1) ≡ Some q → (key_at cs k ≡ key_at cs (k + 1) → ⊥) → is_reached_at q (key_at cs k) ≡ false
  below_before k here other =
      let within = (key_is cs (k + 1) q here).0 in
      let before : key_at cs k ≡ Some (get_or cs k any_change).key = ap (option_map (λ c. c.key)) (get_at cs k any_change (omega arith)) in
      ap (is_reached_at q) before ∙ ap not (rise_between k (get_or cs k any_change).key q before here other)

pub not_above_itself : (cs : List KeyChange) (q : List ℕ) (k : ℕ) → key_at cs k ≡ Some q → is_above_at q (key_at cs k) ≡ false
not_above_itself cs q k here = ap (is_above_at q) here ∙ ap is_lt (tied_itself order q)

pub reaches_itself : (cs : List KeyChange) (q : List ℕ) (k : ℕ) → key_at cs k ≡ Some q → is_reached_at q (key_at cs k) ≡ true
reaches_itself cs q k here = ap (is_reached_at q) here ∙ ap (λ o. not (is_lt o)) (tied_itself order q)

pub key_within : (cs : List KeyChange) (q : List ℕ) (k : ℕ) → key_at cs k ≡ Some q → k < length cs
key_within cs q k here = (key_is cs k q here).0

-- the change at a place is of a key, or it is not
pub change_is : (q : List ℕ) (o : Option KeyChange) → option_map (λ c. c.key) o ≡ Some q → change_there q o ≡ o
change_is q None e = absurd cc
change_is q (Some x) e = ap (λ b. cond b (Some x) None) (ap (λ k. is_eq (key_cmp q k)) (some_is x.key q e) ∙ ap is_eq (tied_itself order q))

pub change_is_not : (q : List ℕ) (o : Option KeyChange) → (option_map (λ c. c.key) o ≡ Some q → ⊥) → change_there q o ≡ None
change_is_not q None other = refl
change_is_not q (Some x) other = by_bool (eq_by_cmp key_cmp q x.key) (λ same. absurd (other (ap Some (sym (same_key q x.key same))))) (λ e. ap (λ b. cond b (Some x) None) e)

-- THE CHANGES OF A KEY, ONE BY ONE
got : {X : Type 0} (xs : List X) (k : ℕ) (x : X) → slice_get xs k ≡ Some x → (k < length xs) × (x ≡ get_or xs k x) × (drop k xs ≡ x ∷ drop (suc k) xs)
got [] k x e = absurd cc
got (y ∷ xs) zero x e = let is = some_is y x e in (omega arith, sym is, ap (λ z. z ∷ xs) is)
got (y ∷ xs) (suc k) x e = let rest = got xs k x e in (omega (arith, rest.0), rest.1, rest.2)

ended : {X : Type 0} (xs : List X) (k : ℕ) → slice_get xs k ≡ None → take k xs ≡ xs
ended [] zero e = refl
ended [] (suc k) e = refl
ended (y ∷ xs) zero e = absurd cc
ended (y ∷ xs) (suc k) e = ap (λ rest. y ∷ rest) (ended xs k e)

taken_all : {X : Type 0} (xs : List X) (k : ℕ) → length xs ≤ k → take k xs ≡ xs
taken_all [] zero past = refl
taken_all [] (suc k) past = refl
taken_all (y ∷ xs) zero past = absurd (omega arith)
taken_all (y ∷ xs) (suc k) past = ap (λ rest. y ∷ rest) (taken_all xs k (omega arith))

taken_and_left : {X : Type 0} (n : ℕ) (xs : List X) → take n xs ++ drop n xs ≡ xs
taken_and_left zero xs = refl
taken_and_left (suc n) [] = refl
taken_and_left (suc n) (x ∷ xs) = ap (λ rest. x ∷ rest) (taken_and_left n xs)

-- before the first change of a key there is none of it
none_before : (q : List ℕ) (cs : List KeyChange) (n : ℕ) → ((k : ℕ) (d : KeyChange) → k < n → is_lt (key_cmp (get_or cs k d).key q) ≡ true) → changes_of q (take n cs) ≡ []
none_before q cs zero below = refl
none_before q [] (suc n) below = refl
none_before q (c ∷ cs) (suc n) below =
    ap (λ b. cond b (c ∷ changes_of q (take n cs)) (changes_of q (take n cs))) (not_below q c.key (below zero c (omega arith))) ∙ none_before q cs n (λ k d lt. below (suc k) d (omega arith))

module _ (fill : Row) (q : List ℕ) (t : ℕ) (cs : List KeyChange) where
  -- the row after the changes of the key among the first so many
  abbrev pub row_after : ℕ → Option Row
  row_after at = after_steps t (map (step_in fill) (changes_of q (take at cs))) None

  pub row_begins : (n : ℕ) → IsPartitionPoint (λ c. is_lt (key_cmp c.key q) ≡ true) (λ c. is_lt (key_cmp c.key q) ≡ false) cs n → None ≡ row_after n
  row_begins n parts = sym (ap (λ l. after_steps t (map (step_in fill) l) None) (none_before q cs n (λ k d lt. parts.0 k d (omega arith) lt)))

  pub row_goes_on : (at : ℕ) (s : ℕ × Change) (row new : Option Row) → Some s ≡ option_map step_of (change_there q (slice_get cs at)) → new ≡ after_steps t ((s.0, filled_change fill s.1) ∷ []) row → row ≡ row_after at
      → (at < length cs) × (new ≡ row_after (at + 1))
  row_goes_on at s row new told one before = by (slice_get cs at) refl told
    where
      by : (o : Option KeyChange) → slice_get cs at ≡ o → Some s ≡ option_map step_of (change_there q o) → (at < length cs) × (new ≡ row_after (at + 1))
      by None e told = absurd cc
      by (Some x) e told = by_bool (eq_by_cmp key_cmp q x.key)
          (λ same. let here = got cs at x e in
          let is = some_is s (step_of x) (told ∙ ap (λ b. option_map step_of (cond b (Some x) None)) same) in
          (here.0, step_more fill q t cs at x row new here.0 here.1 same (one ∙ ap (λ (c : ℕ × Change). after_steps t ((c.0, filled_change fill c.1) ∷ []) row) is) before))
          (λ other. let none : Some s ≡ None = told ∙ ap (λ b. option_map step_of (cond b (Some x) None)) other in absurd cc)

  pub row_ends : (n at : ℕ) (row : Option Row) → rises cs ≡ true → n ≤ at → IsPartitionPoint (λ c. is_lt (key_cmp c.key q) ≡ true) (λ c. is_lt (key_cmp c.key q) ≡ false) cs n
      → None ≡ option_map step_of (change_there q (slice_get cs at)) → row ≡ row_after at → row ≡ row_in fill cs q t
  row_ends n at row h le parts told before = before ∙ ap (λ l. after_steps t (map (step_in fill) l) None) (by (slice_get cs at) refl told)
    where
      by : (o : Option KeyChange) → slice_get cs at ≡ o → None ≡ option_map step_of (change_there q o) → changes_of q (take at cs) ≡ changes_of q cs
      by None e told = ap (changes_of q) (ended cs at e)
      by (Some x) e told = by_bool (eq_by_cmp key_cmp q x.key)
          (λ same. let none : None ≡ Some (step_of x) = told ∙ ap (λ b. option_map step_of (cond b (Some x) None)) same in absurd cc)
          (λ other. let here = got cs at x e in
          let not_under : is_lt (key_cmp x.key q) ≡ false = ap (λ (y : KeyChange). is_lt (key_cmp y.key q)) here.1 ∙ parts.1 at x le here.0 in
          let rest : changes_of q (drop at cs) ≡ [] = ap (changes_of q) here.2 ∙ none_after q x (drop (suc at) cs) (ap rises (sym here.2) ∙ rises_drop at cs h) not_under other in
          sym (append-nil (changes_of q (take at cs))) ∙ ap (λ l. changes_of q (take at cs) ++ l) (sym rest) ∙ sym (filter-append (λ c. eq_by_cmp key_cmp q c.key) (take at cs) (drop at cs)) ∙ ap (changes_of q) (taken_and_left at cs))

  pub row_past : (at : ℕ) (row : Option Row) → length cs ≤ at → row ≡ row_after at → row ≡ row_in fill cs q t
  row_past at row past before = before ∙ ap (λ l. after_steps t (map (step_in fill) (changes_of q l)) None) (taken_all cs at past)
