-- The least of the keys that come next, and those that come behind it.
use Rattle.std.proofs.Common.{◌≡◌, ℕ, Bool, true, false, cond, List, [], ◌∷◌, Option, Some, None, refl, sym, ap, ◌∙◌, subst}
use Rattle.std.specs.List.{AllByRecursion, find}
use Rattle.std.specs.Ordering.{is_lt, is_eq, eq_by_cmp, ordering_reverse}
use Rattle.std.specs.declared.cmp.Ordering.{Ordering}
use Rattle.std.specs.declared.cmp.Ordering.TheVariants.{Less, Equal, Greater}
use Rattle.std.specs.Cmp.{tied_itself}
use Rattle.std.proofs.lemmas.Bool.{false≢true}
use Rattle.kt_history.specs.Rows.{key_cmp}
use Rattle.kt_history.specs.Views.{AreRising, is_above, key_above}
use Rattle.kt_merge.specs.Heads.{lesser, least_in, is_next}
use Rattle.kt_merge.proofs.KeyChanges.{order, by_bool, same_key}

-- ---- two keys

less_of : (o : Ordering) → is_lt o ≡ true → o ≡ Less
less_of Less e = refl
less_of Equal e = absurd (false≢true e)
less_of Greater e = absurd (false≢true e)

lt_of : (a b : List ℕ) → is_lt (key_cmp a b) ≡ true → key_cmp a b ≡ Less
lt_of a b e = less_of (key_cmp a b) e

pub itself : (a : List ℕ) → eq_by_cmp key_cmp a a ≡ true
itself a = ap is_eq (tied_itself order a)

pub not_itself : (a : List ℕ) → is_lt (key_cmp a a) ≡ false
not_itself a = ap is_lt (tied_itself order a)

turned_lt : (o : Ordering) → o ≡ Less → is_lt (ordering_reverse o) ≡ false
turned_lt Less e = refl
turned_lt Equal e = cc
turned_lt Greater e = cc

-- of two keys one at most is below the other
pub not_both : (a b : List ℕ) → is_lt (key_cmp a b) ≡ true → is_lt (key_cmp b a) ≡ false
not_both a b e = ap is_lt (order.antisymm b a) ∙ turned_lt (key_cmp a b) (lt_of a b e)

pub lt_trans : (a b c : List ℕ) → is_lt (key_cmp a b) ≡ true → is_lt (key_cmp b c) ≡ true → is_lt (key_cmp a c) ≡ true
lt_trans a b c e f = ap is_lt (order.trans a b c (lt_of a b e) (lt_of b c f))

neq_of : (o : Ordering) → is_lt o ≡ true → is_eq o ≡ false
neq_of Less e = refl
neq_of Equal e = absurd (false≢true e)
neq_of Greater e = absurd (false≢true e)

pub lt_is_other : (a b : List ℕ) → is_lt (key_cmp a b) ≡ true → eq_by_cmp key_cmp a b ≡ false
lt_is_other a b e = neq_of (key_cmp a b) e

neq_back : (o : Ordering) → is_lt o ≡ true → is_eq (ordering_reverse o) ≡ false
neq_back Less e = refl
neq_back Equal e = absurd (false≢true e)
neq_back Greater e = absurd (false≢true e)

pub lt_is_other_back : (a b : List ℕ) → is_lt (key_cmp a b) ≡ true → eq_by_cmp key_cmp b a ≡ false
lt_is_other_back a b e = ap is_eq (order.antisymm b a) ∙ neq_back (key_cmp a b) e

-- a key that is neither below another one nor the same is above it
above_of : (o : Ordering) → is_lt o ≡ false → is_eq o ≡ false → is_lt (ordering_reverse o) ≡ true
above_of Less e f = absurd (false≢true (sym e))
above_of Equal e f = absurd (false≢true (sym f))
above_of Greater e f = refl

pub is_behind : (k q : List ℕ) → is_lt (key_cmp k q) ≡ false → eq_by_cmp key_cmp k q ≡ false → is_lt (key_cmp q k) ≡ true
is_behind k q e f = ap is_lt (order.antisymm q k) ∙ above_of (key_cmp k q) e f

-- what is not below a key is not below a lesser one
pub not_below_too : (k b a : List ℕ) → is_lt (key_cmp k b) ≡ false → is_lt (key_cmp b a) ≡ false → is_lt (key_cmp k a) ≡ false
not_below_too k b a e f = by_bool (is_lt (key_cmp k a))
    (λ low. by_bool (eq_by_cmp key_cmp k b)
    (λ same. absurd (false≢true (sym f ∙ subst (λ (x : List ℕ). is_lt (key_cmp x a) ≡ true) (same_key k b same) low)))
    (λ other. absurd (false≢true (sym f ∙ lt_trans b k a (is_behind k b e other) low))))
    (λ no_. no_)

-- ---- the least key

-- a key is not above one that comes next, if there is one
abbrev pub AtOrBelow : List ℕ → Option (List ℕ) → Type 0
AtOrBelow q None = Unit {0}
AtOrBelow q (Some k) = is_lt (key_cmp k q) ≡ false

some_is : (a b : List ℕ) → Some a ≡ Some b → a ≡ b
some_is a b e = cc

all_none : (os : List (Option (List ℕ))) (q : List ℕ) → least_in os ≡ None → AllByRecursion (AtOrBelow q) os
all_none [] q e = tt
all_none (None ∷ os) q e = (tt, all_none os q e)
all_none (Some a ∷ os) q e = by (least_in os) e
  where
    by : (b : Option (List ℕ)) → lesser (Some a) b ≡ None → AllByRecursion (AtOrBelow q) (Some a ∷ os)
    by None f = cc
    by (Some b) f = by_bool (is_lt (key_cmp b a))
        (λ low. absurd (let g : Some b ≡ None = sym (ap (λ (x : Bool). cond x (Some b) (Some a)) low) ∙ f in cc))
        (λ high. absurd (let g : Some a ≡ None = sym (ap (λ (x : Bool). cond x (Some b) (Some a)) high) ∙ f in cc))

weaker : (b a : List ℕ) (os : List (Option (List ℕ))) → is_lt (key_cmp b a) ≡ false → AllByRecursion (AtOrBelow b) os → AllByRecursion (AtOrBelow a) os
weaker b a [] le h = tt
weaker b a (None ∷ os) le h = (tt, weaker b a os le h.1)
weaker b a (Some k ∷ os) le h = (not_below_too k b a h.0 le, weaker b a os le h.1)

pub least_below : (os : List (Option (List ℕ))) (q : List ℕ) → least_in os ≡ Some q → AllByRecursion (AtOrBelow q) os
least_below [] q e = cc
least_below (None ∷ os) q e = (tt, least_below os q e)
least_below (Some a ∷ os) q e = by (least_in os) refl e (λ b is. least_below os b is)
  where
    by : (b : Option (List ℕ)) → least_in os ≡ b → lesser (Some a) b ≡ Some q → ((b : List ℕ) → least_in os ≡ Some b → AllByRecursion (AtOrBelow b) os) → AllByRecursion (AtOrBelow q) (Some a ∷ os)
    by None is f more = let same = some_is a q f in (subst (λ (x : List ℕ). is_lt (key_cmp a x) ≡ false) same (not_itself a), all_none os q is)
    by (Some b) is f more = by_bool (is_lt (key_cmp b a))
        (λ low. let same = some_is b q (sym (ap (λ (x : Bool). cond x (Some b) (Some a)) low) ∙ f) in
        subst (λ (x : List ℕ). AllByRecursion (AtOrBelow x) (Some a ∷ os)) same (not_both b a low, more b is))
        (λ high. let same = some_is a q (sym (ap (λ (x : Bool). cond x (Some b) (Some a)) high) ∙ f) in
        subst (λ (x : List ℕ). AllByRecursion (AtOrBelow x) (Some a ∷ os)) same (not_itself a, weaker b a os high (more b is)))

-- what holds of each key that comes next holds of the least
pub least_has : (P : List ℕ → Type 0) (os : List (Option (List ℕ))) (q : List ℕ) → AllByRecursion (λ (o : Option (List ℕ)). (k : List ℕ) → o ≡ Some k → P k) os → least_in os ≡ Some q → P q
least_has P [] q h e = cc
least_has P (None ∷ os) q h e = least_has P os q h.1 e
least_has P (Some a ∷ os) q h e = by (least_in os) refl e (λ b is. least_has P os b h.1 is)
  where
    by : (b : Option (List ℕ)) → least_in os ≡ b → lesser (Some a) b ≡ Some q → ((b : List ℕ) → least_in os ≡ Some b → P b) → P q
    by None is f more = subst P (some_is a q f) (h.0 a refl)
    by (Some b) is f more = by_bool (is_lt (key_cmp b a))
        (λ low. subst P (some_is b q (sym (ap (λ (x : Bool). cond x (Some b) (Some a)) low) ∙ f)) (more b is))
        (λ high. subst P (some_is a q (sym (ap (λ (x : Bool). cond x (Some b) (Some a)) high) ∙ f)) (h.0 a refl))

-- ---- keys above one

pub found_passes : (p : List ℕ → Bool) (keys : List (List ℕ)) (k : List ℕ) → find p keys ≡ Some k → p k ≡ true
found_passes p [] k e = cc
found_passes p (x ∷ keys) k e = by_bool (p x)
    (λ yes. subst (λ (y : List ℕ). p y ≡ true) (some_is x k (sym (ap (λ (b : Bool). cond b (Some x) (find p keys)) yes) ∙ e)) yes)
    (λ no_. found_passes p keys k (sym (ap (λ (b : Bool). cond b (Some x) (find p keys)) no_) ∙ e))

-- none of these is the key
abbrev pub Lacks : List ℕ → List (List ℕ) → Type 0
Lacks q keys = AllByRecursion (λ (k : List ℕ). eq_by_cmp key_cmp q k ≡ false) keys

all_behind : (q k : List ℕ) (keys : List (List ℕ)) → is_lt (key_cmp q k) ≡ true → AllByRecursion (λ (other : List ℕ). key_cmp k other ≡ Less) keys → Lacks q keys
all_behind q k [] lt h = tt
all_behind q k (x ∷ keys) lt h = (lt_is_other q x (lt_trans q k x lt (ap is_lt h.0)), all_behind q k keys lt h.1)

-- where a key above one comes not behind the next one, and is another, it is none of the keys
pub lacks_next : (after : Option (List ℕ)) (q : List ℕ) (keys : List (List ℕ)) → AreRising keys → is_above after q ≡ true → AtOrBelow q (key_above after keys) → is_next (key_above after keys) q ≡ false → Lacks q keys
lacks_next after q [] rise up le ne = tt
lacks_next after q (k ∷ keys) rise up le ne = by_bool (is_above after k)
    (λ yes.
    let here : key_above after (k ∷ keys) ≡ Some k = ap (λ (b : Bool). cond b (Some k) (key_above after keys)) yes in
    let behind = is_behind k q (subst (AtOrBelow q) here le) (sym (ap (λ (o : Option (List ℕ)). is_next o q) here) ∙ ne) in
    (lt_is_other q k behind, all_behind q k keys behind rise.0))
    (λ no_.
    let here : key_above after (k ∷ keys) ≡ key_above after keys = ap (λ (b : Bool). cond b (Some k) (key_above after keys)) no_ in (
      by_bool (eq_by_cmp key_cmp q k) (λ same. absurd (false≢true (sym no_ ∙ subst (λ (x : List ℕ). is_above after x ≡ true) (same_key q k same) up))) (λ other. other),
      lacks_next after q keys rise.1 up (subst (AtOrBelow q) here le) (sym (ap (λ (o : Option (List ℕ)). is_next o q) here) ∙ ne),
    ))

above_trans : (after : Option (List ℕ)) (q k : List ℕ) → is_above after q ≡ true → is_lt (key_cmp q k) ≡ true → is_above after k ≡ true
above_trans None q k up lt = refl
above_trans (Some a) q k up lt = lt_trans a q k up lt

-- where the next key above one is above another one too, it is the next above that
pub stays_next : (after : Option (List ℕ)) (q : List ℕ) (keys : List (List ℕ)) → is_above after q ≡ true → ((k : List ℕ) → key_above after keys ≡ Some k → is_lt (key_cmp q k) ≡ true) → key_above (Some q) keys ≡ key_above after keys
stays_next after q [] up next = refl
stays_next after q (k ∷ keys) up next = by_bool (is_above after k)
    (λ yes.
    let here : key_above after (k ∷ keys) ≡ Some k = ap (λ (b : Bool). cond b (Some k) (key_above after keys)) yes in
    ap (λ (b : Bool). cond b (Some k) (key_above (Some q) keys)) (next k here) ∙ sym here)
    (λ no_.
    let here : key_above after (k ∷ keys) ≡ key_above after keys = ap (λ (b : Bool). cond b (Some k) (key_above after keys)) no_ in
    let below : is_lt (key_cmp q k) ≡ false = by_bool (is_lt (key_cmp q k)) (λ lt. absurd (false≢true (sym no_ ∙ above_trans after q k up lt))) (λ b. b) in
    ap (λ (b : Bool). cond b (Some k) (key_above (Some q) keys)) below ∙ stays_next after q keys up (λ x is. next x (here ∙ is)) ∙ sym here)

-- a key that is not above one is not above a greater one
pub not_above_more : (after : Option (List ℕ)) (q k : List ℕ) → is_above after q ≡ true → is_above after k ≡ false → is_lt (key_cmp q k) ≡ false
not_above_more after q k up no_ = by_bool (is_lt (key_cmp q k)) (λ lt. absurd (false≢true (sym no_ ∙ above_trans after q k up lt))) (λ b. b)

-- a key that is not above one lies below a key that is
pub below_next : (after : Option (List ℕ)) (q k : List ℕ) → is_above after q ≡ true → is_above after k ≡ false → key_cmp k q ≡ Less
below_next None q k up no_ = absurd (false≢true (sym no_))
below_next (Some a) q k up no_ = by_bool (is_lt (key_cmp k q))
    (λ lt. lt_of k q lt)
    (λ ge. absurd (by_bool (eq_by_cmp key_cmp k q)
    (λ same. false≢true (sym no_ ∙ subst (λ (x : List ℕ). is_lt (key_cmp a x) ≡ true) (sym (same_key k q same)) up))
    (λ other. false≢true (sym no_ ∙ lt_trans a q k up (is_behind k q ge other)))))
