-- Sorted maps: the order of keys, a search, and a key that is put in.
use Rattle.std.proofs.Common.{◌≡◌, ℕ, suc, ◌+◌, Bool, true, false, cond, List, [], ◌∷◌, ◌++◌, length, refl, sym, ap, ◌∙◌, arith, Some, None}
use Rattle.std.specs.List.{find}
use Rattle.std.specs.Option.{option_map}
use Rattle.std.specs.Ordering.{is_eq, is_gt, ordering_reverse}
use Rattle.std.specs.declared.cmp.Ordering.{Ordering}
use Rattle.std.specs.declared.cmp.Ordering.TheVariants.{Less, Equal, Greater}
use Rattle.std.specs.Cmp.Lexicographic.{nat_list_cmp_total}
use Rattle.kt_tree.specs.Entries.{Entry, order, IsBelow, AreBelow, AreAbove, IsRising, is_at, value_of, is_after, put_at, put}

-- ---- the order of two keys

pub below_trans : (a b c : List ℕ) → IsBelow a b → IsBelow b c → IsBelow a c
below_trans a b c h k = nat_list_cmp_total.trans a b c h k

-- a key that is above, as the other is below
pub above_is : (a b : List ℕ) → order a b ≡ Greater → IsBelow b a
above_is a b e = nat_list_cmp_total.antisymm b a ∙ ap ordering_reverse e

pub greater_is : (a b : List ℕ) → IsBelow b a → order a b ≡ Greater
greater_is a b e = nat_list_cmp_total.antisymm a b ∙ ap ordering_reverse e

-- what is below a key is below an equal one
pub below_equal : (a b c : List ℕ) → order b c ≡ Equal → IsBelow a b → IsBelow a c
below_equal a b c e h = nat_list_cmp_total.antisymm a c ∙ ap ordering_reverse (sym (nat_list_cmp_total.congr b c a e)) ∙ sym (nat_list_cmp_total.antisymm a b) ∙ h

-- what is above a key is above an equal one
pub above_equal : (a b c : List ℕ) → order b c ≡ Equal → IsBelow b a → IsBelow c a
above_equal a b c e h = sym (nat_list_cmp_total.congr b c a e) ∙ h

-- ---- keys below and above one

pub below_weaker : (a b : List ℕ) (es : List Entry) → IsBelow a b → AreBelow a es → AreBelow b es
below_weaker a b [] h k = tt
below_weaker a b (e ∷ es) h k = (below_trans e.key a b k.0 h, below_weaker a b es h k.1)

pub above_weaker : (a b : List ℕ) (es : List Entry) → IsBelow b a → AreAbove a es → AreAbove b es
above_weaker a b [] h k = tt
above_weaker a b (e ∷ es) h k = (below_trans b a e.key h k.0, above_weaker a b es h k.1)

pub below_same : (a b : List ℕ) (es : List Entry) → order a b ≡ Equal → AreBelow a es → AreBelow b es
below_same a b [] h k = tt
below_same a b (e ∷ es) h k = (below_equal e.key a b h k.0, below_same a b es h k.1)

pub above_same : (a b : List ℕ) (es : List Entry) → order a b ≡ Equal → AreAbove a es → AreAbove b es
above_same a b [] h k = tt
above_same a b (e ∷ es) h k = (above_equal e.key a b h k.0, above_same a b es h k.1)

pub below_append : (a : List ℕ) (xs ys : List Entry) → AreBelow a xs → AreBelow a ys → AreBelow a (xs ++ ys)
below_append a [] ys h k = k
below_append a (x ∷ xs) ys h k = (h.0, below_append a xs ys h.1 k)

pub above_append : (a : List ℕ) (xs ys : List Entry) → AreAbove a xs → AreAbove a ys → AreAbove a (xs ++ ys)
above_append a [] ys h k = k
above_append a (x ∷ xs) ys h k = (h.0, above_append a xs ys h.1 k)

pub above_right : (a : List ℕ) (xs ys : List Entry) → AreAbove a (xs ++ ys) → AreAbove a ys
above_right a [] ys h = h
above_right a (x ∷ xs) ys h = above_right a xs ys h.1

pub above_left : (a : List ℕ) (xs ys : List Entry) → AreAbove a (xs ++ ys) → AreAbove a xs
above_left a [] ys h = tt
above_left a (x ∷ xs) ys h = (h.0, above_left a xs ys h.1)

pub rising_right : (xs ys : List Entry) → IsRising (xs ++ ys) → IsRising ys
rising_right [] ys h = h
rising_right (x ∷ xs) ys h = rising_right xs ys h.1

pub rising_left : (xs ys : List Entry) → IsRising (xs ++ ys) → IsRising xs
rising_left [] ys h = tt
rising_left (x ∷ xs) ys h = (above_left x.key xs ys h.0, rising_left xs ys h.1)

-- what stands before a key is below it
pub rising_below : (xs : List Entry) (e : Entry) (ys : List Entry) → IsRising (xs ++ e ∷ ys) → AreBelow e.key xs
rising_below [] e ys h = tt
rising_below (x ∷ xs) e ys h = ((above_right x.key xs (e ∷ ys) h.0).0, rising_below xs e ys h.1)

-- what stands after a key is above it
pub rising_above : (xs : List Entry) (e : Entry) (ys : List Entry) → IsRising (xs ++ e ∷ ys) → AreAbove e.key ys
rising_above xs e ys h = (rising_right xs (e ∷ ys) h).0

-- ---- a search

pub find_past : (p : Entry → Bool) (xs ys : List Entry) → find p xs ≡ None → find p (xs ++ ys) ≡ find p ys
find_past p [] ys h = refl
find_past p (x ∷ xs) ys h = by (p x) (λ k. find_past p xs ys k) h
  where
    by : (b : Bool) → (find p xs ≡ None → find p (xs ++ ys) ≡ find p ys) → cond b (Some x) (find p xs) ≡ None → cond b (Some x) (find p (xs ++ ys)) ≡ find p ys
    by true more h = cc
    by false more h = more h

pub find_in : (p : Entry → Bool) (xs ys : List Entry) (e : Entry) → find p xs ≡ Some e → find p (xs ++ ys) ≡ Some e
find_in p [] ys e h = cc
find_in p (x ∷ xs) ys e h = by (p x) (λ k. find_in p xs ys e k) h
  where
    by : (b : Bool) → (find p xs ≡ Some e → find p (xs ++ ys) ≡ Some e) → cond b (Some x) (find p xs) ≡ Some e → cond b (Some x) (find p (xs ++ ys)) ≡ Some e
    by true more h = h
    by false more h = more h

pub find_first : (p : Entry → Bool) (x : Entry) (xs : List Entry) → p x ≡ true → find p (x ∷ xs) ≡ Some x
find_first p x xs h = ap (λ b. cond b (Some x) (find p xs)) h

pub find_next : (p : Entry → Bool) (x : Entry) (xs : List Entry) → p x ≡ false → find p (x ∷ xs) ≡ find p xs
find_next p x xs h = ap (λ b. cond b (Some x) (find p xs)) h

-- a search that finds nothing in the whole finds nothing in a part
pub none_left : (p : Entry → Bool) (xs ys : List Entry) → find p (xs ++ ys) ≡ None → find p xs ≡ None
none_left p [] ys h = refl
none_left p (x ∷ xs) ys h = by (p x) (λ k. none_left p xs ys k) h
  where
    by : (b : Bool) → (find p (xs ++ ys) ≡ None → find p xs ≡ None) → cond b (Some x) (find p (xs ++ ys)) ≡ None → cond b (Some x) (find p xs) ≡ None
    by true more h = cc
    by false more h = more h

pub none_right : (p : Entry → Bool) (xs ys : List Entry) → find p (xs ++ ys) ≡ None → find p ys ≡ None
none_right p xs ys h = sym (find_past p xs ys (none_left p xs ys h)) ∙ h

pub none_first : (p : Entry → Bool) (x : Entry) (xs : List Entry) → find p (x ∷ xs) ≡ None → p x ≡ false
none_first p x xs h = by (p x) h
  where
    by : (b : Bool) → cond b (Some x) (find p xs) ≡ None → b ≡ false
    by true h = cc
    by false h = refl

-- a key is not among those below it, nor among those above it
pub none_below : (key : List ℕ) (es : List Entry) → AreBelow key es → find (is_at key) es ≡ None
none_below key [] h = refl
none_below key (e ∷ es) h = find_next (is_at key) e es (ap is_eq h.0) ∙ none_below key es h.1

pub none_above : (key : List ℕ) (es : List Entry) → AreAbove key es → find (is_at key) es ≡ None
none_above key [] h = refl
none_above key (e ∷ es) h = find_next (is_at key) e es (ap is_eq (greater_is e.key key h.0)) ∙ none_above key es h.1

-- none of the keys below one is above it
pub none_after : (key : List ℕ) (es : List Entry) → AreBelow key es → find (is_after (Some key)) es ≡ None
none_after key [] h = refl
none_after key (e ∷ es) h = find_next (is_after (Some key)) e es (ap is_gt h.0) ∙ none_after key es h.1

-- ---- a key that is put in

pub put_past : (key : List ℕ) (value : ℕ) (xs ys : List Entry) → AreBelow key xs → put key value (xs ++ ys) ≡ xs ++ put key value ys
put_past key value [] ys h = refl
put_past key value (x ∷ xs) ys h = ap (λ o. put_at o (record { key = key; value = value }) x (xs ++ ys) (put key value (xs ++ ys))) h.0 ∙ ap (λ es. x ∷ es) (put_past key value xs ys h.1)

pub put_first : (key : List ℕ) (value : ℕ) (es : List Entry) → AreAbove key es → put key value es ≡ record { key = key; value = value } ∷ es
put_first key value [] h = refl
put_first key value (e ∷ es) h = ap (λ o. put_at o (record { key = key; value = value }) e es (put key value es)) (greater_is e.key key h.0)

pub put_before : (key : List ℕ) (value : ℕ) (xs : List Entry) (e : Entry) (ys : List Entry) → IsBelow key e.key → put key value (xs ++ e ∷ ys) ≡ put key value xs ++ e ∷ ys
put_before key value [] e ys h = ap (λ o. put_at o (record { key = key; value = value }) e ys (put key value ys)) (greater_is e.key key h)
put_before key value (x ∷ xs) e ys h = by (order x.key key) (put_before key value xs e ys h)
  where
    by : (o : Ordering) → put key value (xs ++ e ∷ ys) ≡ put key value xs ++ e ∷ ys → put_at o (record { key = key; value = value }) x (xs ++ e ∷ ys) (put key value (xs ++ e ∷ ys)) ≡ put_at o (record { key = key; value = value }) x xs (put key value xs) ++ e ∷ ys
    by Less more = ap (λ es. x ∷ es) more
    by Equal more = refl
    by Greater more = refl

pub put_here : (key : List ℕ) (value : ℕ) (xs : List Entry) (e : Entry) (ys : List Entry) → order e.key key ≡ Equal → AreBelow e.key xs → put key value (xs ++ e ∷ ys) ≡ xs ++ record { key = e.key; value = value } ∷ ys
put_here key value xs e ys h k = put_past key value xs (e ∷ ys) (below_same e.key key xs h k) ∙ ap (λ o. xs ++ put_at o (record { key = key; value = value }) e ys (put key value ys)) h

pub put_after : (key : List ℕ) (value : ℕ) (xs : List Entry) (e : Entry) (ys : List Entry) → IsBelow e.key key → AreBelow e.key xs → put key value (xs ++ e ∷ ys) ≡ xs ++ e ∷ put key value ys
put_after key value xs e ys h k = put_past key value xs (e ∷ ys) (below_weaker e.key key xs h k) ∙ ap (λ o. xs ++ put_at o (record { key = key; value = value }) e ys (put key value ys)) h

above_put : (a key : List ℕ) (value : ℕ) (es : List Entry) → IsBelow a key → AreAbove a es → AreAbove a (put key value es)
above_put a key value [] h k = (h, tt)
above_put a key value (e ∷ es) h k = by (order e.key key) (above_put a key value es h k.1)
  where
    by : (o : Ordering) → AreAbove a (put key value es) → AreAbove a (put_at o (record { key = key; value = value }) e es (put key value es))
    by Less more = (k.0, more)
    by Equal more = k
    by Greater more = (h, k)

-- keys stay in order when one is put in
pub rising_put : (key : List ℕ) (value : ℕ) (es : List Entry) → IsRising es → IsRising (put key value es)
rising_put key value [] h = (tt, tt)
rising_put key value (e ∷ es) h = by (order e.key key) refl (rising_put key value es h.1)
  where
    by : (o : Ordering) → order e.key key ≡ o → IsRising (put key value es) → IsRising (put_at o (record { key = key; value = value }) e es (put key value es))
    by Less l more = (above_put e.key key value es l h.0, more)
    by Equal l more = h
    by Greater l more = let b = above_is e.key key l in ((b, above_weaker e.key key es b h.0), h)

-- one key more, where it was not there
pub length-put_new : (key : List ℕ) (value : ℕ) (es : List Entry) → find (is_at key) es ≡ None → length (put key value es) ≡ length es + 1
length-put_new key value [] h = refl
length-put_new key value (e ∷ es) h = by (order e.key key) (λ k. length-put_new key value es k) h
  where
    by : (o : Ordering) → (find (is_at key) es ≡ None → length (put key value es) ≡ length es + 1) → cond (is_eq o) (Some e) (find (is_at key) es) ≡ None → length (put_at o (record { key = key; value = value }) e es (put key value es)) ≡ suc (length es) + 1
    by Less more k = let n = more k in omega arith
    by Equal more k = cc
    by Greater more k = omega arith

-- as many keys, where it was there
pub length-put_old : (key : List ℕ) (value : ℕ) (es : List Entry) (was : Entry) → IsRising es → find (is_at key) es ≡ Some was → length (put key value es) ≡ length es
length-put_old key value [] was r h = cc
length-put_old key value (e ∷ es) was r h = by (order e.key key) refl (λ k. length-put_old key value es was r.1 k) h
  where
    by : (o : Ordering) → order e.key key ≡ o → (find (is_at key) es ≡ Some was → length (put key value es) ≡ length es) → cond (is_eq o) (Some e) (find (is_at key) es) ≡ Some was → length (put_at o (record { key = key; value = value }) e es (put key value es)) ≡ suc (length es)
    by Less l more k = let n = more k in omega arith
    by Equal l more k = refl
    by Greater l more k = let none = none_above key es (above_weaker e.key key es (above_is e.key key l) r.0) in cc

pub value_none : (key : List ℕ) (es : List Entry) → find (is_at key) es ≡ None → value_of key es ≡ None
value_none key es h = ap (option_map (λ (e : Entry). e.value)) h
