-- Each key that is passed leaves fewer.
use Rattle.std.proofs.Common.{◌≡◌, ◌≤◌, ◌<◌, ◌+◌, ◌⊎◌, ℕ, suc, inl, inr, Bool, true, false, cond, List, [], ◌∷◌, map, length, length-append, Option, Some, None, refl, sym, ap, ◌∙◌, subst, arith}
use Rattle.std.specs.Prelude.{not}
use Rattle.std.specs.List.{filter, find, sum_by}
use Rattle.std.specs.Ordering.{is_lt}
use Rattle.std.proofs.lemmas.Bool.{false≢true}
use Rattle.std.proofs.lemmas.List.Sums.{sum_by-cons}
use Rattle.kt_history.specs.Rows.{key_cmp}
use Rattle.kt_history.specs.Views.{is_above, key_above}
use Rattle.kt_history.specs.Stores.{never}
use Rattle.kt_rowfiles.specs.Taking.{spanned}
use Rattle.kt_rowfiles.specs.declared.taking.Span.{Span}
use Rattle.kt_merge.specs.Heads.{source_keys, source_hist, lesser, least_in, keys_next, is_next, hist_next, steps_next, passed, left_of, keys_left, AreAbove}
use Rattle.kt_merge.specs.Merge.{changes_under, keys_behind, changes_left}
use Rattle.kt_merge.specs.declared.heads.Head.{Head}
use Rattle.kt_merge.proofs.KeyChanges.{by_bool, same_key, not_true}
use Rattle.kt_merge.proofs.KeysNext.{itself, not_itself, lt_trans, found_passes}

-- ---- what passes a stronger test is less

few_pass : (p r : List ℕ → Bool) (xs : List (List ℕ)) → ((x : List ℕ) → p x ≡ true → r x ≡ true) → length (filter p xs) ≤ length (filter r xs)
few_pass p r [] f = omega arith
few_pass p r (x ∷ xs) f = by (p x) (r x) (f x) (few_pass p r xs f)
  where
    by : (a b : Bool) → (a ≡ true → b ≡ true) → length (filter p xs) ≤ length (filter r xs) → length (cond a (x ∷ filter p xs) (filter p xs)) ≤ length (cond b (x ∷ filter r xs) (filter r xs))
    by true true g h = omega (arith, h)
    by true false g h = absurd (false≢true (g refl))
    by false true g h = omega (arith, h)
    by false false g h = h

-- one of these is the key
abbrev pub HasKey : List ℕ → List (List ℕ) → Type 0
HasKey q [] = ⊥
HasKey q (k ∷ keys) = (k ≡ q) ⊎ HasKey q keys

fewer_pass : (p r : List ℕ → Bool) (q : List ℕ) (xs : List (List ℕ)) → ((x : List ℕ) → p x ≡ true → r x ≡ true) → HasKey q xs → p q ≡ false → r q ≡ true → length (filter p xs) < length (filter r xs)
fewer_pass p r q [] f has no_ so_ = absurd has
fewer_pass p r q (x ∷ xs) f (inl here) no_ so_ =
    let rest = few_pass p r xs f in
    let a : length (filter p (x ∷ xs)) ≡ length (filter p xs) = ap (λ (b : Bool). length (cond b (x ∷ filter p xs) (filter p xs))) (ap p here ∙ no_) in
    let b : length (filter r (x ∷ xs)) ≡ suc (length (filter r xs)) = ap (λ (b : Bool). length (cond b (x ∷ filter r xs) (filter r xs))) (ap r here ∙ so_) in
    omega (arith, rest, a, b)
fewer_pass p r q (x ∷ xs) f (inr has) no_ so_ = by (p x) (r x) (f x) (fewer_pass p r q xs f has no_ so_)
  where
    by : (a b : Bool) → (a ≡ true → b ≡ true) → length (filter p xs) < length (filter r xs) → length (cond a (x ∷ filter p xs) (filter p xs)) < length (cond b (x ∷ filter r xs) (filter r xs))
    by true true g h = omega (arith, h)
    by true false g h = absurd (false≢true (g refl))
    by false true g h = omega (arith, h)
    by false false g h = h

-- ---- one head

found_in : (p : List ℕ → Bool) (keys : List (List ℕ)) (q : List ℕ) → find p keys ≡ Some q → HasKey q keys
found_in p [] q e = cc
found_in p (k ∷ keys) q e = by (p k) e (λ f. found_in p keys q f)
  where
    some_is : (a b : List ℕ) → Some a ≡ Some b → a ≡ b
    some_is a b f = cc

    by : (b : Bool) → cond b (Some k) (find p keys) ≡ Some q → (find p keys ≡ Some q → HasKey q keys) → HasKey q (k ∷ keys)
    by true f more = inl (some_is k q f)
    by false f more = inr (more f)

not_lt : (b : Bool) → b ≡ false → not b ≡ true
not_lt b e = ap not e

left_fewer : (q : List ℕ) (keys : List (List ℕ)) → HasKey q keys → left_of (key_above (Some q) keys) keys < left_of (Some q) keys
left_fewer q keys has = by (key_above (Some q) keys) refl
  where
    by : (o : Option (List ℕ)) → key_above (Some q) keys ≡ o → left_of o keys < length (filter (λ (x : List ℕ). not (is_lt (key_cmp x q))) keys)
    by None e =
        let some = fewer_pass (λ (x : List ℕ). false) (λ (x : List ℕ). not (is_lt (key_cmp x q))) q keys (λ x f. absurd (false≢true f)) has refl (not_lt (is_lt (key_cmp q q)) (not_itself q)) in
        omega (arith, some)
    by (Some k) e =
        let above = found_passes (is_above (Some q)) keys k e in
        fewer_pass (λ (x : List ℕ). not (is_lt (key_cmp x k))) (λ (x : List ℕ). not (is_lt (key_cmp x q))) q keys
        (λ x high. not_lt (is_lt (key_cmp x q)) (by_bool (is_lt (key_cmp x q)) (λ low. absurd (false≢true (sym (not_true (is_lt (key_cmp x k)) high) ∙ lt_trans x q k low above))) (λ b. b)))
        has (ap not above) (not_lt (is_lt (key_cmp q q)) (not_itself q))

-- a head that is at the key has fewer keys left, and another one has as many
passed_fewer : (after : Option (List ℕ)) (q : List ℕ) (h : Head) → h.key ≡ key_above after (source_keys h.source) → is_next h.key q ≡ true → left_of (passed q h).key (source_keys h.source) < left_of h.key (source_keys h.source)
passed_fewer after q h at so_ = by h.key refl
  where
    by : (o : Option (List ℕ)) → h.key ≡ o → left_of (passed q h).key (source_keys h.source) < left_of h.key (source_keys h.source)
    by None is = absurd (false≢true (sym (ap (λ (k : Option (List ℕ)). is_next k q) is) ∙ so_))
    by (Some k) is =
        let same = same_key k q (sym (ap (λ (x : Option (List ℕ)). is_next x q) is) ∙ so_) in
        let key : h.key ≡ Some q = is ∙ ap Some same in
        let gone : (passed q h).key ≡ key_above (Some q) (source_keys h.source) = ap (λ (b : Bool). cond b (key_above (Some q) (source_keys h.source)) h.key) so_ in
        let less = left_fewer q (source_keys h.source) (found_in (is_above after) (source_keys h.source) q (sym at ∙ key)) in
        subst (λ (x : Option (List ℕ)). left_of (passed q h).key (source_keys h.source) < left_of x (source_keys h.source)) (sym key)
        (subst (λ (x : Option (List ℕ)). left_of x (source_keys h.source) < left_of (Some q) (source_keys h.source)) (sym gone) less)

passed_same : (q : List ℕ) (h : Head) → is_next h.key q ≡ false → left_of (passed q h).key (source_keys h.source) ≡ left_of h.key (source_keys h.source)
passed_same q h no_ = ap (λ (b : Bool). left_of (cond b (key_above (Some q) (source_keys h.source)) h.key) (source_keys h.source)) no_

-- ---- all heads

keys_cons : (h : Head) (heads : List Head) → keys_left (h ∷ heads) ≡ left_of h.key (source_keys h.source) + keys_left heads
keys_cons h heads = sum_by-cons (λ (x : Head). left_of x.key (source_keys x.source)) h heads

not_more : (after : Option (List ℕ)) (q : List ℕ) (heads : List Head) → AreAbove after heads → keys_left (map (passed q) heads) ≤ keys_left heads
not_more after q [] at = omega arith
not_more after q (h ∷ heads) at =
    let rest = not_more after q heads at.1 in
    let a = keys_cons h heads in
    let b = keys_cons (passed q h) (map (passed q) heads) in
    by_bool (is_next h.key q)
    (λ so_. let less = passed_fewer after q h at.0 so_ in omega (arith, rest, less, a, b))
    (λ no_. let same = passed_same q h no_ in omega (arith, rest, same, a, b))

-- some head is at the key
abbrev SomeNext : List ℕ → List Head → Type 0
SomeNext q [] = ⊥
SomeNext q (h ∷ heads) = (is_next h.key q ≡ true) ⊎ SomeNext q heads

fewer_by : (after : Option (List ℕ)) (q : List ℕ) (heads : List Head) → AreAbove after heads → SomeNext q heads → keys_left (map (passed q) heads) < keys_left heads
fewer_by after q [] at some = absurd some
fewer_by after q (h ∷ heads) at (inl so_) =
    let less = passed_fewer after q h at.0 so_ in
    let rest = not_more after q heads at.1 in
    let a = keys_cons h heads in
    let b = keys_cons (passed q h) (map (passed q) heads) in
    omega (arith, less, rest, a, b)
fewer_by after q (h ∷ heads) at (inr some) =
    let rest = fewer_by after q heads at.1 some in
    let a = keys_cons h heads in
    let b = keys_cons (passed q h) (map (passed q) heads) in
    by_bool (is_next h.key q)
    (λ so_. let less = passed_fewer after q h at.0 so_ in omega (arith, rest, less, a, b))
    (λ no_. let same = passed_same q h no_ in omega (arith, rest, same, a, b))

same_next : (q : List ℕ) (o : Option (List ℕ)) → o ≡ Some q → is_next o q ≡ true
same_next q o e = ap (λ (k : Option (List ℕ)). is_next k q) e ∙ itself q

some_next : (q : List ℕ) (heads : List Head) → least_in (keys_next heads) ≡ Some q → SomeNext q heads
some_next q [] e = cc
some_next q (h ∷ heads) e = by h.key refl (least_in (keys_next heads)) refl e (λ f. some_next q heads f)
  where
    by : (o : Option (List ℕ)) → h.key ≡ o → (b : Option (List ℕ)) → least_in (keys_next heads) ≡ b → lesser h.key (least_in (keys_next heads)) ≡ Some q → (least_in (keys_next heads) ≡ Some q → SomeNext q heads) → SomeNext q (h ∷ heads)
    by None is b here f more = inr (more (sym (ap (λ (k : Option (List ℕ)). lesser k (least_in (keys_next heads))) is) ∙ f))
    by (Some a) is None here f more = inl (same_next q h.key (is ∙ sym (ap (λ (k : Option (List ℕ)). lesser k (least_in (keys_next heads))) is ∙ ap (lesser (Some a)) here) ∙ f))
    by (Some a) is (Some b) here f more =
        let told : lesser (Some a) (Some b) ≡ Some q = sym (ap (λ (k : Option (List ℕ)). lesser k (least_in (keys_next heads))) is ∙ ap (lesser (Some a)) here) ∙ f in
        by_bool (is_lt (key_cmp b a))
        (λ low. inr (more (here ∙ sym (ap (λ (x : Bool). cond x (Some b) (Some a)) low) ∙ told)))
        (λ high. inl (same_next q h.key (is ∙ sym (ap (λ (x : Bool). cond x (Some b) (Some a)) high) ∙ told)))

pub keys_fewer : (after : Option (List ℕ)) (q : List ℕ) (heads : List Head) → AreAbove after heads → least_in (keys_next heads) ≡ Some q → keys_left (map (passed q) heads) < keys_left heads
keys_fewer after q heads at next = fewer_by after q heads at (some_next q heads next)

-- ---- and room for the changes of those that are left

pub more_weight : (f : List ℕ → ℕ) (p r : List ℕ → Bool) (xs : List (List ℕ)) → ((x : List ℕ) → p x ≡ true → r x ≡ true) → sum_by f (filter p xs) ≤ sum_by f (filter r xs)
more_weight f p r [] g = omega arith
more_weight f p r (x ∷ xs) g = by (p x) (r x) (g x) (more_weight f p r xs g)
  where
    by : (a b : Bool) → (a ≡ true → b ≡ true) → sum_by f (filter p xs) ≤ sum_by f (filter r xs) → sum_by f (cond a (x ∷ filter p xs) (filter p xs)) ≤ sum_by f (cond b (x ∷ filter r xs) (filter r xs))
    by true true k h = let m = sum_by-cons f x (filter p xs) in let n = sum_by-cons f x (filter r xs) in omega (arith, h, m, n)
    by true false k h = absurd (false≢true (k refl))
    by false true k h = let n = sum_by-cons f x (filter r xs) in omega (arith, h, n)
    by false false k h = h

pub fewer_weight : (f : List ℕ → ℕ) (p r : List ℕ → Bool) (q : List ℕ) (xs : List (List ℕ)) → ((x : List ℕ) → p x ≡ true → r x ≡ true) → HasKey q xs → p q ≡ false → r q ≡ true → sum_by f (filter p xs) + f q ≤ sum_by f (filter r xs)
fewer_weight f p r q [] g has no_ so_ = absurd has
fewer_weight f p r q (x ∷ xs) g (inl here) no_ so_ =
    let rest = more_weight f p r xs g in
    let a : sum_by f (filter p (x ∷ xs)) ≡ sum_by f (filter p xs) = ap (λ (b : Bool). sum_by f (cond b (x ∷ filter p xs) (filter p xs))) (ap p here ∙ no_) in
    let b : sum_by f (filter r (x ∷ xs)) ≡ f x + sum_by f (filter r xs) = ap (λ (b : Bool). sum_by f (cond b (x ∷ filter r xs) (filter r xs))) (ap r here ∙ so_) ∙ sum_by-cons f x (filter r xs) in
    let own : f x ≡ f q = ap f here in
    omega (arith, rest, a, b, own)
fewer_weight f p r q (x ∷ xs) g (inr has) no_ so_ = by (p x) (r x) (g x) (fewer_weight f p r q xs g has no_ so_)
  where
    by : (a b : Bool) → (a ≡ true → b ≡ true) → sum_by f (filter p xs) + f q ≤ sum_by f (filter r xs) → sum_by f (cond a (x ∷ filter p xs) (filter p xs)) + f q ≤ sum_by f (cond b (x ∷ filter r xs) (filter r xs))
    by true true k h = let m = sum_by-cons f x (filter p xs) in let n = sum_by-cons f x (filter r xs) in omega (arith, h, m, n)
    by true false k h = absurd (false≢true (k refl))
    by false true k h = let n = sum_by-cons f x (filter r xs) in omega (arith, h, n)
    by false false k h = h

weight_passed : (f : List ℕ → ℕ) (q : List ℕ) (keys : List (List ℕ)) → HasKey q keys → sum_by f (keys_behind (key_above (Some q) keys) keys) + f q ≤ sum_by f (keys_behind (Some q) keys)
weight_passed f q keys has = by (key_above (Some q) keys) refl
  where
    by : (o : Option (List ℕ)) → key_above (Some q) keys ≡ o → sum_by f (keys_behind o keys) + f q ≤ sum_by f (filter (λ (x : List ℕ). not (is_lt (key_cmp x q))) keys)
    by None e =
        let some = fewer_weight f (λ (x : List ℕ). false) (λ (x : List ℕ). not (is_lt (key_cmp x q))) q keys (λ x g. absurd (false≢true g)) has refl (not_lt (is_lt (key_cmp q q)) (not_itself q)) in
        omega (arith, some)
    by (Some k) e =
        let above = found_passes (is_above (Some q)) keys k e in
        fewer_weight f (λ (x : List ℕ). not (is_lt (key_cmp x k))) (λ (x : List ℕ). not (is_lt (key_cmp x q))) q keys
        (λ x high. not_lt (is_lt (key_cmp x q)) (by_bool (is_lt (key_cmp x q)) (λ low. absurd (false≢true (sym (not_true (is_lt (key_cmp x k)) high) ∙ lt_trans x q k low above))) (λ b. b)))
        has (ap not above) (not_lt (is_lt (key_cmp q q)) (not_itself q))

-- what one head has left, of which the changes of a key are taken where it comes next
abbrev own_left : Span → Head → ℕ
own_left span h = changes_under span (keys_behind h.key (source_keys h.source)) h.source

one_room : (span : Span) (after : Option (List ℕ)) (q : List ℕ) (h : Head) → h.key ≡ key_above after (source_keys h.source) → length (spanned span (hist_next q h).steps) + own_left span (passed q h) ≤ own_left span h
one_room span after q h at = by_bool (is_next h.key q)
    (λ so_. by_key so_ h.key refl)
    (λ no_.
    let none : length (spanned span (hist_next q h).steps) ≡ 0 = ap (λ (b : Bool). length (spanned span (cond b (source_hist q h.source) never).steps)) no_ in
    let same : own_left span (passed q h) ≡ own_left span h = ap (λ (b : Bool). changes_under span (keys_behind (cond b (key_above (Some q) (source_keys h.source)) h.key) (source_keys h.source)) h.source) no_ in
    omega (arith, none, same))
  where
    by_key : is_next h.key q ≡ true → (o : Option (List ℕ)) → h.key ≡ o → length (spanned span (hist_next q h).steps) + own_left span (passed q h) ≤ own_left span h
    by_key so_ None is = absurd (false≢true (sym (ap (λ (k : Option (List ℕ)). is_next k q) is) ∙ so_))
    by_key so_ (Some k) is =
        let same = same_key k q (sym (ap (λ (x : Option (List ℕ)). is_next x q) is) ∙ so_) in
        let key : h.key ≡ Some q = is ∙ ap Some same in
        let keys = source_keys h.source in
        let weight = λ (x : List ℕ). length (spanned span (source_hist x h.source).steps) in
        let own : length (spanned span (hist_next q h).steps) ≡ weight q = ap (λ (b : Bool). length (spanned span (cond b (source_hist q h.source) never).steps)) so_ in
        let gone : own_left span (passed q h) ≡ sum_by weight (keys_behind (key_above (Some q) keys) keys) = ap (λ (b : Bool). changes_under span (keys_behind (cond b (key_above (Some q) keys) h.key) keys) h.source) so_ in
        let all : own_left span h ≡ sum_by weight (keys_behind (Some q) keys) = ap (λ (x : Option (List ℕ)). changes_under span (keys_behind x keys) h.source) key in
        let less = weight_passed weight q keys (found_in (is_above after) keys q (sym at ∙ key)) in
        omega (arith, own, gone, all, less)

pub room_left : (span : Span) (after : Option (List ℕ)) (q : List ℕ) (heads : List Head) → AreAbove after heads → length (steps_next span q heads) + changes_left span (map (passed q) heads) ≤ changes_left span heads
room_left span after q [] at = omega arith
room_left span after q (h ∷ heads) at =
    let one = one_room span after q h at.0 in
    let rest = room_left span after q heads at.1 in
    let a = sum_by-cons (own_left span) h heads in
    let b = sum_by-cons (own_left span) (passed q h) (map (passed q) heads) in
    let both = length-append (spanned span (hist_next q h).steps) (steps_next span q heads) in
    omega (arith, one, rest, a, b, both)
