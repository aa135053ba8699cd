-- The keys of several views: the least above another, and those behind it.
use Rattle.std.proofs.Common.{◌≡◌, ℕ, ◌+◌, ◌<◌, length, take, get_or, Bool, true, false, cond, List, [], ◌∷◌, Option, Some, None, IfSome, refl, sym, ap, ◌∙◌, subst}
use Rattle.std.specs.List.{find, filter, fold, All, AllByRecursion}
use Rattle.std.proofs.lemmas.List.Sums.{fold_more}
use Rattle.std.proofs.lemmas.List.Elements.{recursion_from_All, All-weaker}
use Rattle.std.specs.declared.cmp.Ordering.{Ordering}
use Rattle.std.specs.declared.cmp.Ordering.TheVariants.{Less, Equal, Greater}
use Rattle.std.specs.Ordering.{is_lt, ordering_reverse}
use Rattle.std.specs.Cmp.{IsTotalOrder, tied_itself, alike_right}
use Rattle.std.specs.FinMap.Entries.{by_order}
use Rattle.std.proofs.lemmas.Cmp.{nat_list_cmp_total}
use Rattle.std.proofs.lemmas.Bool.{false≢true}
use Rattle.kt_history.specs.Rows.{key_cmp}
use Rattle.kt_history.specs.Views.{is_above, key_above, AreRising}
use Rattle.kt_scan.specs.Live.{lesser, with_key, with_keys, all_keys}

abbrev Key : Type 0
Key = List ℕ

total : IsTotalOrder key_cmp
total = nat_list_cmp_total

abbrev pub Below : Key → Key → Type 0
Below x y = key_cmp x y ≡ Less

less : (o : Ordering) → is_lt o ≡ true → o ≡ Less
less Less h = refl
less Equal h = absurd (false≢true h)
less Greater h = absurd (false≢true h)

turned : (x y : Key) (o : Ordering) → key_cmp x y ≡ o → key_cmp y x ≡ ordering_reverse o
turned x y o e = total.antisymm y x ∙ ap ordering_reverse e

not_below : (x y : Key) → Below x y → is_lt (key_cmp y x) ≡ false
not_below x y h = ap is_lt (turned x y Less h)

-- what is above a key, or above none, is so with every greater key
pub above_more : (after : Option Key) (x y : Key) → is_above after x ≡ true → Below x y → is_above after y ≡ true
above_more None x y h b = refl
above_more (Some a) x y h b = ap is_lt (total.trans a x y (less (key_cmp a x) h) b)

above_same : (after : Option Key) (x y : Key) → is_above after x ≡ true → key_cmp x y ≡ Equal → is_above after y ≡ true
above_same None x y h e = refl
above_same (Some a) x y h e = ap is_lt (sym (alike_right total x y a e)) ∙ h

-- ---- the least of two lists

lesser_none : (o : Option Key) → lesser o None ≡ o
lesser_none None = refl
lesser_none (Some x) = refl

abbrev guard : Option Key → Key → Option Key
guard after k = cond (is_above after k) (Some k) None

find_with_key : (after : Option Key) (k : Key) (ys : List Key) → find (is_above after) (with_key k ys) ≡ lesser (find (is_above after) ys) (guard after k)
find_with_key after k [] = refl
find_with_key after k (x ∷ xs) = by (find_with_key after k xs) (key_cmp k x) refl
  where
    p : Key → Bool
    p = is_above after

    first : (b : Bool) → p k ≡ b → key_cmp k x ≡ Less → cond b (Some k) (find p (x ∷ xs)) ≡ lesser (find p (x ∷ xs)) (cond b (Some k) None)
    first false is e = sym (lesser_none (find p (x ∷ xs)))
    first true is e = sym (ap (λ b. lesser (cond b (Some x) (find p xs)) (Some k)) (above_more after k x is e) ∙ ap (λ b. cond b (Some k) (Some x)) (ap is_lt e))

    same : (b : Bool) → p k ≡ b → key_cmp k x ≡ Equal → find p (x ∷ xs) ≡ lesser (find p (x ∷ xs)) (cond b (Some k) None)
    same false is e = sym (lesser_none (find p (x ∷ xs)))
    same true is e =
        let here : p x ≡ true = above_same after k x is e in
        ap (λ b. cond b (Some x) (find p xs)) here ∙ sym (ap (λ b. lesser (cond b (Some x) (find p xs)) (Some k)) here ∙ ap (λ b. cond b (Some k) (Some x)) (ap is_lt e))

    stays : (b : Bool) → key_cmp k x ≡ Greater → Some x ≡ lesser (Some x) (cond b (Some k) None)
    stays false e = refl
    stays true e = sym (ap (λ b. cond b (Some k) (Some x)) (ap is_lt e))

    later : (b : Bool) → find p (with_key k xs) ≡ lesser (find p xs) (guard after k) → key_cmp k x ≡ Greater → cond b (Some x) (find p (with_key k xs)) ≡ lesser (cond b (Some x) (find p xs)) (guard after k)
    later false more e = more
    later true more e = stays (p k) e

    by : find p (with_key k xs) ≡ lesser (find p xs) (guard after k) → (o : Ordering) → key_cmp k x ≡ o → find p (by_order o (k ∷ x ∷ xs) (x ∷ xs) (x ∷ with_key k xs)) ≡ lesser (find p (x ∷ xs)) (guard after k)
    by more Less e = first (p k) refl e
    by more Equal e = same (p k) refl e
    by more Greater e = later (p x) more e

-- a key that a search finds is one of the list
pub found_holds : (P : Key → Type 0) (p : Key → Bool) (xs : List Key) → AllByRecursion P xs → IfSome (find p xs) P
found_holds P p [] all = tt
found_holds P p (x ∷ xs) all = by (p x) (found_holds P p xs all.1)
  where
    by : (b : Bool) → IfSome (find p xs) P → IfSome (cond b (Some x) (find p xs)) P
    by true more = all.0
    by false more = more

keeps : (f o : Option Key) (k : Key) → IfSome o (Below k) → lesser (lesser f (Some k)) o ≡ lesser f (Some k)
keeps f None k later = lesser_none (lesser f (Some k))
keeps None (Some y) k later = ap (λ b. cond b (Some y) (Some k)) (not_below k y later)
keeps (Some z) (Some y) k later = by (is_lt (key_cmp k z)) refl
  where
    high : (b : Bool) → is_lt (key_cmp y z) ≡ b → is_lt (key_cmp k z) ≡ false → b ≡ false
    high false is low = refl
    high true is low = absurd (false≢true (sym low ∙ ap is_lt (total.trans k y z later (less (key_cmp y z) is))))

    by : (b : Bool) → is_lt (key_cmp k z) ≡ b → lesser (cond b (Some k) (Some z)) (Some y) ≡ cond b (Some k) (Some z)
    by true is = ap (λ b. cond b (Some y) (Some k)) (not_below k y later)
    by false is = ap (λ b. cond b (Some y) (Some z)) (high (is_lt (key_cmp y z)) refl is)

pub find_with_keys : (after : Option Key) (known new : List Key) → AreRising new → find (is_above after) (with_keys known new) ≡ lesser (find (is_above after) known) (find (is_above after) new)
find_with_keys after known [] rising = sym (lesser_none (find (is_above after) known))
find_with_keys after known (k ∷ ks) rising =
    find_with_keys after (with_key k known) ks rising.1 ∙ ap (λ o. lesser o (find p ks)) (find_with_key after k known) ∙ by (p k)
  where
    p : Key → Bool
    p = is_above after

    by : (b : Bool) → lesser (lesser (find p known) (cond b (Some k) None)) (find p ks) ≡ lesser (find p known) (cond b (Some k) (find p ks))
    by true = keeps (find p known) (find p ks) k (found_holds (Below k) p ks rising.0)
    by false = ap (λ o. lesser o (find p ks)) (lesser_none (find p known))

-- ---- what the list of all keys keeps

holds_more : (P : Key → Type 0) (k : Key) (ys : List Key) → P k → AllByRecursion P ys → AllByRecursion P (with_key k ys)
holds_more P k [] here all = (here, tt)
holds_more P k (x ∷ xs) here all = by (holds_more P k xs here all.1) (key_cmp k x)
  where
    by : AllByRecursion P (with_key k xs) → (o : Ordering) → AllByRecursion P (by_order o (k ∷ x ∷ xs) (x ∷ xs) (x ∷ with_key k xs))
    by more Less = (here, all)
    by more Equal = all
    by more Greater = (all.0, more)

pub hold_more : (P : Key → Type 0) (known new : List Key) → AllByRecursion P known → AllByRecursion P new → AllByRecursion P (with_keys known new)
hold_more P known [] old all = old
hold_more P known (k ∷ ks) old all = hold_more P (with_key k known) ks (holds_more P k known all.0 old) all.1

below_all : (x k : Key) (ys : List Key) → Below x k → AllByRecursion (Below k) ys → AllByRecursion (Below x) ys
below_all x k [] h all = tt
below_all x k (y ∷ ys) h all = (total.trans x k y h all.0, below_all x k ys h all.1)

rises_more : (k : Key) (ys : List Key) → AreRising ys → AreRising (with_key k ys)
rises_more k [] rising = (tt, tt)
rises_more k (x ∷ xs) rising = by (rises_more k xs rising.1) (key_cmp k x) refl
  where
    by : AreRising (with_key k xs) → (o : Ordering) → key_cmp k x ≡ o → AreRising (by_order o (k ∷ x ∷ xs) (x ∷ xs) (x ∷ with_key k xs))
    by more Less e = ((e, below_all k x xs e rising.0), rising)
    by more Equal e = rising
    by more Greater e = (holds_more (Below x) k xs (turned k x Greater e) rising.0, more)

pub rise_more : (known new : List Key) → AreRising known → AreRising (with_keys known new)
rise_more known [] rising = rising
rise_more known (k ∷ ks) rising = rise_more (with_key k known) ks (rises_more k known rising)

-- ---- the keys behind a key

all_pass : (p : Key → Bool) (xs : List Key) → AllByRecursion (λ x. p x ≡ true) xs → filter p xs ≡ xs
all_pass p [] all = refl
all_pass p (x ∷ xs) all = ap (λ b. cond b (x ∷ filter p xs) (filter p xs)) all.0 ∙ ap (λ ys. x ∷ ys) (all_pass p xs all.1)

all_above : (after : Option Key) (x : Key) (ys : List Key) → is_above after x ≡ true → AllByRecursion (Below x) ys → AllByRecursion (λ y. is_above after y ≡ true) ys
all_above after x [] h all = tt
all_above after x (y ∷ ys) h all = (above_more after x y h all.0, all_above after x ys h all.1)

all_behind : (x : Key) (ys : List Key) → AllByRecursion (Below x) ys → AllByRecursion (λ y. is_above (Some x) y ≡ true) ys
all_behind x [] all = tt
all_behind x (y ∷ ys) all = (ap is_lt all.0, all_behind x ys all.1)

some_is : (x y : Key) → Some x ≡ Some y → x ≡ y
some_is x y e = cc

pub filter_none : (p : Key → Bool) (xs : List Key) → find p xs ≡ None → filter p xs ≡ []
filter_none p [] e = refl
filter_none p (x ∷ xs) e = by (p x) (filter_none p xs) e
  where
    by : (b : Bool) → (find p xs ≡ None → filter p xs ≡ []) → cond b (Some x) (find p xs) ≡ None → cond b (x ∷ filter p xs) (filter p xs) ≡ []
    by true more f = absurd cc
    by false more f = more f

-- the least key above another, and then those above that
pub filter_some : (after : Option Key) (xs : List Key) (k : Key) → AreRising xs → find (is_above after) xs ≡ Some k → filter (is_above after) xs ≡ k ∷ filter (is_above (Some k)) xs
filter_some after [] k rising e = absurd cc
filter_some after (x ∷ xs) k rising e = by (p x) refl (filter_some after xs k rising.1) e
  where
    p : Key → Bool
    p = is_above after

    q : Key → Bool
    q = is_above (Some k)

    tied : is_lt (key_cmp x x) ≡ false
    tied = ap is_lt (tied_itself total x)

    here : x ≡ k → p x ≡ true → x ∷ filter p xs ≡ k ∷ filter q (x ∷ xs)
    here same is =
        let behind : filter (is_above (Some x)) (x ∷ xs) ≡ xs = ap (λ b. cond b (x ∷ filter (is_above (Some x)) xs) (filter (is_above (Some x)) xs)) tied ∙ all_pass (is_above (Some x)) xs (all_behind x xs rising.0) in
        let front : filter p xs ≡ xs = all_pass p xs (all_above after x xs is rising.0) in
        subst (λ (y : Key). x ∷ filter p xs ≡ y ∷ filter (is_above (Some y)) (x ∷ xs)) same (ap (λ ys. x ∷ ys) (front ∙ sym behind))

    later : find p xs ≡ Some k → q x ≡ false
    later f = not_below x k (subst (λ (o : Option Key). IfSome o (Below x)) f (found_holds (Below x) p xs rising.0))

    by : (b : Bool) → p x ≡ b → (find p xs ≡ Some k → filter p xs ≡ k ∷ filter q xs) → cond b (Some x) (find p xs) ≡ Some k → cond b (x ∷ filter p xs) (filter p xs) ≡ k ∷ filter q (x ∷ xs)
    by true is more f = here (some_is x k f) is
    by false is more f = more f ∙ ap (λ b. k ∷ cond b (x ∷ filter q xs) (filter q xs)) (sym (later f))

-- ---- all views

abbrev pub add : {V : Type 0} → (V → List Key) → List Key → V → List Key
add keys known view = with_keys known (keys view)

-- the keys of one view more
pub all_more : {V : Type 0} (keys : V → List Key) → ((v : V) → AreRising (keys v)) → (after : Option Key) (views : List V) (i : ℕ) (view : V) (found other : Option Key) → i < length views → view ≡ get_or views i view
    → found ≡ key_above after (all_keys keys (take i views)) → other ≡ key_above after (keys view) → lesser found other ≡ key_above after (all_keys keys (take (i + 1) views))
all_more keys rise after views i view found other within is so_far here =
    let known : List Key = all_keys keys (take i views) in
    let more : all_keys keys (take (i + 1) views) ≡ with_keys known (keys view) = fold_more (add keys) [] views i view within ∙ ap (add keys known) (sym is) in
    ap (λ o. lesser o other) so_far ∙ ap (lesser (key_above after known)) here ∙ sym (find_with_keys after known (keys view) (rise view)) ∙ ap (key_above after) (sym more)

rise_from : {V : Type 0} (keys : V → List Key) (known : List Key) (views : List V) → AreRising known → AreRising (fold (add keys) known views)
rise_from keys known [] rising = rising
rise_from keys known (v ∷ vs) rising = rise_from keys (add keys known v) vs (rise_more known (keys v) rising)

pub all_rise : {V : Type 0} (keys : V → List Key) (views : List V) → AreRising (all_keys keys views)
all_rise keys views = rise_from keys [] views tt

hold_from : {V : Type 0} (P : Key → Type 0) (keys : V → List Key) (known : List Key) (views : List V) → AllByRecursion P known → AllByRecursion (λ v. AllByRecursion P (keys v)) views → AllByRecursion P (fold (add keys) known views)
hold_from P keys known [] old all = old
hold_from P keys known (v ∷ vs) old all = hold_from P keys (add keys known v) vs (hold_more P known (keys v) old all.0) all.1

-- what holds of the keys of each view holds of the least above another
pub least_holds : {V : Type 0} (P : Key → Type 0) (keys : V → List Key) (after : Option Key) (views : List V) → All (λ v. All P (keys v)) views → IfSome (key_above after (all_keys keys views)) P
least_holds P keys after views all =
    found_holds P (is_above after) (all_keys keys views)
    (hold_from P keys [] views tt (recursion_from_All (λ v. AllByRecursion P (keys v)) views (All-weaker (λ v. All P (keys v)) (λ v. AllByRecursion P (keys v)) (λ v. recursion_from_All P (keys v)) views all)))

-- every key is above none
pub above_none : (xs : List Key) → filter (is_above None) xs ≡ xs
above_none [] = refl
above_none (x ∷ xs) = ap (λ ys. x ∷ ys) (above_none xs)
