-- Each input at its first key.
use Rattle.std.proofs.Common.{◌≡◌, ◌≢◌, ◌≤◌, ◌<◌, ◌+◌, ◌⊎◌, ℕ, zero, suc, inl, inr, Bool, true, false, cond, List, [], ◌∷◌, ◌++◌, map, length, get_or, take, append_assoc, Option, Some, None, refl, sym, ap, ◌∙◌, subst, arith}
use Rattle.std.specs.List.{AllByRecursion, Contains, filter, find as find_in, sum_by}
use Rattle.std.specs.Ordering.{eq_by_cmp}
use Rattle.std.specs.FinMap.Entries.{find}
use Rattle.std.proofs.lemmas.List.{map-append, take_all}
use Rattle.std.proofs.lemmas.List.Sums.{sum_by_push}
use Rattle.kt_history.specs.declared.changes.KeyChange.{KeyChange}
use Rattle.kt_history.specs.Rows.{key_cmp}
use Rattle.kt_history.specs.Views.{is_above}
use Rattle.kt_histlaws.specs.Disks.{DiskRow}
use Rattle.kt_rowfiles.specs.declared.taking.Span.{Span}
use Rattle.kt_diskrowset.specs.declared.data.RowSetData.{RowSetData}
use Rattle.kt_diskrowset.specs.declared.inputs.Inputs.{Inputs}
use Rattle.kt_diskrowset.specs.Data.{keys_of}
use Rattle.kt_merge.specs.Changes.{keys_in}
use Rattle.kt_merge.specs.Heads.{source_keys, least_in, keys_next, AreAbove}
use Rattle.kt_merge.specs.Merge.{changes_under, changes_left, keys_behind, keys_at, keys_of_inputs, IsOfMem, IsOfRowset, IsOfInput, NoOther, MayBeWritten}
use Rattle.kt_merge.specs.Told.{Told}
use Rattle.kt_merge.specs.declared.heads.Head.{Head}
use Rattle.kt_merge.proofs.Copying.{take_more_of}
use Rattle.kt_merge.proofs.Cuts.{all_more}
use Rattle.kt_merge.proofs.KeyChanges.{by_bool, same_key}
use Rattle.kt_merge.proofs.KeysNext.{least_has}

-- ---- one input more

pub all_here : {X : Type 0} (P : X → Type 0) (xs : List X) (i : ℕ) (x : X) → AllByRecursion P xs → i < length xs → x ≡ get_or xs i x → P x
all_here P [] i x all low is = absurd (omega arith)
all_here P (y ∷ xs) zero x all low is = subst P (sym is) all.0
all_here P (y ∷ xs) (suc i) x all low is = all_here P xs i x all.1 (omega arith) is

pub all_next : {X : Type 0} (P : X → Type 0) (xs new : List X) (x : X) → new ≡ xs ++ x ∷ [] → AllByRecursion P xs → P x → AllByRecursion P new
all_next P xs new x put all own = subst (AllByRecursion P) (sym put) (all_more P xs x all own)

-- what is told of each input is told of one more
pub told_next : {X Y Z : Type 0} (f : X → Y) (g : Z → Y) (old new heads : List X) (h : X) (xs : List Z) (i : ℕ) (x : Z) → i < length xs → x ≡ get_or xs i x → new ≡ heads ++ h ∷ [] → f h ≡ g x
    → map f heads ≡ map f old ++ map g (take i xs) → map f new ≡ map f old ++ map g (take (i + 1) xs)
told_next {X} {Y} {Z} f g old new heads h xs i x low is put own so =
    ap (map f) put ∙ map-append f heads (h ∷ []) ∙ ap (λ (l : List Y). l ++ f h ∷ []) so ∙ append_assoc (map f old) (map g (take i xs)) (f h ∷ [])
    ∙ ap (λ (l : List Y). map f old ++ l) (ap (λ (y : Y). map g (take i xs) ++ y ∷ []) own ∙ sym (ap (map g) (take_more_of xs i x low is) ∙ map-append g (take i xs) (x ∷ [])))

pub told_first : {X Y Z : Type 0} (f : X → Y) (g : Z → Y) (old heads : List X) (xs : List Z) (i : ℕ) → length xs ≤ i → map f heads ≡ map f old ++ map g (take i xs) → map f heads ≡ map f old ++ map g xs
told_first {X} {Y} {Z} f g old heads xs i past so = so ∙ ap (λ (l : List Z). map f old ++ map g l) (take_all i xs past)

pub room_next : {Z : Type 0} (span : Span) (g : Z → ℕ) (old new heads : List Head) (h : Head) (xs : List Z) (i : ℕ) (x : Z) → i < length xs → x ≡ get_or xs i x → new ≡ heads ++ h ∷ []
    → changes_under span (keys_behind h.key (source_keys h.source)) h.source ≤ g x
    → changes_left span heads ≤ changes_left span old + sum_by g (take i xs) → changes_left span new ≤ changes_left span old + sum_by g (take (i + 1) xs)
room_next span g old new heads h xs i x low is put own so =
    let f = λ (k : Head). changes_under span (keys_behind k.key (source_keys k.source)) k.source in
    let a = ap (sum_by f) put in
    let b = sum_by_push f heads h in
    let c = ap (sum_by g) (take_more_of xs i x low is) in
    let d = sum_by_push g (take i xs) x in
    omega (arith, a, b, c, d, own, so)

pub room_all : {Z : Type 0} (span : Span) (g : Z → ℕ) (old heads : List Head) (xs : List Z) (i : ℕ) → length xs ≤ i → changes_left span heads ≤ changes_left span old + sum_by g (take i xs) → changes_left span heads ≤ changes_left span old + sum_by g xs
room_all span g old heads xs i past so = let e = ap (sum_by g) (take_all i xs past) in omega (arith, so, e)

-- keys of changes are no longer than these say
short_left : (p : List ℕ → Bool) (ks : List (List ℕ)) → AllByRecursion (λ (k : List ℕ). length k ≤ 16384) ks → AllByRecursion (λ (k : List ℕ). length k ≤ 16384) (filter p ks)
short_left p [] h = tt
short_left p (k ∷ ks) h = by (p k) h.0 (short_left p ks h.1)
  where
    by : (b : Bool) → length k ≤ 16384 → AllByRecursion (λ (x : List ℕ). length x ≤ 16384) (filter p ks) → AllByRecursion (λ (x : List ℕ). length x ≤ 16384) (cond b (k ∷ filter p ks) (filter p ks))
    by true own rest = (own, rest)
    by false own rest = rest

pub keys_short : (cs : List KeyChange) → AllByRecursion (λ (c : KeyChange). length c.key ≤ 16384) cs → AllByRecursion (λ (k : List ℕ). length k ≤ 16384) (keys_in cs)
keys_short [] h = tt
keys_short (c ∷ cs) h = (h.0, short_left _ (keys_in cs) (keys_short cs h.1))

-- ---- keys that are some input's

abbrev IsAny : List ℕ → List (List (List ℕ)) → Type 0
IsAny q [] = ⊥
IsAny q (keys ∷ lists) = Contains keys q ⊎ IsAny q lists

any_of : (q : List ℕ) (xs ys : List (List (List ℕ))) → IsAny q (xs ++ ys) → IsAny q xs ⊎ IsAny q ys
any_of q [] ys h = inr h
any_of q (x ∷ xs) ys (inl here) = inl (inl here)
any_of q (x ∷ xs) ys (inr rest) = by (any_of q xs ys rest)
  where
    by : IsAny q xs ⊎ IsAny q ys → IsAny q (x ∷ xs) ⊎ IsAny q ys
    by (inl a) = inl (inr a)
    by (inr b) = inr b

of_mem : (q : List ℕ) (mems : List (List KeyChange)) → IsAny q (map keys_in mems) → IsOfMem q mems
of_mem q [] h = h
of_mem q (m ∷ mems) (inl here) = inl here
of_mem q (m ∷ mems) (inr rest) = inr (of_mem q mems rest)

of_rowset : (q : List ℕ) (rowsets : List RowSetData) → IsAny q (map keys_of rowsets) → IsOfRowset q rowsets
of_rowset q [] h = h
of_rowset q (d ∷ rowsets) (inl here) = inl here
of_rowset q (d ∷ rowsets) (inr rest) = inr (of_rowset q rowsets rest)

of_input : (q : List ℕ) (inputs : Inputs) → IsAny q (keys_of_inputs inputs) → IsOfInput q inputs
of_input q inputs h = by (any_of q (map keys_in inputs.mems) (map keys_of inputs.rowsets) h)
  where
    by : IsAny q (map keys_in inputs.mems) ⊎ IsAny q (map keys_of inputs.rowsets) → IsOfInput q inputs
    by (inl a) = inl (of_mem q inputs.mems a)
    by (inr b) = inr (of_rowset q inputs.rowsets b)

-- a key that is found among others is one of these
found_in : (p : List ℕ → Bool) (keys : List (List ℕ)) (k : List ℕ) → find_in p keys ≡ Some k → Contains keys k
found_in p [] k e = cc
found_in p (x ∷ keys) k e = by (p x) e (λ f. found_in p keys k f)
  where
    some_is : (a b : List ℕ) → Some a ≡ Some b → a ≡ b
    some_is a b f = cc

    later : Contains keys k → Contains (x ∷ keys) k
    later has = (suc has.0, omega (arith, has.1), has.2)

    by : (b : Bool) → cond b (Some x) (find_in p keys) ≡ Some k → (find_in p keys ≡ Some k → Contains keys k) → Contains (x ∷ keys) k
    by true f more = (0, omega arith, some_is x k f)
    by false f more = later (more f)

each_own : (Q : List ℕ → Type 0) (after : Option (List ℕ)) (heads : List Head) → ((k : List ℕ) → IsAny k (keys_at heads) → Q k) → AreAbove after heads → AllByRecursion (λ (o : Option (List ℕ)). (k : List ℕ) → o ≡ Some k → Q k) (keys_next heads)
each_own Q after [] up at = tt
each_own Q after (h ∷ heads) up at = (λ k is. up k (inl (found_in (is_above after) (source_keys h.source) k (sym at.0 ∙ is))), each_own Q after heads (λ k any. up k (inr any)) at.1)

pub next_own : (inputs : Inputs) (after : Option (List ℕ)) (heads : List Head) (key : List ℕ) → AreAbove after heads → keys_at heads ≡ keys_of_inputs inputs → least_in (keys_next heads) ≡ Some key → IsOfInput key inputs
next_own inputs after heads key at are next =
    least_has (λ (k : List ℕ). IsOfInput k inputs) (keys_next heads) key
    (each_own (λ (k : List ℕ). IsOfInput k inputs) after heads (λ k any. of_input k inputs (subst (IsAny k) are any)) at) next

pub no_other_more : (inputs : Inputs) (key : List ℕ) (old new : Told) → IsOfInput key inputs → NoOther inputs old → MayBeWritten key old new → NoOther inputs new
no_other_more inputs key old new own h (inl same) = subst (NoOther inputs) (sym same) h
no_other_more inputs key old new own h (inr more) = subst (NoOther inputs) (sym more.1) (all_more (λ (r : List ℕ × DiskRow). IsOfInput r.0 inputs) old (key, more.0) h own)

-- a row that is found stands under its key
pub found_own : (inputs : Inputs) (q : List ℕ) (told : Told) → NoOther inputs told → find key_cmp q told ≢ None → IsOfInput q inputs
found_own inputs q [] h some = absurd (some refl)
found_own inputs q (r ∷ told) h some = by_bool (eq_by_cmp key_cmp q r.0)
    (λ same. subst (λ (k : List ℕ). IsOfInput k inputs) (sym (same_key q r.0 same)) h.0)
    (λ other. found_own inputs q told h.1 (λ none. some (ap (λ (b : Bool). cond b (Some r.1) (find key_cmp q told)) other ∙ none)))
