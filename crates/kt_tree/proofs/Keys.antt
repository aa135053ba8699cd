-- Where the keys of a tree are placed.
use Rattle.std.proofs.Common.{◌≡◌, ℕ, Bool, true, false, cond, List, [], ◌∷◌, ◌++◌, map, refl, sym, ap, ◌∙◌, subst, Some, None, Option}
use Rattle.std.specs.List.{find}
use Rattle.std.specs.Option.{option_map}
use Rattle.std.specs.Ordering.{is_eq}
use Rattle.std.specs.declared.cmp.Ordering.{Ordering}
use Rattle.std.specs.declared.cmp.Ordering.TheVariants.{Less, Equal, Greater}
use Rattle.std.proofs.lemmas.List.{map-append}
use Rattle.std.proofs.lemmas.Map.Text.{is_eq-slice_cmp}
use Rattle.std.proofs.lemmas.Slice.Eq.{bytes_eq-Decides}
use Rattle.kt_pool.specs.Contents.{Contents, at_cell}
use Rattle.kt_tree.specs.Entries.{Entry, order, IsBelow, AreBelow, AreAbove, IsRising, is_at, value_of, put_at, put}
use Rattle.kt_tree.specs.Shapes.{Shape, leaf, node, flat, key_cells, Holds}
use Rattle.kt_tree.proofs.Orders.{below_equal, find_first, find_next}

-- ---- two lists with the same keys

abbrev pub keys : List Entry → List (List ℕ)
keys es = map (λ (e : Entry). e.key) es

-- the keys that have a place are those that have a value
pub same_keys : (s : Shape) → keys (key_cells s) ≡ keys (flat s)
same_keys leaf = refl
same_keys (node cell l key place value r) =
    map-append (λ (e : Entry). e.key) (key_cells l) (record { key = key; value = place } ∷ key_cells r)
    ∙ ap (λ ks. ks ++ key ∷ keys (key_cells r)) (same_keys l)
    ∙ ap (λ ks. keys (flat l) ++ key ∷ ks) (same_keys r)
    ∙ sym (map-append (λ (e : Entry). e.key) (flat l) (record { key = key; value = value } ∷ flat r))

pub below_by : (a : List ℕ) (xs ys : List Entry) → keys xs ≡ keys ys → AreBelow a ys → AreBelow a xs
below_by a [] ys e h = tt
below_by a (x ∷ xs) [] e h = absurd cc
below_by a (x ∷ xs) (y ∷ ys) e h = (subst (λ k. IsBelow k a) (cc) h.0, below_by a xs ys (cc) h.1)

pub above_by : (a : List ℕ) (xs ys : List Entry) → keys xs ≡ keys ys → AreAbove a ys → AreAbove a xs
above_by a [] ys e h = tt
above_by a (x ∷ xs) [] e h = absurd cc
above_by a (x ∷ xs) (y ∷ ys) e h = (subst (IsBelow a) (cc) h.0, above_by a xs ys (cc) h.1)

pub rising_by : (xs ys : List Entry) → keys xs ≡ keys ys → IsRising ys → IsRising xs
rising_by [] ys e h = tt
rising_by (x ∷ xs) [] e h = absurd cc
rising_by (x ∷ xs) (y ∷ ys) e h =
    let same : y.key ≡ x.key = cc in
    (subst (λ k. AreAbove k xs) same (above_by y.key xs ys (cc) h.0), rising_by xs ys (cc) h.1)

pub none_by : (key : List ℕ) (xs ys : List Entry) → keys xs ≡ keys ys → find (is_at key) ys ≡ None → find (is_at key) xs ≡ None
none_by key [] ys e h = refl
none_by key (x ∷ xs) [] e h = absurd cc
none_by key (x ∷ xs) (y ∷ ys) e h =
    let same : y.key ≡ x.key = cc in
    by (order y.key key) (ap (λ k. order k key) same) (λ k. none_by key xs ys (cc) k) h
  where
    by : (o : Ordering) → o ≡ order x.key key → (find (is_at key) ys ≡ None → find (is_at key) xs ≡ None) → cond (is_eq o) (Some y) (find (is_at key) ys) ≡ None → find (is_at key) (x ∷ xs) ≡ None
    by Less is more h = find_next (is_at key) x xs (ap is_eq (sym is)) ∙ more h
    by Equal is more h = absurd cc
    by Greater is more h = find_next (is_at key) x xs (ap is_eq (sym is)) ∙ more h

-- ---- the value of a key

-- the key of what was found is the one that was sought
pub found_equal : (key : List ℕ) (es : List Entry) (e : Entry) → find (is_at key) es ≡ Some e → order e.key key ≡ Equal
found_equal key [] e h = absurd cc
found_equal key (x ∷ xs) e h = by (order x.key key) refl (λ k. found_equal key xs e k) h
  where
    by : (o : Ordering) → order x.key key ≡ o → (find (is_at key) xs ≡ Some e → order e.key key ≡ Equal) → cond (is_eq o) (Some x) (find (is_at key) xs) ≡ Some e → order e.key key ≡ Equal
    by Less is more h = more h
    by Equal is more h = let same : x ≡ e = cc in subst (λ (e : Entry). order e.key key ≡ Equal) same is
    by Greater is more h = more h

above_found : (a key : List ℕ) (es : List Entry) (e : Entry) → AreAbove a es → find (is_at key) es ≡ Some e → IsBelow a e.key
above_found a key [] e k h = absurd cc
above_found a key (x ∷ xs) e k h = by (is_at key x) (λ h. above_found a key xs e k.1 h) h
  where
    by : (b : Bool) → (find (is_at key) xs ≡ Some e → IsBelow a e.key) → cond b (Some x) (find (is_at key) xs) ≡ Some e → IsBelow a e.key
    by true more h = let same : x ≡ e = cc in subst (λ (e : Entry). IsBelow a e.key) same k.0
    by false more h = more h

-- what is found behind other keys is found among all
pub found_behind : (key : List ℕ) (xs ys : List Entry) (e : Entry) → IsRising (xs ++ ys) → find (is_at key) ys ≡ Some e → find (is_at key) (xs ++ ys) ≡ Some e
found_behind key [] ys e r h = h
found_behind key (x ∷ xs) ys e r h =
    let more = found_behind key xs ys e r.1 h in
    let below = below_equal x.key e.key key (found_equal key (xs ++ ys) e more) (above_found x.key key (xs ++ ys) e r.0 more) in
    find_next (is_at key) x (xs ++ ys) (ap is_eq below) ∙ more

some_of : (o : Option Entry) (v : ℕ) → option_map (λ (e : Entry). e.value) o ≡ Some v → (e : Entry) × (o ≡ Some e) × (e.value ≡ v)
some_of None v h = absurd cc
some_of (Some e) v h = (e, refl, cc)

-- an entry with this key and this value
pub found_of : (key : List ℕ) (es : List Entry) (v : ℕ) → value_of key es ≡ Some v → (e : Entry) × (find (is_at key) es ≡ Some e) × (e.value ≡ v)
found_of key es v h = some_of (find (is_at key) es) v h

pub value_found : (key : List ℕ) (es : List Entry) (e : Entry) (v : ℕ) → find (is_at key) es ≡ Some e → e.value ≡ v → value_of key es ≡ Some v
value_found key es e v h is = ap (option_map (λ (e : Entry). e.value)) h ∙ ap Some is

-- a key ties with itself
pub tie : (key : List ℕ) → is_eq (order key key) ≡ true
tie key = is_eq-slice_cmp key key ∙ (bytes_eq-Decides key key).1 refl

-- keys that tie are the same
pub order_same : (a b : List ℕ) → order a b ≡ Equal → a ≡ b
order_same a b e = (bytes_eq-Decides a b).0 (sym (is_eq-slice_cmp a b) ∙ ap is_eq e)

-- a key that is not there has no value
pub value_absent : (key : List ℕ) (es : List Entry) (v : ℕ) → find (is_at key) es ≡ None → value_of key es ≡ Some v → ⊥
value_absent key es v none h = let f = found_of key es v h in let e : None ≡ Some f.0 = sym none ∙ f.1 in absurd cc

-- a key keeps its value where another is put in
pub value_stays : (key other : List ℕ) (v w : ℕ) (es : List Entry) → find (is_at key) es ≡ None → value_of other es ≡ Some w → value_of other (put key v es) ≡ Some w
value_stays key other v w [] none h = absurd cc
value_stays key other v w (e ∷ es) none h = by (order e.key key) (λ k. value_stays key other v w es k) none (is_at other e) refl (is_eq (order key other)) refl h
  where
    new : Entry
    new = record { key = key; value = v }

    by : (o : Ordering) → (find (is_at key) es ≡ None → value_of other es ≡ Some w → value_of other (put key v es) ≡ Some w) → cond (is_eq o) (Some e) (find (is_at key) es) ≡ None → (b : Bool) → is_at other e ≡ b → (t : Bool) → is_eq (order key other) ≡ t → value_of other (e ∷ es) ≡ Some w → value_of other (put_at o new e es (put key v es)) ≡ Some w
    by Equal more k b is t tie h = absurd cc
    by Less more k true is t tie h = ap (option_map (λ (e : Entry). e.value)) (find_first (is_at other) e (put key v es) is ∙ sym (find_first (is_at other) e es is)) ∙ h
    by Less more k false is t tie h =
        ap (option_map (λ (e : Entry). e.value)) (find_next (is_at other) e (put key v es) is)
        ∙ more k (sym (ap (option_map (λ (e : Entry). e.value)) (find_next (is_at other) e es is)) ∙ h)
    by Greater more k b is false tie h = ap (option_map (λ (e : Entry). e.value)) (find_next (is_at other) new (e ∷ es) tie) ∙ h
    by Greater more k b is true tie h =
        let same : key ≡ other = (bytes_eq-Decides key other).0 (sym (is_eq-slice_cmp key other) ∙ tie) in
        absurd (value_absent key (e ∷ es) w none (subst (λ k. value_of k (e ∷ es) ≡ Some w) (sym same) h))

-- the key that was put in has its value
pub value_put : (key : List ℕ) (v : ℕ) (es : List Entry) → value_of key (put key v es) ≡ Some v
value_put key v [] = value_found key (record { key = key; value = v } ∷ []) (record { key = key; value = v }) v (find_first (is_at key) (record { key = key; value = v }) [] (tie key)) refl
value_put key v (e ∷ es) = by (order e.key key) refl (value_put key v es)
  where
    new : Entry
    new = record { key = key; value = v }

    by : (o : Ordering) → order e.key key ≡ o → value_of key (put key v es) ≡ Some v → value_of key (put_at o new e es (put key v es)) ≡ Some v
    by Less is more = ap (option_map (λ (e : Entry). e.value)) (find_next (is_at key) e (put key v es) (ap is_eq is)) ∙ more
    by Equal is more = let at : Entry = record { key = e.key; value = v } in value_found key (at ∷ es) at v (find_first (is_at key) at es (ap is_eq is)) refl
    by Greater is more = value_found key (new ∷ e ∷ es) new v (find_first (is_at key) new (e ∷ es) (tie key)) refl

-- ---- the bytes of a key stand at its place

abbrev Each : Contents → List Entry → Type 0
Each pool [] = Unit {0}
Each pool (e ∷ es) = (at_cell pool e.value ≡ Some e.key) × Each pool es

each_append : (pool : Contents) (xs ys : List Entry) → Each pool xs → Each pool ys → Each pool (xs ++ ys)
each_append pool [] ys h k = k
each_append pool (x ∷ xs) ys h k = (h.0, each_append pool xs ys h.1 k)

pub key_stands : (pool : Contents) (s : Shape) (key : List ℕ) (e : Entry) → Holds pool s → find (is_at key) (key_cells s) ≡ Some e → at_cell pool e.value ≡ Some e.key
key_stands pool s key e h found = found_all key (key_cells s) e (all_stand s h) found
  where
    all_stand : (s : Shape) → Holds pool s → Each pool (key_cells s)
    all_stand leaf h = tt
    all_stand (node cell l key place value r) h = each_append pool (key_cells l) (record { key = key; value = place } ∷ key_cells r) (all_stand l h.2) (h.1, all_stand r h.3)

    found_all : (key : List ℕ) (es : List Entry) (e : Entry) → Each pool es → find (is_at key) es ≡ Some e → at_cell pool e.value ≡ Some e.key
    found_all key [] e all h = absurd cc
    found_all key (x ∷ xs) e all h = by (is_at key x) (λ k. found_all key xs e all.1 k) h
      where
        by : (b : Bool) → (find (is_at key) xs ≡ Some e → at_cell pool e.value ≡ Some e.key) → cond b (Some x) (find (is_at key) xs) ≡ Some e → at_cell pool e.value ≡ Some e.key
        by true more h = let same : x ≡ e = cc in subst (λ (e : Entry). at_cell pool e.value ≡ Some e.key) same all.0
        by false more h = more h

pub place_stands : (pool : Contents) (s : Shape) (key : List ℕ) (place : ℕ) → Holds pool s → value_of key (key_cells s) ≡ Some place → at_cell pool place ≡ Some key
place_stands pool s key place h is =
    let f = found_of key (key_cells s) place is in
    ap (at_cell pool) (sym f.2) ∙ key_stands pool s key f.0 h f.1 ∙ ap Some (order_same f.0.key key (found_equal key (key_cells s) f.0 f.1))
