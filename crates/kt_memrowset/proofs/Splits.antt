-- A key among sorted entries: what is below it, and what is above.
use Rattle.std.proofs.Common.{◌≡◌, ℕ, Bool, true, cond, List, [], ◌∷◌, ◌++◌, map, Some, None, Option, refl, sym, ap, subst, ◌∙◌}
use Rattle.std.proofs.lemmas.Bool.{false≢true}
use Rattle.std.proofs.lemmas.List.{map-append}
use Rattle.std.specs.List.{find}
use Rattle.std.specs.Option.{option_map}
use Rattle.std.specs.Ordering.{is_eq}
use Rattle.std.specs.declared.cmp.Ordering.{Ordering}
use Rattle.std.specs.declared.cmp.Ordering.TheVariants.{Less, Equal, Greater}
use Rattle.std.specs.FinMap.Entries.{by_order, put as put_key}
use Rattle.kt_history.specs.Rows.{key_cmp}
use Rattle.kt_history.specs.Stores.{Hist}
use Rattle.kt_histlaws.proofs.Pending.{tied_keys, itself}
use Rattle.kt_pool.specs.Contents.{Contents}
use Rattle.kt_tree.specs.Entries.{Entry, order, AreBelow, AreAbove, IsRising, is_at, value_of, put_at, put}
use Rattle.kt_tree.proofs.Orders.{greater_is, above_is, above_weaker, none_above}
use Rattle.kt_memrowset.specs.Links.{chain}
use Rattle.kt_memrowset.specs.Stores.{hist_of, row_at}

abbrev pub at_key : List ℕ → ℕ → Entry
at_key key v = record { key = key; value = v }

pub record Found (key : List ℕ) (v : ℕ) (es : List Entry) : Type 0 where
  pub before : List Entry
  pub after : List Entry
  pub is : es ≡ before ++ at_key key v ∷ after
  pub below : AreBelow key before
  pub above : AreAbove key after

pub record Lacking (key : List ℕ) (v : ℕ) (es : List Entry) : Type 0 where
  pub before : List Entry
  pub after : List Entry
  pub is : es ≡ before ++ after
  pub put_is : put key v es ≡ before ++ at_key key v ∷ after
  pub below : AreBelow key before
  pub above : AreAbove key after

abbrev value_by : Bool → Entry → Option Entry → Option ℕ
value_by b e rest = option_map (λ (e : Entry). e.value) (cond b (Some e) rest)

pub found : (key : List ℕ) (v : ℕ) (es : List Entry) → IsRising es → value_of key es ≡ Some v → Found key v es
found key v [] r f = let g : None ≡ Some v = f in absurd cc
found key v (e ∷ es) r f = by (order e.key key) refl f (λ f. found key v es r.1 f)
  where
    by : (o : Ordering) → order e.key key ≡ o → value_by (is_eq o) e (find (is_at key) es) ≡ Some v → (value_of key es ≡ Some v → Found key v es) → Found key v (e ∷ es)
    by Less l f more = let m = more f in record { before = e ∷ m.before; after = m.after; is = ap (λ xs. e ∷ xs) m.is; below = (l, m.below); above = m.above }
    by Equal l f more =
        let k : e.key ≡ key = tied_keys e.key key l in
        let w : e.value ≡ v = cc in
        record { before = []; after = es; is = ap (λ x. at_key x e.value ∷ es) k ∙ ap (λ x. at_key key x ∷ es) w; below = tt; above = subst (λ k. AreAbove k es) k r.0 }
    by Greater l f more =
        let none = ap (option_map (λ (e : Entry). e.value)) (none_above key es (above_weaker e.key key es (above_is e.key key l) r.0)) in
        absurd (let g : None ≡ Some v = sym none ∙ f in cc)

pub lacking : (key : List ℕ) (v : ℕ) (es : List Entry) → IsRising es → value_of key es ≡ None → Lacking key v es
lacking key v [] r f = record { before = []; after = []; is = refl; put_is = refl; below = tt; above = tt }
lacking key v (e ∷ es) r f = by (order e.key key) refl f (λ f. lacking key v es r.1 f)
  where
    by : (o : Ordering) → order e.key key ≡ o → value_by (is_eq o) e (find (is_at key) es) ≡ None → (value_of key es ≡ None → Lacking key v es) → Lacking key v (e ∷ es)
    by Less l f more =
        let m = more f in
        record { before = e ∷ m.before; after = m.after; is = ap (λ xs. e ∷ xs) m.is; put_is = ap (λ o. put_at o (at_key key v) e es (put key v es)) l ∙ ap (λ xs. e ∷ xs) m.put_is; below = (l, m.below); above = m.above }
    by Equal l f more = absurd (let g : Some e.value ≡ None = f in cc)
    by Greater l f more =
        let b = above_is e.key key l in
        record { before = []; after = e ∷ es; is = refl; put_is = ap (λ o. put_at o (at_key key v) e es (put key v es)) l; below = tt; above = (b, above_weaker e.key key es b r.0) }

-- ---- a store with another history of the key

put_past : (pool : Contents) (key : List ℕ) (h : Hist) (xs : List Entry) (rest : List (List ℕ × Hist)) → AreBelow key xs → put_key key_cmp key h (map (row_at pool) xs ++ rest) ≡ map (row_at pool) xs ++ put_key key_cmp key h rest
put_past pool key h [] rest b = refl
put_past pool key h (e ∷ es) rest b =
    let more = map (row_at pool) es ++ rest in
    ap (λ o. by_order o ((key, h) ∷ row_at pool e ∷ more) ((e.key, h) ∷ more) (row_at pool e ∷ put_key key_cmp key h more)) (greater_is key e.key b.0)
    ∙ ap (λ xs. row_at pool e ∷ xs) (put_past pool key h es rest b.1)

put_first : (pool : Contents) (key : List ℕ) (h : Hist) (ys : List Entry) → AreAbove key ys → put_key key_cmp key h (map (row_at pool) ys) ≡ (key, h) ∷ map (row_at pool) ys
put_first pool key h [] a = refl
put_first pool key h (e ∷ es) a =
    let more = map (row_at pool) es in
    ap (λ o. by_order o ((key, h) ∷ row_at pool e ∷ more) ((e.key, h) ∷ more) (row_at pool e ∷ put_key key_cmp key h more)) a.0

equal : (o : Ordering) → is_eq o ≡ true → o ≡ Equal
equal Less e = absurd (false≢true e)
equal Equal e = refl
equal Greater e = absurd (false≢true e)

put_here : (key : List ℕ) (h g : Hist) (rest : List (List ℕ × Hist)) → put_key key_cmp key h ((key, g) ∷ rest) ≡ (key, h) ∷ rest
put_here key h g rest = ap (λ o. by_order o ((key, h) ∷ (key, g) ∷ rest) ((key, h) ∷ rest) ((key, g) ∷ put_key key_cmp key h rest)) (tied key)
  where
    tied : (k : List ℕ) → key_cmp k k ≡ Equal
    tied k = equal (key_cmp k k) (itself k)

pub put_found : (pool : Contents) (key : List ℕ) (v : ℕ) (es : List Entry) (h : Hist) (f : Found key v es) → put_key key_cmp key h (map (row_at pool) es) ≡ map (row_at pool) f.before ++ (key, h) ∷ map (row_at pool) f.after
put_found pool key v es h f =
    ap (λ es. put_key key_cmp key h (map (row_at pool) es)) f.is ∙ ap (put_key key_cmp key h) (map-append (row_at pool) f.before (at_key key v ∷ f.after))
    ∙ put_past pool key h f.before (map (row_at pool) (at_key key v ∷ f.after)) f.below ∙ ap (λ xs. map (row_at pool) f.before ++ xs) (put_here key h (hist_of (chain pool v)) (map (row_at pool) f.after))

pub put_lacking : (pool : Contents) (key : List ℕ) (v : ℕ) (es : List Entry) (h : Hist) (f : Lacking key v es) → put_key key_cmp key h (map (row_at pool) es) ≡ map (row_at pool) f.before ++ (key, h) ∷ map (row_at pool) f.after
put_lacking pool key v es h f =
    ap (λ es. put_key key_cmp key h (map (row_at pool) es)) f.is ∙ ap (put_key key_cmp key h) (map-append (row_at pool) f.before f.after)
    ∙ put_past pool key h f.before (map (row_at pool) f.after) f.below ∙ ap (λ xs. map (row_at pool) f.before ++ xs) (put_first pool key h f.after f.above)
