-- The changes of all inputs under their keys are no more than they have together.
use Rattle.std.proofs.Common.{◌≡◌, ◌≤◌, ◌<◌, ◌+◌, ◌⊎◌, ℕ, zero, suc, inl, inr, Bool, true, false, cond, List, [], ◌∷◌, ◌++◌, map, length, length-append, Option, Some, None, refl, sym, ap, ◌∙◌, subst, arith}
use Rattle.std.specs.Prelude.{not, nat_lt, ◌==◌}
use Rattle.std.specs.List.{filter, sum_by}
use Rattle.std.specs.Ordering.{is_lt, eq_by_cmp}
use Rattle.std.proofs.lemmas.Bool.{cases_eq, eq-eqb, ne_eqb}
use Rattle.std.proofs.lemmas.List.Sums.{sum_by-cons}
use Rattle.kt_history.specs.declared.change.Change.{Change}
use Rattle.kt_history.specs.declared.changes.Delta.{Delta}
use Rattle.kt_history.specs.declared.changes.KeyChange.{KeyChange}
use Rattle.kt_history.specs.AsBytes.{step_of}
use Rattle.kt_history.specs.Rows.{Row, apply, undo, key_cmp}
use Rattle.kt_history.specs.Stores.{Steps, Hist, hist_in}
use Rattle.kt_history.specs.Views.{AreRising}
use Rattle.kt_histlaws.specs.Disks.{led_over}
use Rattle.kt_baseset.specs.declared.rows.KeyedRow.{KeyedRow}
use Rattle.kt_baseset.specs.Rows.{keys_in as base_keys}
use Rattle.kt_baseset.specs.Tables.{key_at, cells_in}
use Rattle.kt_rowfiles.specs.Files.{records_for, records_in, put_falling, falling, rising}
use Rattle.kt_rowfiles.specs.Taking.{lies_in, spanned}
use Rattle.kt_rowfiles.specs.declared.taking.Span.{Span}
use Rattle.kt_diskrowset.specs.declared.data.RowSetData.{RowSetData}
use Rattle.kt_diskrowset.specs.Data.{files_in, fresh_in, store_in, keys_of}
use Rattle.kt_diskrowset.specs.Rows.{hist_at, hist_found}
use Rattle.kt_diskrowset.proofs.Histories.{found_there, hist_is}
use Rattle.kt_merge.specs.Changes.{keys_in, changes_of, hist_in_changes}
use Rattle.kt_merge.specs.Heads.{source_keys, source_hist}
use Rattle.kt_merge.specs.Merge.{changes_in, changes_under, keys_behind}
use Rattle.kt_merge.specs.Minor.{held_records}
use Rattle.kt_merge.specs.declared.heads.Source.{Source}
use Rattle.kt_merge.proofs.KeyChanges.{by_bool, same_key}
use Rattle.kt_merge.proofs.Goes.{few_rising, no_changes}
use Rattle.kt_merge.proofs.KeysLeft.{HasKey, fewer_weight}
use Rattle.kt_merge.proofs.KeysNext.{Lacks, itself}
use Rattle.kt_merge.proofs.ToldRows.{in_files}

-- ---- lengths

few_kept : (p : ℕ × Change → Bool) (steps : Steps) → length (filter p steps) ≤ length steps
few_kept p [] = omega arith
few_kept p (c ∷ steps) = by (p c) (few_kept p steps)
  where
    by : (b : Bool) → length (filter p steps) ≤ length steps → length (cond b (c ∷ filter p steps) (filter p steps)) ≤ suc (length steps)
    by true h = omega (arith, h)
    by false h = omega (arith, h)

few_spanned : (span : Span) (steps : Steps) → length (spanned span steps) ≤ length steps
few_spanned span steps = few_kept (λ (c : ℕ × Change). lies_in span c.0) steps

put_one : (c : ℕ × Change) (steps : Steps) → length (put_falling c steps) ≡ suc (length steps)
put_one c [] = refl
put_one c (d ∷ steps) = by (nat_lt c.0 d.0) (put_one c steps)
  where
    by : (b : Bool) → length (put_falling c steps) ≡ suc (length steps) → length (cond b (d ∷ put_falling c steps) (c ∷ d ∷ steps)) ≡ suc (suc (length steps))
    by true h = ap suc h
    by false h = refl

few_falling : (steps : Steps) → length (falling steps) ≡ length steps
few_falling [] = refl
few_falling (c ∷ steps) = put_one c (falling steps) ∙ ap suc (few_falling steps)

few_led : (undos : Steps) (row : Option Row) → length (led_over undos row) ≡ length undos
few_led [] row = refl
few_led (u ∷ undos) row =
    let rest = few_led undos (apply u.1 row) in
    let both = length-append (led_over undos (apply u.1 row)) ((u.0, undo u.1 row) ∷ []) in
    omega (arith, rest, both)

-- ---- a MemRowSet

abbrev pub weight : Span → List KeyChange → List ℕ → ℕ
weight span cs q = length (spanned span (hist_in_changes q cs).steps)

-- a key of these, or none of them is it
has_or_lacks : (q : List ℕ) (keys : List (List ℕ)) → HasKey q keys ⊎ Lacks q keys
has_or_lacks q [] = inr tt
has_or_lacks q (k ∷ keys) = by_bool (eq_by_cmp key_cmp q k)
    (λ same. inl (inl (sym (same_key q k same))))
    (λ other. by (has_or_lacks q keys) other)
  where
    by : HasKey q keys ⊎ Lacks q keys → eq_by_cmp key_cmp q k ≡ false → HasKey q (k ∷ keys) ⊎ Lacks q (k ∷ keys)
    by (inl has) other = inl (inr has)
    by (inr lacks) other = inr (other, lacks)

-- without a key that these have, and with its weight, they weigh no more
others_and_one : (f : List ℕ → ℕ) (q : List ℕ) (keys : List (List ℕ)) → (Lacks q keys → f q ≡ 0) → sum_by f (filter (λ (k : List ℕ). not (eq_by_cmp key_cmp q k)) keys) + f q ≤ sum_by f keys
others_and_one f q keys none = by (has_or_lacks q keys)
  where
    all : (ks : List (List ℕ)) → filter (λ (k : List ℕ). true) ks ≡ ks
    all [] = refl
    all (k ∷ ks) = ap (λ (l : List (List ℕ)). k ∷ l) (all ks)

    kept : (ks : List (List ℕ)) → Lacks q ks → filter (λ (k : List ℕ). not (eq_by_cmp key_cmp q k)) ks ≡ ks
    kept [] h = refl
    kept (k ∷ ks) h = ap (λ (b : Bool). cond (not b) (k ∷ filter (λ (x : List ℕ). not (eq_by_cmp key_cmp q x)) ks) (filter (λ (x : List ℕ). not (eq_by_cmp key_cmp q x)) ks)) h.0 ∙ ap (λ (l : List (List ℕ)). k ∷ l) (kept ks h.1)

    by : HasKey q keys ⊎ Lacks q keys → sum_by f (filter (λ (k : List ℕ). not (eq_by_cmp key_cmp q k)) keys) + f q ≤ sum_by f keys
    by (inl has) =
        let less = fewer_weight f (λ (k : List ℕ). not (eq_by_cmp key_cmp q k)) (λ (k : List ℕ). true) q keys (λ x h. refl) has (ap not (itself q)) refl in
        let whole = ap (sum_by f) (all keys) in
        omega (arith, less, whole)
    by (inr lacks) = let same = ap (sum_by f) (kept keys lacks) in let nothing = none lacks in omega (arith, same, nothing)

-- weights that are no greater on keys that differ from one
same_weights : (f g : List ℕ → ℕ) (q : List ℕ) (keys : List (List ℕ)) → ((k : List ℕ) → eq_by_cmp key_cmp q k ≡ false → f k ≡ g k) → sum_by f (filter (λ (k : List ℕ). not (eq_by_cmp key_cmp q k)) keys) ≡ sum_by g (filter (λ (k : List ℕ). not (eq_by_cmp key_cmp q k)) keys)
same_weights f g q [] same = refl
same_weights f g q (k ∷ keys) same = by (eq_by_cmp key_cmp q k) refl (same_weights f g q keys same)
  where
    others : List (List ℕ)
    others = filter (λ (x : List ℕ). not (eq_by_cmp key_cmp q x)) keys

    by : (b : Bool) → eq_by_cmp key_cmp q k ≡ b → sum_by f others ≡ sum_by g others → sum_by f (cond (not b) (k ∷ others) others) ≡ sum_by g (cond (not b) (k ∷ others) others)
    by true e h = h
    by false e h =
        let own = same k e in
        let a = sum_by-cons f k others in
        let b = sum_by-cons g k others in
        omega (arith, h, own, a, b)

-- another key has what it has behind the first change
other_weight : (span : Span) (c : KeyChange) (cs : List KeyChange) (q : List ℕ) → eq_by_cmp key_cmp q c.key ≡ false → weight span (c ∷ cs) q ≡ weight span cs q
other_weight span c cs q ne = ap (λ (b : Bool). length (spanned span (map step_of (cond b (c ∷ changes_of q cs) (changes_of q cs))))) ne

own_weight : (span : Span) (c : KeyChange) (cs : List KeyChange) → weight span (c ∷ cs) c.key ≤ suc (weight span cs c.key)
own_weight span c cs =
    let is : weight span (c ∷ cs) c.key ≡ length (spanned span (step_of c ∷ map step_of (changes_of c.key cs))) = ap (λ (b : Bool). length (spanned span (map step_of (cond b (c ∷ changes_of c.key cs) (changes_of c.key cs))))) (itself c.key) in
    let most = by (lies_in span c.ts) in
    omega (arith, is, most)
  where
    by : (b : Bool) → length (cond b (step_of c ∷ spanned span (map step_of (changes_of c.key cs))) (spanned span (map step_of (changes_of c.key cs)))) ≤ suc (length (spanned span (map step_of (changes_of c.key cs))))
    by true = omega arith
    by false = omega arith

back_other : (q k : List ℕ) → eq_by_cmp key_cmp q k ≡ false → eq_by_cmp key_cmp k q ≡ false
back_other q k ne = by_bool (eq_by_cmp key_cmp k q) (λ same. absurd (let f : true ≡ false = sym (subst (λ (x : List ℕ). eq_by_cmp key_cmp q x ≡ true) (sym (same_key k q same)) (itself q)) ∙ ne in cc)) (λ other. other)

pub mem_few : (span : Span) (cs : List KeyChange) → sum_by (weight span cs) (keys_in cs) ≤ length cs
mem_few span [] = omega arith
mem_few span (c ∷ cs) =
    let others = filter (λ (k : List ℕ). not (eq_by_cmp key_cmp c.key k)) (keys_in cs) in
    let rest = mem_few span cs in
    let a = sum_by-cons (weight span (c ∷ cs)) c.key others in
    let same = same_weights (weight span (c ∷ cs)) (weight span cs) c.key (keys_in cs) (λ k ne. other_weight span c cs k (back_other c.key k ne)) in
    let own = own_weight span c cs in
    let fewer = others_and_one (weight span cs) c.key (keys_in cs) (λ lacks. ap (λ (l : List KeyChange). length (spanned span (map step_of l))) (no_changes c.key cs lacks)) in
    omega (arith, rest, a, same, own, fewer)

-- ---- a disk rowset

-- how many records so many rows have, from n on
abbrev pub sums : ℕ → ℕ → List Delta → ℕ
sums n zero list = 0
sums n (suc k) list = length (records_for n list) + sums (suc n) k list

abbrev hit : ℕ → ℕ → ℕ
hit n x = cond (x == n) 1 0

abbrev hits : ℕ → ℕ → ℕ → ℕ
hits n zero x = 0
hits n (suc k) x = hit n x + hits (suc n) k x

hits_low : (n k x : ℕ) → x < n → hits n k x ≡ 0
hits_low n zero x lt = refl
hits_low n (suc k) x lt =
    let here : hit n x ≡ 0 = ap (λ (b : Bool). cond b 1 0) (ne_eqb x n (λ e. omega (arith, e, lt))) in
    let rest = hits_low (suc n) k x (omega (arith, lt)) in
    omega (arith, here, rest)

hits_most : (n k x : ℕ) → hits n k x ≤ 1
hits_most n zero x = omega arith
hits_most n (suc k) x = elim (cases_eq x n) [
  | inl same ↦
      let here : hit n x ≡ 1 = ap (λ (b : Bool). cond b 1 0) (eq-eqb x n same) in
      let rest = hits_low (suc n) k x (omega (arith, same)) in
      omega (arith, here, rest)
  | inr ne ↦
      let here : hit n x ≡ 0 = ap (λ (b : Bool). cond b 1 0) (ne_eqb x n ne) in
      let rest = hits_most (suc n) k x in
      omega (arith, here, rest)
]

sums_none : (n k : ℕ) → sums n k [] ≡ 0
sums_none n zero = refl
sums_none n (suc k) = let rest = sums_none (suc n) k in omega (arith, rest)

sums_more : (n k : ℕ) (d : Delta) (list : List Delta) → sums n k (d ∷ list) ≡ hits n k d.ordinal + sums n k list
sums_more n zero d list = refl
sums_more n (suc k) d list =
    let rest = sums_more (suc n) k d list in
    let here = by (d.ordinal == n) in
    omega (arith, rest, here)
  where
    by : (b : Bool) → length (cond b ((d.ts, d.change) ∷ records_for n list) (records_for n list)) ≡ cond b 1 0 + length (records_for n list)
    by true = omega arith
    by false = omega arith

pub sums_few : (n k : ℕ) (list : List Delta) → sums n k list ≤ length list
sums_few n k [] = let none = sums_none n k in omega (arith, none)
sums_few n k (d ∷ list) =
    let rest = sums_few n k list in
    let more = sums_more n k d list in
    let most = hits_most n k d.ordinal in
    omega (arith, rest, more, most)

-- what a row has is no more than its records
row_few : (span : Span) (d : RowSetData) (n : ℕ) (cells : Row)
    → length (spanned span (hist_at (files_in d) (fresh_in d) (n, cells)).steps) ≤ length (records_for n (held_records d.undo)) + (length (records_for n (held_records d.redo)) + length (records_for n d.fresh))
row_few span d n cells =
    let undos = falling (records_in n (files_in d).undos) in
    let redos = rising (records_in n (files_in d).redos) in
    let led = led_over undos (Some cells) in
    let few = few_spanned span ((led ++ redos) ++ fresh_in d n) in
    let a = length-append (led ++ redos) (fresh_in d n) in
    let b = length-append led redos in
    let u = few_led undos (Some cells) in
    let v = few_falling (records_in n (files_in d).undos) in
    let w = few_rising (records_in n (files_in d).redos) in
    let x = ap length (in_files n d.undo) in
    let y = ap length (in_files n d.redo) in
    omega (arith, few, a, b, u, v, w, x, y)

rows_few : (span : Span) (d : RowSetData) (n : ℕ) (rows : List KeyedRow) → ((i : ℕ) → i < length rows → hist_in (key_at rows i) (store_in d) ≡ hist_at (files_in d) (fresh_in d) (n + i, cells_in rows i))
    → sum_by (λ (q : List ℕ). length (spanned span (hist_in q (store_in d)).steps)) (base_keys rows) ≤ sums n (length rows) (held_records d.undo) + (sums n (length rows) (held_records d.redo) + sums n (length rows) d.fresh)
rows_few span d n [] are = omega arith
rows_few span d n (r ∷ rows) are =
    let f = λ (q : List ℕ). length (spanned span (hist_in q (store_in d)).steps) in
    let rest = rows_few span d (suc n) rows (λ i low. are (suc i) (omega (arith, low)) ∙ (let e : n + suc i ≡ suc n + i = omega arith in ap (λ (k : ℕ). hist_at (files_in d) (fresh_in d) (k, cells_in rows i)) e)) in
    let a = sum_by-cons f r.key (base_keys rows) in
    let here : f r.key ≡ length (spanned span (hist_at (files_in d) (fresh_in d) (n, r.cells)).steps) = ap (λ (h : Hist). length (spanned span h.steps)) (are 0 (omega arith) ∙ (let e : n + 0 ≡ n = omega arith in ap (λ (k : ℕ). hist_at (files_in d) (fresh_in d) (k, r.cells)) e)) in
    let own = row_few span d n r.cells in
    omega (arith, rest, a, here, own)

pub rowset_few : (span : Span) (d : RowSetData) → AreRising (keys_of d) → sum_by (λ (q : List ℕ). length (spanned span (hist_in q (store_in d)).steps)) (keys_of d) ≤ changes_in d
rowset_few span d rise =
    let rows = d.base.set.value.rows in
    let most = rows_few span d 0 rows (λ i low. hist_is (files_in d) (fresh_in d) (key_at rows i) ∙ ap (hist_found (files_in d) (fresh_in d)) (found_there rows 0 i rise low)) in
    let a = sums_few 0 (length rows) (held_records d.undo) in
    let b = sums_few 0 (length rows) (held_records d.redo) in
    let e = sums_few 0 (length rows) d.fresh in
    omega (arith, most, a, b, e)

-- of the keys from the first one on there are no more
behind_few : (f : List ℕ → ℕ) (key : Option (List ℕ)) (keys : List (List ℕ)) → sum_by f (keys_behind key keys) ≤ sum_by f keys
behind_few f None keys = omega arith
behind_few f (Some key) keys = few keys
  where
    few : (ks : List (List ℕ)) → sum_by f (filter (λ (x : List ℕ). not (is_lt (key_cmp x key))) ks) ≤ sum_by f ks
    few [] = omega arith
    few (k ∷ ks) = by (not (is_lt (key_cmp k key))) (few ks)
      where
        by : (b : Bool) → sum_by f (filter (λ (x : List ℕ). not (is_lt (key_cmp x key))) ks) ≤ sum_by f ks → sum_by f (cond b (k ∷ filter (λ (x : List ℕ). not (is_lt (key_cmp x key))) ks) (filter (λ (x : List ℕ). not (is_lt (key_cmp x key))) ks)) ≤ sum_by f (k ∷ ks)
        by true h = let a = sum_by-cons f k (filter (λ (x : List ℕ). not (is_lt (key_cmp x key))) ks) in let b = sum_by-cons f k ks in omega (arith, h, a, b)
        by false h = let b = sum_by-cons f k ks in omega (arith, h, b)

-- so a head has at first no more left than its input has
pub mem_first : (span : Span) (key : Option (List ℕ)) (s : Source) (cs : List KeyChange) → ((q : List ℕ) → source_hist q s ≡ hist_in_changes q cs) → source_keys s ≡ keys_in cs → changes_under span (keys_behind key (source_keys s)) s ≤ length cs
mem_first span key s cs are keys =
    let f = λ (q : List ℕ). length (spanned span (source_hist q s).steps) in
    let few = behind_few f key (source_keys s) in
    let same = ap (sum_by f) keys in
    let weights = weights_same (keys_in cs) in
    let most = mem_few span cs in
    omega (arith, few, same, weights, most)
  where
    weights_same : (ks : List (List ℕ)) → sum_by (λ (q : List ℕ). length (spanned span (source_hist q s).steps)) ks ≡ sum_by (weight span cs) ks
    weights_same [] = refl
    weights_same (k ∷ ks) =
        let a = sum_by-cons (λ (q : List ℕ). length (spanned span (source_hist q s).steps)) k ks in
        let b = sum_by-cons (weight span cs) k ks in
        let here = ap (λ (h : Hist). length (spanned span h.steps)) (are k) in
        let rest = weights_same ks in
        omega (arith, a, b, here, rest)

pub rowset_first : (span : Span) (key : Option (List ℕ)) (s : Source) (d : RowSetData) → ((q : List ℕ) → source_hist q s ≡ hist_in q (store_in d)) → source_keys s ≡ keys_of d → AreRising (keys_of d)
    → changes_under span (keys_behind key (source_keys s)) s ≤ changes_in d
rowset_first span key s d are keys rise =
    let f = λ (q : List ℕ). length (spanned span (source_hist q s).steps) in
    let few = behind_few f key (source_keys s) in
    let same = ap (sum_by f) keys in
    let weights = weights_same (keys_of d) in
    let most = rowset_few span d rise in
    omega (arith, few, same, weights, most)
  where
    weights_same : (ks : List (List ℕ)) → sum_by (λ (q : List ℕ). length (spanned span (source_hist q s).steps)) ks ≡ sum_by (λ (q : List ℕ). length (spanned span (hist_in q (store_in d)).steps)) ks
    weights_same [] = refl
    weights_same (k ∷ ks) =
        let a = sum_by-cons (λ (q : List ℕ). length (spanned span (source_hist q s).steps)) k ks in
        let b = sum_by-cons (λ (q : List ℕ). length (spanned span (hist_in q (store_in d)).steps)) k ks in
        let here = ap (λ (h : Hist). length (spanned span h.steps)) (are k) in
        let rest = weights_same ks in
        omega (arith, a, b, here, rest)
