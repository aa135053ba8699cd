-- The history of a key among those of all rows.
use Rattle.std.proofs.Common.{◌≡◌, ◌≢◌, ◌<◌, ◌≤◌, ◌+◌, ℕ, zero, suc, Bool, true, false, cond, List, [], ◌∷◌, ◌++◌, map, length, get_or, append_assoc, Option, Some, None, unwrap_or, refl, sym, ap, subst, ◌∙◌, arith}
use Rattle.std.specs.Prelude.{IfSome, IfNone, MatchOption}
use Rattle.std.specs.Option.{option_map}
use Rattle.std.specs.List.{AllByRecursion}
use Rattle.std.specs.Ordering.{is_eq, eq_by_cmp, ordering_reverse}
use Rattle.std.specs.Cmp.{tied_itself}
use Rattle.std.proofs.lemmas.Cmp.{nat_list_cmp_total}
use Rattle.std.specs.FinMap.{nat_cmp-IsAntisymmetric, slice_cmp-IsAntisymmetric}
use Rattle.std.specs.FinMap.Entries.{find, put, by_order}
use Rattle.std.specs.declared.cmp.Ordering.{Ordering}
use Rattle.std.specs.declared.cmp.Ordering.TheVariants.{Less, Equal, Greater}
use Rattle.kt_history.specs.declared.change.Change.{Change}
use Rattle.kt_history.specs.Rows.{Row, Rows, key_cmp}
use Rattle.kt_history.specs.Stores.{never, push, last_row, hist_in}
use Rattle.kt_history.specs.Views.{AreRising}
use Rattle.kt_lookup.specs.Index.{Rises}
use Rattle.kt_baseset.specs.declared.rows.KeyedRow.{KeyedRow}
use Rattle.kt_baseset.specs.Rows.{keys_in}
use Rattle.kt_baseset.specs.Tables.{key_at, cells_in}
use Rattle.kt_rowfiles.specs.Files.{DiskRowset, row_under, row_with}
use Rattle.kt_rowfiles.proofs.Places.{row_missed}
use Rattle.kt_diskrowset.specs.Rows.{Fresh, rows_of, hist_at, hist_found, hist_under, hists_from, store_with}

some_is : {X : Type 0} (x y : X) → Some x ≡ Some y → x ≡ y
some_is x y e = cc

-- ---- keys

same_key : (a b : List ℕ) → key_cmp a b ≡ Equal → a ≡ b
same_key a b e = slice_cmp-IsAntisymmetric nat_cmp-IsAntisymmetric a b e

turned : (a b : List ℕ) → key_cmp a b ≡ Less → key_cmp b a ≡ Greater
turned a b e = nat_list_cmp_total.antisymm b a ∙ ap ordering_reverse e

itself : (q : List ℕ) → eq_by_cmp key_cmp q q ≡ true
itself q = ap is_eq (tied_itself nat_list_cmp_total q)

above_is_other : (a b : List ℕ) → key_cmp a b ≡ Less → eq_by_cmp key_cmp b a ≡ false
above_is_other a b e = ap is_eq (turned a b e)

-- ---- the rows of a base file

all_above : (key : List ℕ) (keys : List (List ℕ)) → ((j : ℕ) → j < length keys → key_cmp key (get_or keys j []) ≡ Less) → AllByRecursion (λ (other : List ℕ). key_cmp key other ≡ Less) keys
all_above key [] h = tt
all_above key (k ∷ keys) h = (h 0 (omega arith), all_above key keys (λ j low. h (suc j) (omega arith)))

pub are_rising : (keys : List (List ℕ)) → Rises keys → AreRising keys
are_rising [] h = tt
are_rising (k ∷ keys) h = (all_above k keys (λ j low. h 0 (suc j) (omega arith) (omega arith)), are_rising keys (λ i j less low. h (suc i) (suc j) (omega arith) (omega arith)))

key_above_at : (key : List ℕ) (rows : List KeyedRow) (i : ℕ) → AllByRecursion (λ (other : List ℕ). key_cmp key other ≡ Less) (keys_in rows) → i < length rows → key_cmp key (key_at rows i) ≡ Less
key_above_at key [] i h low = absurd (omega arith)
key_above_at key (r ∷ rows) zero h low = h.0
key_above_at key (r ∷ rows) (suc i) h low = key_above_at key rows i h.1 (omega arith)

-- the row at a place is found under its key
pub found_there : (rows : List KeyedRow) (n i : ℕ) → AreRising (keys_in rows) → i < length rows → row_under (key_at rows i) n (rows_of rows) ≡ Some (n + i, cells_in rows i)
found_there [] n i rise low = absurd (omega arith)
found_there (r ∷ rows) n zero rise low = ap (λ b. cond b (Some (n, r.cells)) (row_under r.key (suc n) (rows_of rows))) (itself r.key) ∙ (let e : n ≡ n + 0 = omega arith in ap (λ k. Some (k, r.cells)) e)
found_there (r ∷ rows) n (suc i) rise low =
    let other = above_is_other r.key (key_at rows i) (key_above_at r.key rows i rise.0 (omega arith)) in
    ap (λ b. cond b (Some (n, r.cells)) (row_under (key_at rows i) (suc n) (rows_of rows))) other
    ∙ found_there rows (suc n) i rise.1 (omega arith) ∙ (let e : suc n + i ≡ n + suc i = omega arith in ap (λ k. Some (k, cells_in rows i)) e)

each_other : (q : List ℕ) (rows : List KeyedRow) → ((i : ℕ) → i < length rows → key_at rows i ≢ q) → AllByRecursion (λ (r : List ℕ × Row). r.0 ≢ q) (rows_of rows)
each_other q [] h = tt
each_other q (r ∷ rows) h = (h 0 (omega arith), each_other q rows (λ i low. h (suc i) (omega arith)))

-- and a key that no row has is not found
pub found_nowhere : (q : List ℕ) (rows : List KeyedRow) → ((i : ℕ) → i < length rows → key_at rows i ≢ q) → row_under q 0 (rows_of rows) ≡ None
found_nowhere q rows h = row_missed q 0 (rows_of rows) (each_other q rows h)

-- the keys of rows under their keys
abbrev pub keys_under : Rows → List (List ℕ)
keys_under rows = map (λ (r : List ℕ × Row). r.0) rows

pub keys_are : (rows : List KeyedRow) → keys_under (rows_of rows) ≡ keys_in rows
keys_are [] = refl
keys_are (r ∷ rows) = ap (λ keys. r.key ∷ keys) (keys_are rows)

-- ---- the history of a key

found_in : (d : DiskRowset) (fresh : Fresh) (q : List ℕ) (n : ℕ) (rows : Rows) → find key_cmp q (hists_from d fresh n rows) ≡ option_map (hist_at d fresh) (row_under q n rows)
found_in d fresh q n [] = refl
found_in d fresh q n (r ∷ rows) = by (eq_by_cmp key_cmp q r.0) (found_in d fresh q (suc n) rows)
  where
    by : (b : Bool) → find key_cmp q (hists_from d fresh (suc n) rows) ≡ option_map (hist_at d fresh) (row_under q (suc n) rows)
        → cond b (Some (hist_at d fresh (n, r.1))) (find key_cmp q (hists_from d fresh (suc n) rows)) ≡ option_map (hist_at d fresh) (cond b (Some (n, r.1)) (row_under q (suc n) rows))
    by true h = refl
    by false h = h

or_never : (d : DiskRowset) (fresh : Fresh) (o : Option (ℕ × Row)) → unwrap_or (option_map (hist_at d fresh) o) never ≡ hist_found d fresh o
or_never d fresh None = refl
or_never d fresh (Some found) = refl

pub hist_is : (d : DiskRowset) (fresh : Fresh) (q : List ℕ) → hist_in q (store_with d fresh) ≡ hist_under q d fresh
hist_is d fresh q = ap (λ o. unwrap_or o never) (found_in d fresh q 0 d.base) ∙ or_never d fresh (row_under q 0 d.base)

-- ---- with other changes in memory

pub hists_same : (d : DiskRowset) (fresh later : Fresh) (n : ℕ) (rows : Rows) → ((m : ℕ) → n ≤ m → later m ≡ fresh m) → hists_from d later n rows ≡ hists_from d fresh n rows
hists_same d fresh later n [] same = refl
hists_same d fresh later n (r ∷ rows) same =
    ap (λ steps. (r.0, hist_at d (λ m. steps) (n, r.1)) ∷ hists_from d later (suc n) rows) (same n (omega arith))
    ∙ ap (λ hists. (r.0, hist_at d fresh (n, r.1)) ∷ hists) (hists_same d fresh later (suc n) rows (λ m low. same m (omega arith)))

equal : (o : Ordering) → is_eq o ≡ true → o ≡ Equal
equal Less e = cc
equal Equal e = refl
equal Greater e = cc

-- the key of a row behind one stands above its key
above_found : (low q : List ℕ) (n : ℕ) (rows : Rows) (found : ℕ × Row) → AllByRecursion (λ (other : List ℕ). key_cmp low other ≡ Less) (keys_under rows) → row_under q n rows ≡ Some found → (n ≤ found.0) × (key_cmp low q ≡ Less)
above_found low q n [] found h e = absurd (let f : None ≡ Some found = e in cc)
above_found low q n (r ∷ rows) found h e = by (eq_by_cmp key_cmp q r.0) refl e (λ f. above_found low q (suc n) rows found h.1 f)
  where
    by : (b : Bool) → eq_by_cmp key_cmp q r.0 ≡ b → cond b (Some (n, r.1)) (row_under q (suc n) rows) ≡ Some found
        → (row_under q (suc n) rows ≡ Some found → (suc n ≤ found.0) × (key_cmp low q ≡ Less)) → (n ≤ found.0) × (key_cmp low q ≡ Less)
    by true tied f more = (
      (let at = ap (λ (x : ℕ × Row). x.0) (some_is (n, r.1) found f) in omega arith),
      subst (λ key. key_cmp low key ≡ Less) (sym (same_key q r.0 (equal (key_cmp q r.0) tied))) h.0,
    )
    by false apart f more = (let k = (more f).0 in omega arith, (more f).1)

pushed_at : (d : DiskRowset) (fresh later : Fresh) (ts : ℕ) (c : Change) (found : ℕ × Row) → later found.0 ≡ fresh found.0 ++ (ts, c) ∷ [] → hist_at d later found ≡ push ts c (hist_at d fresh found)
pushed_at d fresh later ts c found e = ap (λ steps. hist_at d (λ m. steps) found) e ∙ ap (λ steps. record { first = (row_with d (Some found)).first; steps = steps }) (sym (append_assoc (row_with d (Some found)).steps (fresh found.0) ((ts, c) ∷ [])))

-- where a row has one change more in memory, its history has it, and every other is as before
pub pushed_in : (d : DiskRowset) (fresh later : Fresh) (q : List ℕ) (ts : ℕ) (c : Change) (n : ℕ) (rows : Rows) (found : ℕ × Row) → AreRising (keys_under rows) → row_under q n rows ≡ Some found
    → later found.0 ≡ fresh found.0 ++ (ts, c) ∷ [] → ((m : ℕ) → found.0 ≢ m → later m ≡ fresh m)
    → hists_from d later n rows ≡ put key_cmp q (push ts c (hist_at d fresh found)) (hists_from d fresh n rows)
pushed_in d fresh later q ts c n [] found rise e here others = absurd (let f : None ≡ Some found = e in cc)
pushed_in d fresh later q ts c n (r ∷ rows) found rise e here others = by (key_cmp q r.0) refl e (λ f. pushed_in d fresh later q ts c (suc n) rows found rise.1 f here others)
  where
    by : (o : Ordering) → key_cmp q r.0 ≡ o → cond (is_eq o) (Some (n, r.1)) (row_under q (suc n) rows) ≡ Some found
        → (row_under q (suc n) rows ≡ Some found → hists_from d later (suc n) rows ≡ put key_cmp q (push ts c (hist_at d fresh found)) (hists_from d fresh (suc n) rows))
        → (r.0, hist_at d later (n, r.1)) ∷ hists_from d later (suc n) rows ≡ by_order o ((q, push ts c (hist_at d fresh found)) ∷ (r.0, hist_at d fresh (n, r.1)) ∷ hists_from d fresh (suc n) rows) ((r.0, push ts c (hist_at d fresh found)) ∷ hists_from d fresh (suc n) rows) ((r.0, hist_at d fresh (n, r.1)) ∷ put key_cmp q (push ts c (hist_at d fresh found)) (hists_from d fresh (suc n) rows))
    by Less less f more =
        let above = above_found r.0 q (suc n) rows found rise.0 f in
        absurd (let g : Less ≡ Greater = sym less ∙ turned r.0 q above.1 in cc)
    by Equal tied f more =
        let is = some_is (n, r.1) found f in
        let at = ap (λ (x : ℕ × Row). x.0) is in
        ap (λ (x : ℕ × Row). (r.0, hist_at d later x) ∷ hists_from d later (suc n) rows) is
        ∙ ap (λ h. (r.0, h) ∷ hists_from d later (suc n) rows) (pushed_at d fresh later ts c found here)
        ∙ ap (λ hists. (r.0, push ts c (hist_at d fresh found)) ∷ hists) (hists_same d fresh later (suc n) rows (λ m low. others m (λ same. absurd (omega arith))))
    by Greater above_it f more =
        let above = above_found r.0 q (suc n) rows found rise.0 f in
        let k = above.0 in
        ap (λ steps. (r.0, hist_at d (λ m. steps) (n, r.1)) ∷ hists_from d later (suc n) rows) (others n (λ same. absurd (omega arith)))
        ∙ ap (λ hists. (r.0, hist_at d fresh (n, r.1)) ∷ hists) (more f)

-- a key that no row has is not there after all changes
pub nothing_there : (d : DiskRowset) (fresh : Fresh) (q : List ℕ) → row_under q 0 d.base ≡ None → last_row (hist_in q (store_with d fresh)) ≡ None
nothing_there d fresh q none = ap last_row (hist_is d fresh q ∙ ap (hist_found d fresh) none)

-- what a search of a base file tells of a key
pub search_tells : (rows : List KeyedRow) (q : List ℕ) (r : Option ℕ) → AreRising (keys_in rows) → IfSome r (λ i. (i < length rows) × (key_at rows i ≡ q)) → IfNone r ((i : ℕ) → i < length rows → key_at rows i ≢ q)
    → MatchOption r (row_under q 0 (rows_of rows) ≡ None) (λ i. (i < length rows) × (row_under q 0 (rows_of rows) ≡ Some (i, cells_in rows i)))
search_tells rows q None rise found none = found_nowhere q rows none
search_tells rows q (Some i) rise found none = (
  found.0,
  subst (λ key. row_under key 0 (rows_of rows) ≡ Some (i, cells_in rows i)) found.1 (found_there rows 0 i rise found.0 ∙ (let e : 0 + i ≡ i = omega arith in ap (λ k. Some (k, cells_in rows i)) e)),
)

-- where a key has a row, the store has one
pub some_row : (d : DiskRowset) (fresh : Fresh) (q : List ℕ) (found : ℕ × Row) → row_under q 0 d.base ≡ Some found → store_with d fresh ≡ [] → ⊥
some_row d fresh q found at = by d.base at
  where
    by : (rows : Rows) → row_under q 0 rows ≡ Some found → hists_from d fresh 0 rows ≡ [] → ⊥
    by [] e none = let f : None ≡ Some found = e in cc
    by (r ∷ rows) e none = cc
