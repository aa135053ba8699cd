-- The ranges of the keys of disk rowsets: which may hold a key, and where such rowsets stand.
use Rattle.std.proofs.Common.{◌≡◌, ◌≢◌, ℕ, zero, suc, ◌+◌, ◌-◌, ◌<◌, ◌≤◌, Bool, true, false, cond, List, [], ◌∷◌, ◌++◌, map, take, length, get_or, Some, None, is_some, refl, sym, ap, subst, ◌∙◌, arith, length-append, inl, inr}
use Rattle.std.specs.Prelude.{All, slice_get, set, ◌==◌, ◌||◌, ◌&&◌}
use Rattle.std.specs.List.{AllByRecursion, list_any, filter, position}
use Rattle.std.specs.List.Sorted.{IsPermutation, IsSorted}
use Rattle.std.specs.Option.{option_map}
use Rattle.std.specs.Ordering.{nat_cmp}
use Rattle.std.proofs.Math.ListN.{get_or-map}
use Rattle.std.proofs.Math.Seq.{map-set_same}
use Rattle.std.proofs.lemmas.Bool.{false≢true, cases_lt}
use Rattle.std.proofs.lemmas.Bool.Decides.{nat_tests}
use Rattle.std.proofs.lemmas.List.{length-map, length-take-le, map-append, take_more}
use Rattle.std.proofs.lemmas.List.Elements.{All-cons, All-filter, All-map}
use Rattle.std.proofs.lemmas.List.Sums.{length-filter, count_by-le-length}
use Rattle.std.proofs.lemmas.List.Sorted.{All-permutation, length_permutation, list_any-IsPermutation, IsNonDecreasingBy-from_sort, IsPermutation-append, IsPermutation-map, IsPermutation-refl, IsPermutation-sym, IsPermutation-trans}
use Rattle.std.proofs.lemmas.Simd.{map-map}
use Rattle.kt_baseset.specs.Rows.{keys_in}
use Rattle.kt_baseset.specs.Tables.{no_row}
use Rattle.kt_baseset.specs.declared.rows.KeyedRow.{KeyedRow}
use Rattle.kt_diskrowset.specs.Data.{held_in, files_in, fresh_in, store_in}
use Rattle.kt_diskrowset.specs.Held.{keys_held, ends_held}
use Rattle.kt_diskrowset.specs.Rows.{Fresh, hists_from, rows_of}
use Rattle.kt_diskrowset.specs.Rowset.{HeldFiles, held_of, files_of, fresh_of, store_of}
use Rattle.kt_diskrowset.specs.declared.data.RowSetData.{RowSetData}
use Rattle.kt_diskrowset.specs.declared.rowset.DiskRowSet.{DiskRowSet}
use Rattle.kt_diskrowset.proofs.Bounds.{in_order, outside}
use Rattle.kt_history.specs.Stores.{Hist, Store, hist_in, last_row}
use Rattle.kt_history.specs.Views.{AreRising}
use Rattle.kt_pool.specs.Contents.{Contents}
use Rattle.kt_rowfiles.specs.Files.{DiskRowset}
use Rattle.kt_rowtree.specs.Ranges.{Tree, is_upto, holds, holders_of, AreHolders, IsOrderly, closed_up, placed, places_out, raised, without}
use Rattle.kt_rowtree.specs.declared.lists.Range.{Range}
use Rattle.kt_rowtree.proofs.Deep.{length-holders}
use Rattle.kt_rowtree.proofs.Permuted.{closed_up-permutation}
use Rattle.kt_rowtree.proofs.Placing.{length-placed, low-placed, any-placed, any-holder, left_placed, placed-append, placed-raised, places_out-append}
use Rattle.kt_stores.specs.Ranges.{ranges_of, KeysRise, AreRanged}
use Rattle.kt_stores.specs.Shelf.{has_live}
use Rattle.kt_stores.proofs.Beside.{map_at}
use Rattle.kt_stores.proofs.Ordered.{get_at}
use Rattle.kt_stores.proofs.Seeking.{seek, position_is}

-- ---- small facts

some_is : {X : Type 0} (x y : X) → Some x ≡ Some y → x ≡ y
some_is x y e = cc

no_some : {X : Type 0} (x : X) → None ≡ Some x → ⊥
no_some x e = cc

same : (n : ℕ) → (0 + n == n) ≡ true
same n = grind (arith, nat_tests)

both : (a b : Bool) → a ≡ true → b ≡ true → (a && b) ≡ true
both true b e f = f
both false b e f = absurd (false≢true e)

-- where none leaves, all are left
pub all_left : (ranges : List Range) → without [] ranges ≡ ranges
all_left [] = refl
all_left (r ∷ ranges) = ap (λ rs. r ∷ rs) (all_left ranges)

abbrev Ordered : Range → Type 0
Ordered r = is_upto r.least r.greatest ≡ true

-- ---- ranges of keys that rise

ordered_from : (at : ℕ) (files : List HeldFiles) → KeysRise files → IsOrderly (placed at (map ends_held files))
ordered_from at [] rise = λ k d low. absurd (omega arith)
ordered_from at (h ∷ files) rise = All-cons Ordered _ _ (in_order h.base.2.rows rise.0) (ordered_from (at + 1) files rise.1)

pub ranges_orderly : (files : List HeldFiles) → KeysRise files → IsOrderly (ranges_of files)
ranges_orderly files rise = ordered_from 0 files rise

pub length-ranges : (files : List HeldFiles) → length (ranges_of files) ≡ length files
length-ranges files = length-placed 0 (map ends_held files) ∙ length-map files ends_held

rises_at : (files : List HeldFiles) (k : ℕ) (h : HeldFiles) → slice_get files k ≡ Some h → KeysRise files → AreRising (keys_held h)
rises_at [] k h at rise = absurd (no_some h at)
rises_at (f ∷ files) zero h at rise = subst (λ (h : HeldFiles). AreRising (keys_held h)) (some_is f h at) rise.0
rises_at (f ∷ files) (suc k) h at rise = rises_at files k h at rise.1

-- one more
pub rise_more : (files more : List HeldFiles) → KeysRise files → KeysRise more → KeysRise (files ++ more)
rise_more [] more rise other = other
rise_more (f ∷ files) more rise other = (rise.0, rise_more files more rise.1 other)

pub ranges_more : (files more : List HeldFiles) → ranges_of (files ++ more) ≡ ranges_of files ++ map (raised (length files)) (ranges_of more)
ranges_more files more =
    let long : 0 + length (map ends_held files) ≡ 0 + length files = (let n = length-map files ends_held in omega arith) in
    ap (placed 0) (map-append ends_held files more) ∙ placed-append 0 (map ends_held files) (map ends_held more)
    ∙ ap (λ n. ranges_of files ++ placed n (map ends_held more)) long
    ∙ ap (λ rs. ranges_of files ++ rs) (sym (placed-raised 0 (length files) (map ends_held more)))

-- and one rowset more
pub ranges_next : (files : List HeldFiles) (h : HeldFiles) (at : ℕ) (least greatest : List ℕ) → at ≡ length files → least ≡ (ends_held h).0 → greatest ≡ (ends_held h).1 → ranges_of (files ++ h ∷ []) ≡ ranges_of files ++ record { rowset = at; least = least; greatest = greatest } ∷ []
ranges_next files h at least greatest count low high =
    let here : 0 + length files ≡ at = omega arith in
    ranges_more files (h ∷ [])
    ∙ ap (λ n. ranges_of files ++ record { rowset = n; least = (ends_held h).0; greatest = (ends_held h).1 } ∷ []) here
    ∙ ap (λ key. ranges_of files ++ record { rowset = at; least = key; greatest = (ends_held h).1 } ∷ []) (sym low)
    ∙ ap (λ key. ranges_of files ++ record { rowset = at; least = least; greatest = key } ∷ []) (sym high)

-- ---- rowsets that leave, and such as have other files

rise_left : {R : Type 0} (file : R → HeldFiles) (stays : R → Bool) (rowsets : List R) → KeysRise (map file rowsets) → KeysRise (map file (filter stays rowsets))
rise_left file stays [] rise = tt
rise_left file stays (r ∷ rowsets) rise = by (stays r) (rise_left file stays rowsets rise.1)
  where
    by : (b : Bool) → KeysRise (map file (filter stays rowsets)) → KeysRise (map file (cond b (r ∷ filter stays rowsets) (filter stays rowsets)))
    by true h = (rise.0, h)
    by false h = h

ranges_left : {R : Type 0} (file : R → HeldFiles) (stays : R → Bool) (rowsets : List R) → closed_up (places_out stays 0 rowsets) (ranges_of (map file rowsets)) ≡ ranges_of (map file (filter stays rowsets))
ranges_left file stays rowsets =
    ap (λ ends. closed_up (places_out stays 0 rowsets) (placed 0 ends)) (map-map ends_held file rowsets)
    ∙ left_placed stays (λ r. ends_held (file r)) rowsets
    ∙ ap (placed 0) (sym (map-map ends_held file (filter stays rowsets)))

-- the places of one rowset more that leave
pub out_more : {R : Type 0} (stays : R → Bool) (rowsets : List R) (at : ℕ) (d : R) → at < length rowsets → places_out stays 0 (take (at + 1) rowsets) ≡ places_out stays 0 (take at rowsets) ++ cond (stays (get_or rowsets at d)) [] (at ∷ [])
out_more stays rowsets at d low =
    let long : 0 + length (take at rowsets) ≡ at = (let n = length-take-le at rowsets (omega arith) in omega arith) in
    ap (places_out stays 0) (take_more rowsets at d low) ∙ places_out-append stays 0 (take at rowsets) (get_or rowsets at d ∷ [])
    ∙ ap (λ n. places_out stays 0 (take at rowsets) ++ places_out stays n (get_or rowsets at d ∷ [])) long

-- those that are left
pub ranged_left : {R : Type 0} (file : R → HeldFiles) (stays : R → Bool) (rowsets : List R) (old new : Tree) → AreRanged (map file rowsets) old → IsPermutation (closed_up (places_out stays 0 rowsets) old.ranges) new.ranges → new.room ≡ old.room → AreRanged (map file (filter stays rowsets)) new
ranged_left file stays rowsets old new are all room = record {
  rise = rise_left file stays rowsets are.rise;
  all = subst (λ rs. IsPermutation rs new.ranges) (ranges_left file stays rowsets)
      (IsPermutation-trans _ _ _ (closed_up-permutation (places_out stays 0 rowsets) (ranges_of (map file rowsets)) old.ranges are.all) all);
  few =
      let few = are.few in
      let a = length-map rowsets file in
      let b = length-map (filter stays rowsets) file in
      let c = length-filter stays rowsets in
      let d = count_by-le-length stays rowsets in
      omega arith;
}

-- the ends are those of the keys
same_ends : (h later : HeldFiles) → keys_held later ≡ keys_held h → ends_held later ≡ ends_held h
same_ends h later e =
    let ends : List (List ℕ) → List ℕ × List ℕ = λ keys. (get_or keys 0 [], get_or keys (length keys - 1) []) in
    let is : (h : HeldFiles) → ends (keys_held h) ≡ ends_held h = λ h.
    let long = length-map h.base.2.rows (λ (r : KeyedRow). r.key) in
    let last : length (keys_held h) - 1 ≡ length h.base.2.rows - 1 = omega arith in
    let least = get_or-map (λ (r : KeyedRow). r.key) h.base.2.rows 0 no_row in
    let greatest = ap (λ n. get_or (keys_held h) n []) last ∙ get_or-map (λ (r : KeyedRow). r.key) h.base.2.rows (length h.base.2.rows - 1) no_row in
    λ k. (least k, greatest k) in
    sym (is later) ∙ ap ends e ∙ is h

rise_along : (files later : List HeldFiles) → map keys_held later ≡ map keys_held files → KeysRise files → KeysRise later
rise_along files [] e rise = tt
rise_along [] (g ∷ later) e rise = absurd (let n = ap length e in omega arith)
rise_along (f ∷ files) (g ∷ later) e rise =
    let here : keys_held g ≡ keys_held f = cc in
    let more : map keys_held later ≡ map keys_held files = cc in
    (subst AreRising (sym here) rise.0, rise_along files later more rise.1)

ends_along : (files later : List HeldFiles) → map keys_held later ≡ map keys_held files → map ends_held later ≡ map ends_held files
ends_along [] [] e = refl
ends_along (f ∷ files) [] e = absurd (let n = ap length e in omega arith)
ends_along [] (g ∷ later) e = absurd (let n = ap length e in omega arith)
ends_along (f ∷ files) (g ∷ later) e =
    let here : keys_held g ≡ keys_held f = cc in
    let more : map keys_held later ≡ map keys_held files = cc in
    λ k. same_ends f g here k ∷ ends_along files later more k

-- where the keys are the same, the ranges are
pub ranged_along : (files later : List HeldFiles) (tree : Tree) → map keys_held later ≡ map keys_held files → AreRanged files tree → AreRanged later tree
ranged_along files later tree e are = record {
  rise = rise_along files later e are.rise;
  all = subst (λ ends. IsPermutation (placed 0 ends) tree.ranges) (sym (ends_along files later e)) are.all;
  few = let few = are.few in let n = ap length e in let a = length-map files keys_held in let b = length-map later keys_held in omega arith;
}

keys_from : (d : DiskRowset) (fresh : Fresh) (n : ℕ) (rows : List KeyedRow) → map (λ (x : List ℕ × Hist). x.0) (hists_from d fresh n (rows_of rows)) ≡ keys_in rows
keys_from d fresh n [] = refl
keys_from d fresh n (r ∷ rows) = ap (λ keys. r.key ∷ keys) (keys_from d fresh (suc n) rows)

-- files that tell the same store have the same keys
pub keys_settled : (d : RowSetData) (s : DiskRowSet) (pool : Contents) → store_in d ≡ store_of s pool → keys_held (held_in d) ≡ keys_held (held_of s)
keys_settled d s pool e =
    sym (keys_from (files_in d) (fresh_in d) 0 d.base.set.value.rows) ∙ ap (map (λ (x : List ℕ × Hist). x.0)) e
    ∙ keys_from (files_of s) (fresh_of s pool) 0 s.base.set.value.rows

-- one rowset has other files, of the same keys
pub ranged_settled : {R : Type 0} (file : R → HeldFiles) (rowsets : List R) (j : ℕ) (x y : R) (tree : Tree) → j < length rowsets → x ≡ get_or rowsets j x → keys_held (file y) ≡ keys_held (file x) → AreRanged (map file rowsets) tree → AreRanged (map file (set rowsets j y)) tree
ranged_settled file rowsets j x y tree low is same are =
    ranged_along (map file rowsets) (map file (set rowsets j y)) tree
    (map-map keys_held file (set rowsets j y) ∙ map-set_same (λ r. keys_held (file r)) rowsets j y x (same ∙ ap (λ r. keys_held (file r)) is) ∙ sym (map-map keys_held file rowsets)) are

-- ---- a tree that has the ranges of rowsets

module _ (files : List HeldFiles) (tree : Tree) (are : AreRanged files tree) where
  pub ranged_orderly : IsOrderly tree.ranges
  ranged_orderly = All-permutation Ordered (ranges_of files) tree.ranges are.all (ranges_orderly files are.rise)

  pub length-ranged : length tree.ranges ≡ length files
  length-ranged = length_permutation (ranges_of files) tree.ranges are.all ∙ length-ranges files

  pub ranged_low : All (λ (r : Range). r.rowset < length files) tree.ranges
  ranged_low = All-permutation (λ (r : Range). r.rowset < length files) (ranges_of files) tree.ranges are.all (low-placed 0 (length files) (map ends_held files) (let l = length-map files ends_held in omega arith))

  pub few_holders : (key : List ℕ) → length (holders_of key tree.ranges) ≤ length files
  few_holders key = let few = length-holders key tree.ranges in let l = length-ranged in omega arith

  module _ (key : List ℕ) (ids : List ℕ) (held : AreHolders key tree.ranges ids) where
    -- each holder is a place
    pub holders_low : All (λ n. n < length files) ids
    holders_low = All-permutation (λ n. n < length files) (holders_of key tree.ranges) ids held.all
        (All-map (λ n. n < length files) (λ (r : Range). r.rowset) (filter (holds key) tree.ranges) (All-filter (holds key) (λ (r : Range). r.rowset < length files) tree.ranges ranged_low))

    -- and a rowset whose range holds the key is among them
    pub holder_found : (k : ℕ) (h : HeldFiles) → slice_get files k ≡ Some h → (is_upto (ends_held h).0 key && is_upto key (ends_held h).1) ≡ true → list_any (λ n. n == k) ids ≡ true
    holder_found k h at in_range =
        let is_here : Range → Bool = λ r. (r.rowset == k) && holds key r in
        list_any-IsPermutation (λ n. n == k) ids (holders_of key tree.ranges) (IsPermutation-sym _ _ held.all)
        ∙ any-holder key k tree.ranges
        ∙ list_any-IsPermutation is_here tree.ranges (ranges_of files) (IsPermutation-sym _ _ are.all)
        ∙ any-placed is_here 0 k (ends_held h) (map ends_held files) (map_at k ends_held h files at) (both (0 + k == k) _ (same k) in_range)

    -- where the range does not hold the key, no key of the base file is this one
    pub other_key : (k : ℕ) (h : HeldFiles) → slice_get files k ≡ Some h → (is_upto (ends_held h).0 key && is_upto key (ends_held h).1) ≡ false → AllByRecursion (λ (other : List ℕ). other ≢ key) (keys_held h)
    other_key k h at out = outside key h.base.2.rows (rises_at files k h at are.rise) out

-- a rowset that has the row of a key is among the holders
pub all_held : {R : Type 0} (file : R → HeldFiles) (store : R → Store) (law : (s : R) (q : List ℕ) → AllByRecursion (λ (key : List ℕ). key ≢ q) (keys_held (file s)) → last_row (hist_in q (store s)) ≡ None)
    (rowsets : List R) (tree : Tree) (are : AreRanged (map file rowsets) tree) (key : List ℕ) (ids : List ℕ) (held : AreHolders key tree.ranges ids)
    (k : ℕ) (d : R) → k < length rowsets → has_live key (store (get_or rowsets k d)) ≡ true → list_any (λ n. n == k) ids ≡ true
all_held file store law rowsets tree are key ids held k d low live = by (is_upto (ends_held h).0 key && is_upto key (ends_held h).1) refl
  where
    h : HeldFiles
    h = file (get_or rowsets k d)

    at : slice_get (map file rowsets) k ≡ Some h
    at = map_at k file (get_or rowsets k d) rowsets (get_at rowsets k d low)

    by : (b : Bool) → (is_upto (ends_held h).0 key && is_upto key (ends_held h).1) ≡ b → list_any (λ n. n == k) ids ≡ true
    by true e = holder_found (map file rowsets) tree are key ids held k h at e
    by false e = absurd (false≢true (sym (ap is_some (law (get_or rowsets k d) key (other_key (map file rowsets) tree are key ids held k h at e))) ∙ live))

-- the ranges of more rowsets behind those of others
pub ranged_more : (files more : List HeldFiles) (tree others new : Tree) → AreRanged files tree → AreRanged more others → IsPermutation (tree.ranges ++ map (raised (length files)) others.ranges) new.ranges → length files + length more ≤ new.room → AreRanged (files ++ more) new
ranged_more files more tree others new are other all room = record {
  rise = rise_more files more are.rise other.rise;
  all = subst (λ rs. IsPermutation rs new.ranges) (sym (ranges_more files more))
      (IsPermutation-trans _ _ _ (IsPermutation-append (ranges_of files) tree.ranges _ _ are.all (IsPermutation-map (raised (length files)) (ranges_of more) others.ranges other.all)) all);
  few = let n = length-append files more in omega arith;
}

-- ranges that were put into a tree of none
pub ranged_of : (files : List HeldFiles) (ranges : List Range) (old new : Tree) → ranges ≡ ranges_of files → KeysRise files → old.ranges ≡ [] → IsPermutation (without [] old.ranges ++ ranges) new.ranges → length files ≤ new.room → AreRanged files new
ranged_of files ranges old new is rise none all room = record {
  rise = rise;
  all = subst (λ rs. IsPermutation rs new.ranges) (ap (λ rs. without [] rs ++ ranges) none ∙ is) all;
  few = room;
}

-- where there is none
pub ranged_none : {R : Type 0} (file : R → HeldFiles) (rowsets : List R) (tree : Tree) → rowsets ≡ [] → tree.ranges ≡ [] → AreRanged (map file rowsets) tree
ranged_none file rowsets tree none empty = subst (λ rs. AreRanged (map file rs) tree) (sym none) (record {
  rise = tt;
  all = subst (λ rs. IsPermutation [] rs) (sym empty) (IsPermutation-refl []);
  few = omega arith;
})

-- ---- the first of some places

pub seek_first : {X : Type 0} (p : X → Bool) (xs : List X) (i : ℕ) (d : X) → i < length xs → p (get_or xs i d) ≡ true → ((k : ℕ) → k < i → p (get_or xs k d) ≡ false) → seek p xs ≡ Some i
seek_first p [] i d low here front = absurd (omega arith)
seek_first p (x ∷ xs) zero d low here front = ap (λ b. cond b (Some 0) (option_map (λ n. suc n) (seek p xs))) here
seek_first p (x ∷ xs) (suc i) d low here front =
    ap (λ b. cond b (Some 0) (option_map (λ n. suc n) (seek p xs))) (front 0 (omega arith))
    ∙ ap (option_map (λ n. suc n)) (seek_first p xs i d (omega arith) here (λ k before. front (suc k) (omega arith)))

pub seek_nowhere : {X : Type 0} (p : X → Bool) (xs : List X) → ((k : ℕ) (d : X) → k < length xs → p (get_or xs k d) ≡ false) → seek p xs ≡ None
seek_nowhere p [] none = refl
seek_nowhere p (x ∷ xs) none =
    ap (λ b. cond b (Some 0) (option_map (λ n. suc n) (seek p xs))) (none 0 x (omega arith))
    ∙ ap (option_map (λ n. suc n)) (seek_nowhere p xs (λ k d low. none (suc k) d (omega arith)))

-- a number that is listed stands at a place
pub listed_at : (k : ℕ) (ns : List ℕ) → list_any (λ n. n == k) ns ≡ true → (i : ℕ) × (i < length ns) × (get_or ns i 0 ≡ k)
listed_at k [] e = absurd (false≢true e)
listed_at k (n ∷ ns) e = by (n == k) refl e (listed_at k ns)
  where
    by : (b : Bool) → (n == k) ≡ b → (b || list_any (λ n. n == k) ns) ≡ true → (list_any (λ n. n == k) ns ≡ true → (i : ℕ) × (i < length ns) × (get_or ns i 0 ≡ k)) → (i : ℕ) × (i < length (n ∷ ns)) × (get_or (n ∷ ns) i 0 ≡ k)
    by true is e more = (0, omega arith, grind (arith, nat_tests, is))
    by false is e more = let m = more e in (suc m.0, (let low = m.1 in omega arith), m.2)

module _ {X : Type 0} (p : X → Bool) (xs : List X) (places : List ℕ) (rise : IsSorted nat_cmp places) (all : (k : ℕ) (d : X) → k < length xs → p (get_or xs k d) ≡ true → list_any (λ n. n == k) places ≡ true) (n : ℕ) (none : (i : ℕ) (d : X) → i < n → p (get_or xs (get_or places i 0) d) ≡ false) where
  -- nothing that is not at one of the places passes, nor what stands at one of the first n
  passes_not : (k : ℕ) (d : X) → k < length xs → ((i : ℕ) → i < length places → get_or places i 0 ≡ k → i < n) → p (get_or xs k d) ≡ false
  passes_not k d low early = by (p (get_or xs k d)) refl
    where
      by : (b : Bool) → p (get_or xs k d) ≡ b → p (get_or xs k d) ≡ false
      by false e = e
      by true e =
          let found = listed_at k places (all k d low e) in
          ap (λ k. p (get_or xs k d)) (sym found.2) ∙ none found.0 d (early found.0 found.1 found.2)

  pub first_place : (at : ℕ) (d : X) → n < length places → at ≡ get_or places n 0 → at < length xs → p (get_or xs at d) ≡ true → position p xs ≡ Some at
  first_place at d here is low passes =
      let up = IsNonDecreasingBy-from_sort (λ n. n) places rise in
      position_is p xs ∙ seek_first p xs at d low passes (λ k before. passes_not k d (omega arith) (λ i inner same. elim (cases_lt i n) [
        | inl early ↦ early
        | inr late ↦ let le = up n i 0 late inner in absurd (omega arith)
      ]))

  pub no_place : n ≡ length places → position p xs ≡ None
  no_place over = position_is p xs ∙ seek_nowhere p xs (λ k d low. passes_not k d low (λ i inner same. omega arith))
