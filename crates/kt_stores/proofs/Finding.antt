-- Where the row of a key is, among the stores in their order.
use Rattle.std.proofs.Common.{◌≡◌, ◌⊎◌, ℕ, suc, ◌+◌, ◌<◌, Bool, true, false, cond, List, [], ◌∷◌, ◌++◌, map, length, Option, Some, None, refl, sym, ap, subst, ◌∙◌, inl, inr, arith}
use Rattle.std.specs.Prelude.{not, nat_lt, unwrap_or}
use Rattle.std.specs.List.{position}
use Rattle.std.specs.Option.{option_map}
use Rattle.std.proofs.lemmas.List.{length-map}
use Rattle.kt_history.specs.Stores.{Store}
use Rattle.kt_histlaws.specs.Histories.{or_else}
use Rattle.kt_memrowset.specs.declared.store.MemRowSet.{MemRowSet}
use Rattle.kt_memrowset.specs.Stores.{store_of}
use Rattle.kt_pool.specs.Contents.{Contents}
use Rattle.kt_stores.specs.Shelf.{Shelved, has_live, place_of}
use Rattle.kt_stores.specs.Parts.{kept, read_by, shelf_of}
use Rattle.kt_stores.proofs.Seeking.{seek, position_is, seek-append, seek-map, seek_low}
use Rattle.kt_stores.proofs.Taking.{held, place_is}

-- the place among all, by whether the first store has the row, and where it is among the frozen ones and the rowsets
abbrev among : Bool → ℕ → Option ℕ → Option ℕ → Option ℕ
among first n frozen rowset = cond first (Some 0) (option_map (λ k. suc k) (or_else frozen (option_map (λ j. n + j) rowset)))

module _ {R : Type 0} (read : R → Contents → Shelved) (pool : Contents) (q : List ℕ) (active : MemRowSet) (frozen : List MemRowSet) (rowsets : List R) where
  tail_is : seek (has_live q) (held (shelf_of (read_by read) pool (map inl frozen ++ map inr rowsets))) ≡ or_else (position (λ s. has_live q (store_of s pool)) frozen) (option_map (λ j. length frozen + j) (position (λ r. has_live q (read r pool).store) rowsets))
  tail_is =
      let all : MemRowSet ⊎ R → Bool = λ x. has_live q (read_by read x pool).store in
      let left : MemRowSet → MemRowSet ⊎ R = λ s. inl s in
      let right : R → MemRowSet ⊎ R = λ r. inr r in
      seek-map (has_live q) (λ (s : Shelved). s.store) (shelf_of (read_by read) pool (map inl frozen ++ map inr rowsets))
      ∙ seek-map (λ (s : Shelved). has_live q s.store) (λ x. read_by read x pool) (map inl frozen ++ map inr rowsets)
      ∙ seek-append all (map inl frozen) (map inr rowsets)
      ∙ ap (λ o. or_else o (option_map (λ j. length (map left frozen) + j) (seek all (map inr rowsets)))) (seek-map all left frozen ∙ sym (position_is (λ s. has_live q (store_of s pool)) frozen))
      ∙ ap (λ n. or_else (position (λ s. has_live q (store_of s pool)) frozen) (option_map (λ j. n + j) (seek all (map inr rowsets)))) (length-map frozen left)
      ∙ ap (λ o. or_else (position (λ s. has_live q (store_of s pool)) frozen) (option_map (λ j. length frozen + j) o)) (seek-map all right rowsets ∙ sym (position_is (λ r. has_live q (read r pool).store) rowsets))

  found : (a : Bool) (f r : Option ℕ) → has_live q (store_of active pool) ≡ a → position (λ s. has_live q (store_of s pool)) frozen ≡ f → position (λ r. has_live q (read r pool).store) rowsets ≡ r
      → position (has_live q) (held (shelf_of (read_by read) pool (kept active frozen rowsets))) ≡ among a (length frozen) f r
  found a f r here old new =
      position_is (has_live q) (held (shelf_of (read_by read) pool (kept active frozen rowsets)))
      ∙ ap (λ o. cond (has_live q (store_of active pool)) (Some 0) (option_map (λ k. suc k) o)) tail_is
      ∙ (λ k. among (here k) (length frozen) (old k) (new k))

  pub first_active : has_live q (store_of active pool) ≡ true → position (has_live q) (held (shelf_of (read_by read) pool (kept active frozen rowsets))) ≡ Some 0
  first_active here = found true (position (λ s. has_live q (store_of s pool)) frozen) (position (λ r. has_live q (read r pool).store) rowsets) here refl refl

  pub first_frozen : (at : ℕ) → has_live q (store_of active pool) ≡ false → position (λ s. has_live q (store_of s pool)) frozen ≡ Some at → position (has_live q) (held (shelf_of (read_by read) pool (kept active frozen rowsets))) ≡ Some (1 + at)
  first_frozen at here old =
      let e : suc at ≡ 1 + at = omega arith in
      found false (Some at) (position (λ r. has_live q (read r pool).store) rowsets) here old refl ∙ ap (λ n. Some n) e

  pub first_rowset : (n at : ℕ) → n ≡ length frozen → has_live q (store_of active pool) ≡ false → position (λ s. has_live q (store_of s pool)) frozen ≡ None → position (λ r. has_live q (read r pool).store) rowsets ≡ Some at
      → position (has_live q) (held (shelf_of (read_by read) pool (kept active frozen rowsets))) ≡ Some (1 + n + at)
  first_rowset n at count here old new =
      let e : suc (length frozen + at) ≡ 1 + n + at = omega arith in
      found false None (Some at) here old new ∙ ap (λ n. Some n) e

  pub first_none : has_live q (store_of active pool) ≡ false → position (λ s. has_live q (store_of s pool)) frozen ≡ None → position (λ r. has_live q (read r pool).store) rowsets ≡ None
      → position (has_live q) (held (shelf_of (read_by read) pool (kept active frozen rowsets))) ≡ None
  first_none here old new = found false None None here old new

  -- one store alone
  pub place_alone : frozen ≡ [] → rowsets ≡ [] → place_of q (held (shelf_of (read_by read) pool (kept active frozen rowsets))) ≡ 0
  place_alone no_frozen no_rowsets = ap (λ (ss : List (MemRowSet ⊎ R)). place_of q (held (shelf_of (read_by read) pool ss))) (λ k. kept active (no_frozen k) (no_rowsets k)) ∙ alone (has_live q (store_of active pool))
    where
      alone : (b : Bool) → unwrap_or (cond (nat_lt (cond (not b) (1 + 0) 0) 1) (Some (cond (not b) (1 + 0) 0)) None) 0 ≡ 0
      alone true = refl
      alone false = refl

-- a change goes to a store that is there
pub place_low : (q : List ℕ) (stores : List Store) → 0 < length stores → place_of q stores < length stores
place_low q stores some = subst (λ n. n < length stores) (sym (place_is q stores)) (by (seek (has_live q) stores) refl)
  where
    by : (o : Option ℕ) → seek (has_live q) stores ≡ o → unwrap_or o 0 < length stores
    by None found = some
    by (Some i) found = seek_low (has_live q) stores i found

pub none_there : {X : Type 0} (xs : List X) → length xs ≡ 0 → xs ≡ []
none_there [] e = refl
none_there (x ∷ xs) e = absurd (omega arith)
