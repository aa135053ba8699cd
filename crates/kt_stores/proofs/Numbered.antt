-- Where the disk rowset of a number is, among the stores in their order.
use Rattle.std.proofs.Common.{◌≡◌, ◌⊎◌, ℕ, suc, ◌+◌, Bool, false, List, [], ◌∷◌, map, length, Option, Some, None, refl, sym, ap, ◌∙◌, inl, inr, arith}
use Rattle.std.specs.Prelude.{◌==◌}
use Rattle.std.specs.List.{position}
use Rattle.std.specs.Option.{option_map}
use Rattle.std.proofs.lemmas.List.{length-map}
use Rattle.kt_histlaws.specs.Histories.{or_else}
use Rattle.kt_diskrowset.specs.declared.rowset.DiskRowSet.{DiskRowSet}
use Rattle.kt_diskrowset.specs.Rowset.{HeldFiles, held_of, name_of}
use Rattle.kt_memrowset.specs.declared.store.MemRowSet.{MemRowSet}
use Rattle.kt_pool.specs.Contents.{Contents}
use Rattle.kt_stores.specs.Shelf.{Shelved, is_rowset}
use Rattle.kt_stores.specs.Parts.{kept, read_by, shelf_of}
use Rattle.kt_stores.proofs.Seeking.{seek, position_is, seek-append, seek-map}

never_found : {X : Type 0} (xs : List X) → seek (λ x. false) xs ≡ None
never_found [] = refl
never_found (x ∷ xs) = ap (option_map (λ n. suc n)) (never_found xs)

behind : (n : ℕ) (o : Option ℕ) → option_map (λ k. suc k) (option_map (λ j. n + j) o) ≡ option_map (λ j. 1 + n + j) o
behind n None = refl
behind n (Some j) = let e : suc (n + j) ≡ 1 + n + j = omega arith in ap (λ k. Some k) e

module _ {R : Type 0} (read : R → Contents → Shelved) (pool : Contents) (number : ℕ) (active : MemRowSet) (frozen : List MemRowSet) (rowsets : List R) where
  pub numbered : position (λ (s : Shelved). is_rowset number s.name) (shelf_of (read_by read) pool (kept active frozen rowsets)) ≡ option_map (λ j. 1 + length frozen + j) (position (λ r. is_rowset number (read r pool).name) rowsets)
  numbered =
      let all : MemRowSet ⊎ R → Bool = λ x. is_rowset number (read_by read x pool).name in
      let left : MemRowSet → MemRowSet ⊎ R = λ s. inl s in
      let right : R → MemRowSet ⊎ R = λ r. inr r in
      position_is (λ (s : Shelved). is_rowset number s.name) (shelf_of (read_by read) pool (kept active frozen rowsets))
      ∙ seek-map (λ (s : Shelved). is_rowset number s.name) (λ x. read_by read x pool) (kept active frozen rowsets)
      ∙ ap (option_map (λ k. suc k))
      (seek-append all (map inl frozen) (map inr rowsets)
      ∙ ap (λ o. or_else o (option_map (λ j. length (map left frozen) + j) (seek all (map inr rowsets)))) (seek-map all left frozen ∙ never_found frozen)
      ∙ ap (λ n. option_map (λ j. n + j) (seek all (map inr rowsets))) (length-map frozen left)
      ∙ ap (option_map (λ j. length frozen + j)) (seek-map all right rowsets ∙ sym (position_is (λ r. is_rowset number (read r pool).name) rowsets)))
      ∙ behind (length frozen) (position (λ r. is_rowset number (read r pool).name) rowsets)

-- and its files
pub filed : (number : ℕ) (rowsets : List DiskRowSet) → position (λ (h : HeldFiles). h.number == number) (map held_of rowsets) ≡ position (λ (r : DiskRowSet). is_rowset number (name_of r)) rowsets
filed number rowsets =
    position_is (λ (h : HeldFiles). h.number == number) (map held_of rowsets) ∙ seek-map (λ (h : HeldFiles). h.number == number) held_of rowsets
    ∙ sym (position_is (λ (r : DiskRowSet). is_rowset number (name_of r)) rowsets)
