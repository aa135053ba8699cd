-- The disk rowset at a place among the stores in their order, as a call reaches it.
use Rattle.std.proofs.Common.{◌≡◌, ◌<◌, ◌+◌, ◌-◌, ℕ, List, map, length, get_or, Some, sym, ap, ◌∙◌, inr, arith}
use Rattle.std.specs.Prelude.{slice_get}
use Rattle.std.specs.Option.{option_map}
use Rattle.kt_diskrowset.specs.Rowset.{HeldFiles}
use Rattle.kt_memrowset.specs.declared.store.MemRowSet.{MemRowSet}
use Rattle.kt_pool.specs.Contents.{Contents}
use Rattle.kt_stores.specs.Shelf.{Shelved, StoresView, stores_of, name_at}
use Rattle.kt_stores.specs.Parts.{kept, stands_by, owns_by, read_by, shelf_of, AreKept}
use Rattle.kt_stores.proofs.Beside.{read_at, map_at}
use Rattle.kt_stores.proofs.Ordered.{read_is, rowset_at, count, stand_at, stored_at, length-shelf}

module _ {R : Type 0} {files : List HeldFiles} (stands : R → Contents → Type 0) (owns : R → Contents → ℕ → Type 0) (read : R → Contents → Shelved) (active : MemRowSet) (frozen : List MemRowSet) (rowsets : List R) (pool : Contents) (now : StoresView)
    (view : record { pool = pool; shelf = shelf_of (read_by read) pool (kept active frozen rowsets); frozen = length frozen; files = files } ≡ now) (h : AreKept (stands_by stands) (owns_by owns) (read_by read) (kept active frozen rowsets) pool)
    (at memory : ℕ) (memory_is : memory ≡ now.frozen) (behind : now.frozen < at) (within : at < length now.shelf) where
  frozen_is : length frozen ≡ now.frozen
  frozen_is = ap (λ (v : StoresView). v.frozen) view

  pub place : at ≡ 1 + length frozen + (at - 1 - memory)
  place = let f = frozen_is in omega (arith, f, memory_is, behind)

  pub low : at - 1 - memory < length rowsets
  low =
      let f = frozen_is in
      let n = count active frozen rowsets in
      let m = length-shelf (read_by read) pool (kept active frozen rowsets) in
      let v = ap (λ (v : StoresView). length v.shelf) view in
      omega (arith, f, n, m, v, memory_is, behind, within)

  module _ (x : R) (is : x ≡ get_or rowsets (at - 1 - memory) x) where
    pub here : slice_get (kept active frozen rowsets) at ≡ Some (inr x)
    here = rowset_at active frozen rowsets at (at - 1 - memory) x place (read_is rowsets (at - 1 - memory) x low is)

    pub stands_here : stands x pool
    stands_here = stand_at (stands_by stands) pool at (inr x) (kept active frozen rowsets) here h.stand

    pub stored_here : slice_get (stores_of now) at ≡ Some (read x pool).store
    stored_here = ap (λ (v : StoresView). slice_get (stores_of v) at) (sym view) ∙ stored_at (read_by read) pool at (inr x) (kept active frozen rowsets) here

    pub named_here : name_at at now.shelf ≡ Some (read x pool).name
    named_here = ap (λ (v : StoresView). name_at at v.shelf) (sym view) ∙ ap (option_map (λ (s : Shelved). s.name)) (read_at (read_by read) pool at (inr x) (kept active frozen rowsets) here)

    -- the files of each rowset are told
    pub filed_here : (file : R → HeldFiles) → files ≡ map file rowsets → slice_get now.files (at - 1 - now.frozen) ≡ Some (file x)
    filed_here file all =
        ap (λ (v : StoresView). slice_get v.files (at - 1 - now.frozen)) (sym view) ∙ ap (λ (n : ℕ). slice_get files (at - 1 - n)) (sym memory_is) ∙ ap (λ (fs : List HeldFiles). slice_get fs (at - 1 - memory)) all
        ∙ map_at (at - 1 - memory) file x rowsets (read_is rowsets (at - 1 - memory) x low is)
