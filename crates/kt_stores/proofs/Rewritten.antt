-- A disk rowset that a job has changed, among the stores in their order.
use Rattle.std.proofs.Common.{◌≡◌, ◌<◌, ◌+◌, ℕ, List, map, length, get_or, Some, sym, ap, subst, ◌∙◌, inr}
use Rattle.std.specs.Prelude.{slice_get, set}
use Rattle.kt_history.proofs.Beside.{Stays, IsPlaced}
use Rattle.kt_history.specs.declared.target.Target.TheVariants.{Delta}
use Rattle.kt_histlaws.specs.Histories.{on_nth}
use Rattle.kt_diskrowset.specs.Rowset.{HeldFiles}
use Rattle.kt_memrowset.specs.declared.store.MemRowSet.{MemRowSet}
use Rattle.kt_pool.specs.Contents.{Contents, used}
use Rattle.kt_stores.specs.Shelf.{Shelved, names_of}
use Rattle.kt_stores.specs.Parts.{kept, stands_by, owns_by, read_by, shelf_of, AreKept}
use Rattle.kt_stores.proofs.Beside.{read_at, exact_at, on_nth_at, on_nth_same, map-on_nth, map_at}
use Rattle.kt_stores.proofs.Ordered.{get_at, set_on, read_is, rowset_at, rowset_on}
use Rattle.kt_stores.proofs.Shrinking.{HasShrunk, kept_shrunk}

module _ {R : Type 0} (stands : R → Contents → Type 0) (owns : R → Contents → ℕ → Type 0) (read : R → Contents → Shelved) (stays : Stays (stands_by stands) (owns_by owns) (read_by read)) (placed : IsPlaced (stands_by stands) (owns_by owns))
    (active : MemRowSet) (frozen : List MemRowSet) (rowsets : List R) (at j : ℕ) (x y : R) (old new : Contents) (e : at ≡ 1 + length frozen + j) (low : j < length rowsets) (is : x ≡ get_or rowsets j x)
    (h : AreKept (stands_by stands) (owns_by owns) (read_by read) (kept active frozen rowsets) old) (shrunk : HasShrunk stands owns x y old new) (fewer : used new + (read x old).cells ≡ used old + (read y new).cells) (closed : (read y new).closed ≡ (read x old).closed)
    (store : (read y new).store ≡ (read x old).store) (less : (read x old).cells ≡ 0 → (read y new).cells ≡ 0) where
  pub here : slice_get (kept active frozen rowsets) at ≡ Some (inr x)
  here = rowset_at active frozen rowsets at j x e (get_at rowsets j x low ∙ ap (λ r. Some r) (sym is))

  pub shelved_here : slice_get (shelf_of (read_by read) old (kept active frozen rowsets)) at ≡ Some (read x old)
  shelved_here = read_at (read_by read) old at (inr x) (kept active frozen rowsets) here

  both : AreKept (stands_by stands) (owns_by owns) (read_by read) (on_nth at (λ _. inr y) (kept active frozen rowsets)) new × (shelf_of (read_by read) new (on_nth at (λ _. inr y) (kept active frozen rowsets)) ≡ on_nth at (λ _. read y new) (shelf_of (read_by read) old (kept active frozen rowsets)))
  both = kept_shrunk (stands_by stands) (owns_by owns) (read_by read) stays placed old new (inr x) (inr y) at (kept active frozen rowsets) h here (record { here = shrunk.here; owned = shrunk.owned; frame = shrunk.frame }) fewer closed
      (λ none. less (exact_at at (read x old) (shelf_of (read_by read) old (kept active frozen rowsets)) shelved_here h.exact (sym store ∙ none)))

  now_is : kept active frozen (set rowsets j y) ≡ on_nth at (λ _. inr y) (kept active frozen rowsets)
  now_is = ap (λ rs. kept active frozen rs) (set_on rowsets j y) ∙ rowset_on active frozen rowsets at j y e

  pub kept_now : AreKept (stands_by stands) (owns_by owns) (read_by read) (kept active frozen (set rowsets j y)) new
  kept_now = subst (λ xs. AreKept (stands_by stands) (owns_by owns) (read_by read) xs new) (sym now_is) both.0

  pub shelf_now : shelf_of (read_by read) new (kept active frozen (set rowsets j y)) ≡ on_nth at (λ _. read y new) (shelf_of (read_by read) old (kept active frozen rowsets))
  shelf_now = ap (shelf_of (read_by read) new) now_is ∙ both.1

  pub stores_now : map (λ (s : Shelved). s.store) (shelf_of (read_by read) new (kept active frozen (set rowsets j y))) ≡ map (λ (s : Shelved). s.store) (shelf_of (read_by read) old (kept active frozen rowsets))
  stores_now =
      let shelf = shelf_of (read_by read) old (kept active frozen rowsets) in
      ap (map (λ (s : Shelved). s.store)) shelf_now ∙ map-on_nth at (λ (s : Shelved). s.store) (read y new) shelf ∙ ap (λ s. on_nth at (λ _. s) (map (λ (s : Shelved). s.store) shelf)) store
      ∙ on_nth_same at (read x old).store (map (λ (s : Shelved). s.store) shelf) (map_at at (λ (s : Shelved). s.store) (read x old) shelf shelved_here)

  pub names_now : (read y new).name ≡ (read x old).name → names_of (shelf_of (read_by read) new (kept active frozen (set rowsets j y))) ≡ names_of (shelf_of (read_by read) old (kept active frozen rowsets))
  names_now name =
      let shelf = shelf_of (read_by read) old (kept active frozen rowsets) in
      ap (map (λ (s : Shelved). s.name)) shelf_now ∙ map-on_nth at (λ (s : Shelved). s.name) (read y new) shelf ∙ ap (λ s. on_nth at (λ _. s) (map (λ (s : Shelved). s.name) shelf)) name
      ∙ on_nth_same at (read x old).name (map (λ (s : Shelved). s.name) shelf) (map_at at (λ (s : Shelved). s.name) (read x old) shelf shelved_here)

  pub renamed_now : (f : Shelved → Shelved) → read y new ≡ f (read x old) → shelf_of (read_by read) new (kept active frozen (set rowsets j y)) ≡ on_nth at f (shelf_of (read_by read) old (kept active frozen rowsets))
  renamed_now f same = shelf_now ∙ on_nth_at at f (read x old) (read y new) (shelf_of (read_by read) old (kept active frozen rowsets)) shelved_here same

  pub unchanged_now : read y new ≡ read x old → shelf_of (read_by read) new (kept active frozen (set rowsets j y)) ≡ shelf_of (read_by read) old (kept active frozen rowsets)
  unchanged_now same = shelf_now ∙ ap (λ s. on_nth at (λ _. s) (shelf_of (read_by read) old (kept active frozen rowsets))) same ∙ on_nth_same at (read x old) (shelf_of (read_by read) old (kept active frozen rowsets)) shelved_here

-- one rowset has other files, or the same ones
pub filed_now : {R : Type 0} (file : R → HeldFiles) (rowsets : List R) (j : ℕ) (y : R) → map file (set rowsets j y) ≡ on_nth j (λ _. file y) (map file rowsets)
filed_now file rowsets j y = ap (map file) (set_on rowsets j y) ∙ map-on_nth j file y rowsets

pub filed_still : {R : Type 0} (file : R → HeldFiles) (rowsets : List R) (j : ℕ) (x y : R) → slice_get rowsets j ≡ Some x → file y ≡ file x → map file (set rowsets j y) ≡ map file rowsets
filed_still file rowsets j x y there same =
    filed_now file rowsets j y ∙ ap (λ (h : HeldFiles). on_nth j (λ _. h) (map file rowsets)) same ∙ on_nth_same j (file x) (map file rowsets) (map_at j file x rowsets there)

pub filed_same : {R : Type 0} (file : R → HeldFiles) (rowsets : List R) (j : ℕ) (x y : R) → j < length rowsets → x ≡ get_or rowsets j x → file y ≡ file x → map file (set rowsets j y) ≡ map file rowsets
filed_same file rowsets j x y low is same = filed_still file rowsets j x y (read_is rowsets j x low is) same

pub some_same : {X : Type 0} (x y : X) → Some x ≡ Some y → x ≡ y
some_same x y e = cc

pub one_number : (r n q m : ℕ) → Some (Delta r n) ≡ Some (Delta q m) → r ≡ q
one_number r n q m e = cc
