-- How many REDO files a superblock names of a disk rowset, gone over rowset by rowset.
use Rattle.std.proofs.Common.{◌≡◌, ◌<◌, ◌+◌, ℕ, Bool, true, false, cond, List, ◌∷◌, drop, get_or, length, suc, sym, ap, ◌∙◌, drop-cons, add-one}
use Rattle.std.specs.Prelude.{◌==◌}
use Rattle.kt_super.specs.declared.meta.MetaRowset.{MetaRowset}
use Rattle.kt_engine.specs.DeltaJobs.{redo_files}

drop_at : (rowsets : List MetaRowset) (k : ℕ) (m : MetaRowset) → k < length rowsets → m ≡ get_or rowsets k m → drop k rowsets ≡ m ∷ drop (k + 1) rowsets
drop_at rowsets k m lt is = rw add-one (drop-cons rowsets k m lt ∙ ap (λ (x : MetaRowset). x ∷ drop (suc k) rowsets) (sym is))

-- it is the one
pub redo_here : (r k : ℕ) (rowsets : List MetaRowset) (m : MetaRowset) → k < length rowsets → m ≡ get_or rowsets k m → (m.rowset == r) ≡ true → redo_files r (drop k rowsets) ≡ length m.redo
redo_here r k rowsets m lt is own = ap (redo_files r) (drop_at rowsets k m lt is) ∙ ap (λ (b : Bool). cond b (length m.redo) (redo_files r (drop (k + 1) rowsets))) own

-- or another
pub redo_other : (r k : ℕ) (rowsets : List MetaRowset) (m : MetaRowset) → k < length rowsets → m ≡ get_or rowsets k m → (m.rowset == r) ≡ false → redo_files r (drop k rowsets) ≡ redo_files r (drop (k + 1) rowsets)
redo_other r k rowsets m lt is own = ap (redo_files r) (drop_at rowsets k m lt is) ∙ ap (λ (b : Bool). cond b (length m.redo) (redo_files r (drop (k + 1) rowsets))) own
