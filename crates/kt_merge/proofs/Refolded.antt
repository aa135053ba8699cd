-- A disk rowset whose REDO records are folded in, row by row, tells the same store.
use Rattle.std.proofs.Common.{◌≡◌, ◌≤◌, ◌<◌, ◌+◌, ℕ, suc, List, [], ◌∷◌, ◌++◌, length, refl, ap, subst, ◌∙◌, arith}
use Rattle.kt_history.specs.declared.changes.Delta.{Delta}
use Rattle.kt_history.specs.Rows.{Row}
use Rattle.kt_history.specs.Stores.{Steps, Under}
use Rattle.kt_histlaws.specs.Disks.{DiskRow, hist_of}
use Rattle.kt_histlaws.specs.Fitting.{Rises}
use Rattle.kt_baseset.specs.declared.schema.ColumnShape.{ColumnShape}
use Rattle.kt_baseset.specs.declared.rows.KeyedRow.{KeyedRow}
use Rattle.kt_baseset.specs.Rows.{keys_in}
use Rattle.kt_baseset.specs.Tables.{cells_in}
use Rattle.kt_rowfiles.specs.Files.{DiskRowset, records_for, records_in, rising, falling}
use Rattle.kt_diskrowset.specs.declared.data.RowSetData.{RowSetData}
use Rattle.kt_diskrowset.specs.Data.{files_in, fresh_in, store_in}
use Rattle.kt_diskrowset.specs.Files.{lists_of}
use Rattle.kt_diskrowset.specs.Rows.{Fresh, rows_of, with_steps, hist_at, hists_from}
use Rattle.kt_merge.specs.declared.folding.Folded.{Folded}
use Rattle.kt_merge.specs.Major.{AllFrom, FoldsRow, records_of, redos_at}
use Rattle.kt_merge.specs.Rewriting.{Folds, IsFoldedWhole}
use Rattle.kt_merge.proofs.FoldedRowsets.{one_row}

-- ---- one row

-- a time that no change reaches
abbrev bound : Steps → ℕ
bound [] = 0
bound (c ∷ steps) = c.0 + bound steps + 1

under_more : (a b : ℕ) (steps : Steps) → a ≤ b → Under a steps → Under b steps
under_more a b [] le h = tt
under_more a b (c ∷ steps) le h = ((let lt = h.0 in omega (arith, lt, le)), under_more a b steps le h.1)

under_bound : (steps : Steps) → Under (bound steps) steps
under_bound [] = tt
under_bound (c ∷ steps) = (omega arith, under_more (bound steps) (c.0 + bound steps + 1) steps (omega arith) (under_bound steps))

all_from : (low m : ℕ) (steps : Steps) → low ≤ m → Rises m steps → AllFrom low steps
all_from low m [] le h = tt
all_from low m (c ∷ steps) le h = ((let lt = h.0 in omega (arith, lt, le)), all_from low c.0 steps (let lt = h.0 in omega (arith, lt, le)) h.1)

pub folds_row : (columns : List ColumnShape) (older redos : Steps) (base : Row) → (f : Folds columns older redos base) → FoldsRow 0 older redos base f.to.row.base f.to.row.undos f.to.row.redos
folds_row columns older [] base f = record { low = bound older; under = under_bound older; from_ = tt; rises = f.rises; undone = f.undone; is = f.to.is }
folds_row columns older (c ∷ redos) base f = record { low = c.0; under = f.below; from_ = (omega arith, all_from c.0 c.0 redos (omega arith) f.rises.1); rises = f.rises; undone = f.undone; is = f.to.is }

-- ---- each

heads : {X : Type 0} (x y : X) (xs ys : List X) → x ∷ xs ≡ y ∷ ys → x ≡ y
heads x y xs ys e = cc

tails : {X : Type 0} (x y : X) (xs ys : List X) → x ∷ xs ≡ y ∷ ys → xs ≡ ys
tails x y xs ys e = cc

hists_both : (d e : DiskRowset) (f g : Fresh) (n : ℕ) (rows news : List KeyedRow) → keys_in news ≡ keys_in rows → ((i : ℕ) → i < length rows → hist_at e g (n + i, cells_in news i) ≡ hist_at d f (n + i, cells_in rows i))
    → hists_from e g n (rows_of news) ≡ hists_from d f n (rows_of rows)
hists_both d e f g n [] [] keys same = refl
hists_both d e f g n [] (s ∷ news) keys same = absurd (let k = ap length keys in omega (arith, k))
hists_both d e f g n (r ∷ rows) [] keys same = absurd (let k = ap length keys in omega (arith, k))
hists_both d e f g n (r ∷ rows) (s ∷ news) keys same =
    let here : n + 0 ≡ n = omega arith in
    ap (λ key. (key, hist_at e g (n, s.cells)) ∷ hists_from e g (suc n) (rows_of news)) (heads s.key r.key (keys_in news) (keys_in rows) keys)
    ∙ ap (λ h. (r.key, h) ∷ hists_from e g (suc n) (rows_of news)) (subst (λ m. hist_at e g (m, s.cells) ≡ hist_at d f (m, r.cells)) here (same 0 (omega arith)))
    ∙ ap (λ hs. (r.key, hist_at d f (n, r.cells)) ∷ hs)
    (hists_both d e f g (suc n) rows news (tails s.key r.key (keys_in news) (keys_in rows) keys)
    (λ i low. subst (λ m. hist_at e g (m, cells_in news i) ≡ hist_at d f (m, cells_in rows i)) (let k : n + suc i ≡ suc n + i = omega arith in k) (same (suc i) (omega (arith, low)))))

-- ---- all

module _ (d e : RowSetData) (f : Folded) (base : e.base.set.value ≡ f.base) (undo : (n : ℕ) → records_in n (lists_of e.undo) ≡ records_in n (lists_of d.undo) ++ records_for n (records_of f.undo))
    (redo : (n : ℕ) → records_in n (lists_of e.redo) ≡ records_for n (records_of f.redo)) (fresh : e.fresh ≡ d.fresh) (whole : IsFoldedWhole d.base.set.value d.undo d.redo f) where
  row_same : (n : ℕ) → n < length d.base.set.value.rows → hist_at (files_in e) (fresh_in e) (n, cells_in f.base.rows n) ≡ hist_at (files_in d) (fresh_in d) (n, cells_in d.base.set.value.rows n)
  row_same n low =
      let older = records_in n (lists_of d.undo) in
      let row = (whole.fold n low).to.row in
      let is = whole.rows n low in
      ap (λ (r : Row). with_steps (hist_of (record { base = r; undos = falling (records_in n (lists_of e.undo)); redos = rising (records_in n (lists_of e.redo)) })) (records_for n e.fresh)) (ap (λ (r : DiskRow). r.base) is)
      ∙ ap (λ (u : Steps). with_steps (hist_of (record { base = row.base; undos = falling u; redos = rising (records_in n (lists_of e.redo)) })) (records_for n e.fresh)) (undo n ∙ ap (λ (r : DiskRow). older ++ r.undos) is)
      ∙ ap (λ (u : Steps). with_steps (hist_of (record { base = row.base; undos = falling (older ++ row.undos); redos = rising u })) (records_for n e.fresh)) (redo n ∙ ap (λ (r : DiskRow). r.redos) is)
      ∙ ap (λ h. with_steps h (records_for n e.fresh))
      (one_row 0 older (redos_at n d.redo) (cells_in d.base.set.value.rows n) row.base row.undos row.redos (folds_row d.base.set.value.schema older (redos_at n d.redo) (cells_in d.base.set.value.rows n) (whole.fold n low)))
      ∙ ap (λ (l : List Delta). with_steps (hist_of (record { base = cells_in d.base.set.value.rows n; undos = falling older; redos = redos_at n d.redo })) (records_for n l)) fresh

  pub refolded : store_in e ≡ store_in d
  refolded =
      ap (λ b. hists_from (files_in e) (fresh_in e) 0 (rows_of b.rows)) base
      ∙ hists_both (files_in d) (files_in e) (fresh_in d) (fresh_in e) 0 d.base.set.value.rows f.base.rows whole.keys
      (λ i low. subst (λ m. hist_at (files_in e) (fresh_in e) (m, cells_in f.base.rows i) ≡ hist_at (files_in d) (fresh_in d) (m, cells_in d.base.set.value.rows i)) (let k : i ≡ 0 + i = omega arith in k) (row_same i low))
