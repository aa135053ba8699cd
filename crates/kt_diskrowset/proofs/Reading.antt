-- What a scan reads of a disk rowset tells its rows up to a time.
use Rattle.std.proofs.Common.{◌≡◌, ◌≤◌, ℕ, true, false, cond, List, [], ◌∷◌, ◌++◌, append_assoc, Option, Some, None, refl, sym, ap, ◌∙◌, arith}
use Rattle.std.specs.Prelude.{nat_le, if◌then◌else◌}
use Rattle.std.proofs.lemmas.List.{append-nil}
use Rattle.std.proofs.lemmas.List.Elements.{filter-append}
use Rattle.std.proofs.lemmas.Bool.Decides.{nat_tests}
use Rattle.kt_history.specs.declared.change.Change.{Change}
use Rattle.kt_history.specs.declared.changes.Delta.{Delta}
use Rattle.kt_history.specs.Rows.{Row, apply}
use Rattle.kt_history.specs.Stores.{Steps, after_steps, row_of}
use Rattle.kt_histlaws.proofs.OneKey.{after_steps-append}
use Rattle.kt_pool.specs.Contents.{Contents}
use Rattle.kt_rowfiles.specs.Files.{records_for, row_under, row_with}
use Rattle.kt_views.specs.Told.{TellsUpTo}
use Rattle.kt_dms.specs.declared.store.DeltaMem.{DeltaMem}
use Rattle.kt_dms.specs.Stores.{deltas_of, deltas_upto, steps_for}
use Rattle.kt_diskrowset.specs.declared.base.BaseHeld.{BaseHeld}
use Rattle.kt_diskrowset.specs.declared.files.FileHeld.{FileHeld}
use Rattle.kt_diskrowset.specs.declared.data.RowSetData.{RowSetData}
use Rattle.kt_diskrowset.specs.declared.rowset.DiskRowSet.{DiskRowSet}
use Rattle.kt_diskrowset.specs.Data.{files_in, fresh_in}
use Rattle.kt_diskrowset.specs.Files.{as_files}
use Rattle.kt_diskrowset.specs.Jobs.{steps_upto}
use Rattle.kt_diskrowset.specs.Mems.{steps_in_mems}
use Rattle.kt_diskrowset.specs.Page.{row_told}
use Rattle.kt_diskrowset.specs.Rows.{rows_of, hist_found, hist_under}
use Rattle.kt_diskrowset.specs.Rowset.{files_with, files_of, fresh_of, store_of}
use Rattle.kt_diskrowset.proofs.Beside.{steps-append}
use Rattle.kt_diskrowset.proofs.Copying.{records-append, records_upto, lists_same}
use Rattle.kt_diskrowset.proofs.Histories.{hist_is}

-- ---- the changes in memory up to a time

-- the changes of one row in some stores up to a time
abbrev pub upto_in : Contents → ℕ → ℕ → List DeltaMem → Steps
upto_in pool n upto mems = steps_upto upto (steps_in_mems pool n mems)

module _ (pool : Contents) (upto n : ℕ) where
  upto-append : (xs ys : List DeltaMem) → upto_in pool n upto (xs ++ ys) ≡ upto_in pool n upto xs ++ upto_in pool n upto ys
  upto-append xs ys = ap (steps_upto upto) (steps-append pool n xs ys) ∙ filter-append (λ (c : ℕ × Change). nat_le c.0 upto) (steps_in_mems pool n xs) (steps_in_mems pool n ys)

  pub one_read : (m : DeltaMem) (old new : List Delta) → new ≡ old ++ deltas_upto upto (deltas_of m pool) → records_for n new ≡ records_for n old ++ upto_in pool n upto (m ∷ [])
  one_read m old new e =
      ap (records_for n) e ∙ records-append n old (deltas_upto upto (deltas_of m pool)) ∙ ap (λ steps. records_for n old ++ steps) (records_upto n upto (deltas_of m pool))
      ∙ ap (λ steps. records_for n old ++ steps_upto upto steps) (sym (append-nil (steps_for n (deltas_of m pool))))

  pub next_read : (front : List DeltaMem) (m : DeltaMem) (old now new : List Delta) → records_for n now ≡ records_for n old ++ upto_in pool n upto front → records_for n new ≡ records_for n now ++ upto_in pool n upto (m ∷ [])
      → records_for n new ≡ records_for n old ++ upto_in pool n upto (front ++ m ∷ [])
  next_read front m old now new so e =
      e ∙ ap (λ steps. steps ++ upto_in pool n upto (m ∷ [])) so ∙ append_assoc (records_for n old) (upto_in pool n upto front) (upto_in pool n upto (m ∷ []))
      ∙ ap (λ steps. records_for n old ++ steps) (sym (upto-append front (m ∷ [])))

-- ---- the rows up to that time

-- a change that is later shows nothing
cut_shows : (u upto : ℕ) (steps : Steps) (row : Option Row) → u ≤ upto → after_steps u (steps_upto upto steps) row ≡ after_steps u steps row
cut_shows u upto [] row le = refl
cut_shows u upto (c ∷ steps) row le = elim (nat_le c.0 upto) as (λ b. nat_le c.0 upto ≡ b → after_steps u (cond b (c ∷ steps_upto upto steps) (steps_upto upto steps)) row ≡ after_steps u (c ∷ steps) row) [
  | true ↦ λ e. cut_shows u upto steps (if nat_le c.0 u then apply c.1 row else row) le
  | false ↦ λ e. cut_shows u upto steps row le ∙ ap (λ b. after_steps u steps (cond b (apply c.1 row) row)) (sym (later e))
] refl
  where
    later : nat_le c.0 upto ≡ false → nat_le c.0 u ≡ false
    later e = grind (arith, nat_tests)

pub same_files : (number : ℕ) (base copy : BaseHeld) (undo redo undos redos : List FileHeld) → copy.set.value ≡ base.set.value → as_files undos ≡ as_files undo → as_files redos ≡ as_files redo
    → files_with number copy undos redos ≡ files_with number base undo redo
same_files number base copy undo redo undos redos same u r =
    let us = lists_same undos undo u in
    let rs = lists_same redos redo r in
    λ k. record { rowset = number; last_dms = 0; base = rows_of (same k).rows; undos = us k; redos = rs k }

module _ (s : DiskRowSet) (pool : Contents) (upto : ℕ) (d : RowSetData) (files : files_in d ≡ files_of s) (fresh : (n : ℕ) → fresh_in d n ≡ steps_upto upto (fresh_of s pool n)) where
  found_same : (u : ℕ) (o : Option (ℕ × Row)) → u ≤ upto → row_of u (hist_found (files_of s) (fresh_in d) o) ≡ row_of u (hist_found (files_of s) (fresh_of s pool) o)
  found_same u None le = refl
  found_same u (Some found) le =
      let h = row_with (files_of s) (Some found) in
      after_steps-append u h.steps (fresh_in d found.0) h.first
      ∙ ap (λ steps. after_steps u steps (after_steps u h.steps h.first)) (fresh found.0)
      ∙ cut_shows u upto (fresh_of s pool found.0) (after_steps u h.steps h.first) le
      ∙ sym (after_steps-append u h.steps (fresh_of s pool found.0) h.first)

  pub tells_upto : TellsUpTo row_told upto (store_of s pool) d
  tells_upto key u le =
      ap (row_of u) (hist_is (files_in d) (fresh_in d) key ∙ ap (λ f. hist_under key f (fresh_in d)) files)
      ∙ found_same u (row_under key 0 (files_of s).base) le
      ∙ sym (ap (row_of u) (hist_is (files_of s) (fresh_of s pool) key))
