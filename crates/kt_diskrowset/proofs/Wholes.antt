-- All that a disk rowset has, as a job reads it, and files that come in its place.
use Rattle.std.proofs.Common.{◌≡◌, ◌≤◌, ◌+◌, ℕ, suc, Bool, true, false, cond, List, [], ◌∷◌, ◌++◌, length, append_assoc, refl, sym, ap, ◌∙◌, arith}
use Rattle.std.specs.Prelude.{◌==◌}
use Rattle.std.specs.List.{filter}
use Rattle.std.proofs.lemmas.List.{append-nil}
use Rattle.kt_history.specs.declared.changes.Delta.{Delta}
use Rattle.kt_pool.specs.Contents.{Contents}
use Rattle.kt_rowfiles.specs.Files.{records_for}
use Rattle.kt_dms.specs.declared.store.DeltaMem.{DeltaMem}
use Rattle.kt_dms.specs.Stores.{deltas_of, steps_for}
use Rattle.kt_diskrowset.specs.declared.data.RowSetData.{RowSetData}
use Rattle.kt_diskrowset.specs.declared.rowset.DiskRowSet.{DiskRowSet}
use Rattle.kt_diskrowset.specs.Data.{files_in, fresh_in, store_in}
use Rattle.kt_diskrowset.specs.Mems.{steps_in_mems}
use Rattle.kt_diskrowset.specs.Rows.{store_with}
use Rattle.kt_diskrowset.specs.Rowset.{files_of, fresh_of, store_of}
use Rattle.kt_diskrowset.proofs.Beside.{steps-append}
use Rattle.kt_diskrowset.proofs.Copying.{records-append}
use Rattle.kt_diskrowset.proofs.Histories.{hists_same}

-- ---- a filter that leaves nothing out

filter_few : {X : Type 0} (p : X → Bool) (xs : List X) → length (filter p xs) ≤ length xs
filter_few p [] = omega arith
filter_few p (x ∷ xs) = by (p x) (filter_few p xs)
  where
    by : (b : Bool) → length (filter p xs) ≤ length xs → length (cond b (x ∷ filter p xs) (filter p xs)) ≤ suc (length xs)
    by true h = omega (arith, h)
    by false h = omega (arith, h)

pub filter_whole : {X : Type 0} (p : X → Bool) (xs : List X) → length (filter p xs) ≡ length xs → filter p xs ≡ xs
filter_whole p [] e = refl
filter_whole p (x ∷ xs) e = by (p x) (λ f. filter_whole p xs f) e
  where
    by : (b : Bool) → (length (filter p xs) ≡ length xs → filter p xs ≡ xs) → length (cond b (x ∷ filter p xs) (filter p xs)) ≡ suc (length xs) → cond b (x ∷ filter p xs) (filter p xs) ≡ x ∷ xs
    by true more f = ap (λ ys. x ∷ ys) (more (omega (arith, f)))
    by false more f = absurd (let few = filter_few p xs in omega (arith, f, few))

-- ---- all changes in memory

records_are : (n : ℕ) (deltas : List Delta) → records_for n deltas ≡ steps_for n deltas
records_are n [] = refl
records_are n (d ∷ deltas) = by (d.ordinal == n) (records_are n deltas)
  where
    by : (b : Bool) → records_for n deltas ≡ steps_for n deltas → cond b ((d.ts, d.change) ∷ records_for n deltas) (records_for n deltas) ≡ cond b ((d.ts, d.change) ∷ steps_for n deltas) (steps_for n deltas)
    by true h = ap (λ steps. (d.ts, d.change) ∷ steps) h
    by false h = h

module _ (pool : Contents) (n : ℕ) where
  pub one_whole : (m : DeltaMem) (old new : List Delta) → new ≡ old ++ deltas_of m pool → records_for n new ≡ records_for n old ++ steps_in_mems pool n (m ∷ [])
  one_whole m old new e =
      ap (records_for n) e ∙ records-append n old (deltas_of m pool)
      ∙ ap (λ steps. records_for n old ++ steps) (records_are n (deltas_of m pool) ∙ sym (append-nil (steps_for n (deltas_of m pool))))

  pub next_whole : (front : List DeltaMem) (m : DeltaMem) (old now new : List Delta) → records_for n now ≡ records_for n old ++ steps_in_mems pool n front → records_for n new ≡ records_for n now ++ steps_in_mems pool n (m ∷ [])
      → records_for n new ≡ records_for n old ++ steps_in_mems pool n (front ++ m ∷ [])
  next_whole front m old now new so e =
      e ∙ ap (λ steps. steps ++ steps_in_mems pool n (m ∷ [])) so ∙ append_assoc (records_for n old) (steps_in_mems pool n front) (steps_in_mems pool n (m ∷ []))
      ∙ ap (λ steps. records_for n old ++ steps) (sym (steps-append pool n front (m ∷ [])))

  -- a store without a change adds none
  pub none_more : (front : List DeltaMem) (m : DeltaMem) → steps_in_mems pool n front ≡ [] → deltas_of m pool ≡ [] → steps_in_mems pool n (front ++ m ∷ []) ≡ []
  none_more front m so none = steps-append pool n front (m ∷ []) ∙ ap (λ steps. steps ++ steps_in_mems pool n (m ∷ [])) so ∙ ap (λ (ds : List Delta). steps_for n ds ++ []) none

-- ---- the store that is told

pub told_whole : (s : DiskRowSet) (pool : Contents) (d : RowSetData) → files_in d ≡ files_of s → ((n : ℕ) → fresh_in d n ≡ fresh_of s pool n) → store_in d ≡ store_of s pool
told_whole s pool d files fresh = ap (λ f. store_with f (fresh_in d)) files ∙ hists_same (files_of s) (fresh_of s pool) (fresh_in d) 0 (files_of s).base (λ m low. fresh m)

pub none_here : {X : Type 0} (xs : List X) → length xs ≡ 0 → xs ≡ []
none_here [] e = refl
none_here (x ∷ xs) e = absurd (omega (arith, e))
