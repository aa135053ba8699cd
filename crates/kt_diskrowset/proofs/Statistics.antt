-- What a maintenance policy is told of a disk rowset.
use Rattle.std.proofs.Common.{◌≡◌, ◌+◌, ◌^◌, ℕ, List, [], ◌∷◌, ◌++◌, length, min, refl, sym, ap, ◌∙◌, arith}
use Rattle.std.specs.List.{sum_by}
use Rattle.std.proofs.lemmas.List.Sums.{sum_by-cons, sum_by-append}
use Rattle.kt_deltafile.specs.File.{FileView}
use Rattle.kt_dms.specs.declared.store.DeltaMem.{DeltaMem}
use Rattle.kt_dms.specs.Stores.{deltas_of, steps_for}
use Rattle.kt_history.specs.declared.changes.Delta.{Delta}
use Rattle.kt_pool.specs.Contents.{Contents}
use Rattle.kt_diskrowset.specs.declared.files.FileHeld.{FileHeld}
use Rattle.kt_diskrowset.specs.Files.{as_files, as_file}
use Rattle.kt_diskrowset.specs.Mems.{steps_in_mems}
use Rattle.kt_diskrowset.specs.Stats.{leaving_row, leaving_row_in, changes_had}
use Rattle.kt_diskrowset.proofs.Wholes.{none_here}

pub in_files : (files : List FileHeld) → sum_by (λ (f : FileHeld). leaving_row f.deltas.value.list) files ≡ leaving_row_in (as_files files)
in_files [] = refl
in_files (f ∷ files) =
    sum_by-cons (λ (x : FileHeld). leaving_row x.deltas.value.list) f files
    ∙ ap (λ n. leaving_row f.deltas.value.list + n) (in_files files)
    ∙ sym (sum_by-cons (λ (x : ℕ × ℕ × FileView). leaving_row x.2.list) (as_file f) (as_files files))

module _ (pool : Contents) where
  pub had_more : (front : List DeltaMem) (m : DeltaMem) → changes_had pool (front ++ m ∷ []) ≡ changes_had pool front + length (deltas_of m pool)
  had_more front m =
      let both = sum_by-append (λ (x : DeltaMem). length (deltas_of x pool)) front (m ∷ []) in
      let last = sum_by-cons (λ (x : DeltaMem). length (deltas_of x pool)) m [] in
      omega (arith, both, last)

  -- and up to what is many
  pub capped_more : (front : List DeltaMem) (m : DeltaMem) (had one : ℕ) → had ≡ min (changes_had pool front) (2 ^ 31) → one ≡ length (deltas_of m pool) → min (had + one) (2 ^ 31) ≡ min (changes_had pool (front ++ m ∷ [])) (2 ^ 31)
  capped_more front m had one e f = let both = had_more front m in omega (arith, both, e, f)

  -- where they have none, no row has one
  pub none_had : (mems : List DeltaMem) → changes_had pool mems ≡ 0 → (n : ℕ) → steps_in_mems pool n mems ≡ []
  none_had [] e n = refl
  none_had (m ∷ mems) e n =
      let both = sum_by-cons (λ (x : DeltaMem). length (deltas_of x pool)) m mems in
      let here : deltas_of m pool ≡ [] = none_here (deltas_of m pool) (omega (arith, both, e)) in
      let rest = none_had mems (omega (arith, both, e)) n in
      ap (λ (ds : List Delta). steps_for n ds ++ steps_in_mems pool n mems) here ∙ rest

pub none_capped : (n : ℕ) → min n (2 ^ 31) ≡ 0 → n ≡ 0
none_capped n e = omega (arith, e)
