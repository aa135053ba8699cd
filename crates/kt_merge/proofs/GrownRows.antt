-- A disk rowset that takes rows, with one row more.
use Rattle.std.proofs.Common.{◌≡◌, ◌≤◌, ◌<◌, ◌+◌, ◌-◌, ◌^◌, ℕ, min, List, [], ◌∷◌, ◌++◌, length, length-append, Option, Some, None, sym, ap, ◌∙◌, subst, arith}
use Rattle.std.specs.List.{All, AllByRecursion, sum_by}
use Rattle.std.specs.declared.cmp.Ordering.TheVariants.{Less}
use Rattle.std.proofs.lemmas.List.{map-append}
use Rattle.std.proofs.lemmas.List.Elements.{All-push}
use Rattle.std.proofs.lemmas.List.Sums.{sum_by_push}
use Rattle.kt_history.specs.declared.changes.Delta.{Delta}
use Rattle.kt_history.specs.Rows.{key_cmp}
use Rattle.kt_history.specs.Views.{AreRising}
use Rattle.kt_baseset.specs.declared.schema.ColumnShape.{ColumnShape}
use Rattle.kt_baseset.specs.declared.rows.KeyedRow.{KeyedRow}
use Rattle.kt_baseset.specs.Rows.{RowFits, AllFit, keys_in}
use Rattle.kt_deltafile.specs.declared.file.Way.TheVariants.{Redo, Undo}
use Rattle.kt_deltafile.specs.Rules.{IsFile}
use Rattle.kt_merge.specs.Fitting.{FitsFiles}
use Rattle.kt_merge.specs.Rows.{disk_row_of}
use Rattle.kt_merge.specs.Told.{insert_len, deletes_of, told_from, told_so_far, AreOfRows, Grown}
use Rattle.kt_merge.specs.declared.output.Growing.{Growing}
use Rattle.kt_merge.specs.declared.row.RowWritten.{RowWritten}
use Rattle.kt_merge.proofs.Cuts.{all_more}
use Rattle.kt_merge.proofs.FilesMore.{rising_more, undo_more}
use Rattle.kt_merge.proofs.ToldRows.{all_of, deletes_are_own, rows_more, told_more}

deletes_few : (n : ℕ) (deleted : Option ℕ) → length (deletes_of n deleted) ≤ 1
deletes_few n None = omega arith
deletes_few n (Some ts) = omega arith

module _ (columns : List ColumnShape) (old new : Growing) (key : List ℕ) (row : RowWritten) (g : Grown columns old) (own : All (λ (d : Delta). d.ordinal ≡ length old.rows.items) row.undos.items)
    (rows : new.rows.items ≡ old.rows.items ++ (record { key = key; cells = row.base }) ∷ []) (undos : new.undos.items ≡ old.undos.items ++ row.undos.items)
    (redos : new.redos.items ≡ old.redos.items ++ deletes_of (length old.rows.items) row.deleted) where
  pub grown_more : FitsFiles columns key row → AllByRecursion (λ (k : List ℕ). key_cmp k key ≡ Less) (keys_in old.rows.items) → length old.undos.items + length row.undos.items < 2 ^ 32 → length old.rows.items < 2 ^ 32 - 1
      → IsFile Redo new.redos.items → new.bytes ≡ min (old.bytes + min (insert_len (record { key = key; cells = row.base })) 33554432) 33554432 → Grown columns new
  grown_more fits above room few file bytes =
      let r : KeyedRow = record { key = key; cells = row.base } in
      let m = length old.rows.items in
      let keys : keys_in new.rows.items ≡ keys_in old.rows.items ++ key ∷ [] = ap keys_in rows ∙ map-append (λ (x : KeyedRow). x.key) old.rows.items (r ∷ []) in
      let count : length new.rows.items ≡ m + 1 = ap length rows ∙ length-append old.rows.items (r ∷ []) in
      let sums = ap (sum_by insert_len) rows ∙ sum_by_push insert_len old.rows.items r in
      let before = g.bytes in
      let dels = deletes_few m row.deleted in
      let long = ap length redos ∙ length-append old.redos.items (deletes_of m row.deleted) in
      let ghosts = g.ghosts in
      record {
        cells = subst (AllFit columns) (sym rows) (All-push (λ (x : KeyedRow). RowFits columns x.cells) old.rows.items r g.cells fits.cells);
        rise = subst AreRising (sym keys) (rising_more (keys_in old.rows.items) key g.rise above);
        short = subst (AllByRecursion (λ (k : List ℕ). length k ≤ 16384)) (sym keys) (all_more (λ (k : List ℕ). length k ≤ 16384) (keys_in old.rows.items) key g.short fits.short);
        bytes = omega (arith, bytes, before, sums);
        undos = subst (IsFile Undo) (sym undos) (undo_more m old.undos.items row.undos.items g.undos g.undone (omega (arith, few)) (all_of m row.undos.items own) fits.undos room);
        redos = file;
        undone = subst (λ (n : ℕ). AreOfRows n new.undos.items) (sym count) (subst (AreOfRows (m + 1)) (sym undos) (rows_more m old.undos.items row.undos.items g.undone (all_of m row.undos.items own)));
        redone = subst (λ (n : ℕ). AreOfRows n new.redos.items) (sym count) (subst (AreOfRows (m + 1)) (sym redos) (rows_more m old.redos.items (deletes_of m row.deleted) g.redone (deletes_are_own m row.deleted)));
        ghosts = omega (arith, count, dels, long, ghosts);
      }

  pub told_grown : told_so_far new ≡ told_so_far old ++ (key, disk_row_of row) ∷ []
  told_grown =
      let r : KeyedRow = record { key = key; cells = row.base } in
      ap (λ (l : List KeyedRow). told_from 0 l new.undos.items new.redos.items) rows
      ∙ ap (λ (l : List Delta). told_from 0 (old.rows.items ++ r ∷ []) l new.redos.items) undos
      ∙ ap (λ (l : List Delta). told_from 0 (old.rows.items ++ r ∷ []) (old.undos.items ++ row.undos.items) l) redos
      ∙ told_more old.rows.items r old.undos.items old.redos.items row.undos.items row.deleted g.undone g.redone (all_of (length old.rows.items) row.undos.items own)
