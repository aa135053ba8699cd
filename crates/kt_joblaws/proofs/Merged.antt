-- What a compaction reads has no fault.
use Rattle.std.proofs.Common.{◌≡◌, ◌≤◌, ◌^◌, ℕ, List, [], ◌∷◌, ◌++◌, map, length, Some, None, Option, Bool, true, false, cond, refl, sym, ap, ◌∙◌, subst}
use Rattle.std.specs.Prelude.{nat_le}
use Rattle.std.specs.List.{AllByRecursion, filter}
use Rattle.kt_history.specs.declared.change.Change.{Change}
use Rattle.kt_history.specs.declared.changes.KeyChange.{KeyChange}
use Rattle.kt_history.specs.Rows.{Row}
use Rattle.kt_history.specs.Stores.{Steps, Hist, row_of, hist_in}
use Rattle.kt_histlaws.specs.Histories.{first_some, or_else}
use Rattle.kt_rowfiles.specs.Flushing.{InOrderAt}
use Rattle.kt_baseset.specs.declared.schema.ColumnShape.{ColumnShape}
use Rattle.kt_baseset.specs.Rows.{IdsRise}
use Rattle.kt_diskrowset.specs.declared.data.RowSetData.{RowSetData}
use Rattle.kt_diskrowset.specs.Data.{store_in}
use Rattle.kt_merge.specs.Changes.{hist_in_changes}
use Rattle.kt_merge.specs.Heads.{hist_upto}
use Rattle.kt_merge.specs.Merge.{hists_upto}
use Rattle.kt_merge.specs.OneKey.{PassesFrom}
use Rattle.kt_joblaws.specs.Apart.{AreApart, AllInOrder, IsOfTable, RowIs}
use Rattle.kt_joblaws.specs.Compacts.{TellsTable, a_compaction_reads_no_fault}
use Rattle.kt_joblaws.proofs.OfTable.{AreOf, row_then}
use Rattle.kt_joblaws.proofs.Read.{upto, above_some, each_some, within, apart_pass}

some_in_order : (j : ℕ) (p : ℕ × Change → Bool) (steps : Steps) → InOrderAt j steps → InOrderAt j (filter p steps)
some_in_order j p [] o = tt
some_in_order j p (c ∷ steps) o = elim (p c) as (λ b. InOrderAt j (cond b (c ∷ filter p steps) (filter p steps))) [
  | true ↦ (λ up. above_some j p steps (o.0 up), some_in_order j p steps o.1)
  | false ↦ some_in_order j p steps o.1
]

module _ (columns : List ColumnShape) (bound : ℕ) (q : List ℕ) where
  abbrev told : RowSetData → Hist
  told d = hist_upto bound (hist_in q (store_in d))

  orders : (j : ℕ) (ds : List RowSetData) → AllByRecursion (TellsTable columns) ds → AllInOrder j (map told ds)
  orders j [] t = tt
  orders j (d ∷ ds) t = (some_in_order j (λ (c : ℕ × Change). nat_le c.0 bound) (hist_in q (store_in d)).steps ((t.0 q).order j), orders j ds t.1)

  all_of : (ds : List RowSetData) → AllByRecursion (TellsTable columns) ds → AllByRecursion (λ (h : Hist). AreOf columns h.steps) (map told ds)
  all_of [] t = tt
  all_of (d ∷ ds) t = (each_some (λ (c : ℕ × Change). IsOfTable columns c.1) (λ (c : ℕ × Change). nat_le c.0 bound) (hist_in q (store_in d)).steps (t.0 q).steps, all_of ds t.1)

  all_within : (ds : List RowSetData) → AllByRecursion (λ (h : Hist). AllByRecursion (λ (c : ℕ × Change). c.0 ≤ bound) h.steps) (map told ds)
  all_within [] = tt
  all_within (d ∷ ds) = (within bound (hist_in q (store_in d)).steps, all_within ds)

  -- the row at the mark is one of the table
  first_row : (j : ℕ) (ds : List RowSetData) → IdsRise 0 columns → AllByRecursion (TellsTable columns) ds → RowIs columns (first_some (map (row_of j) (map told ds)))
  first_row j [] rise t = tt
  first_row j (d ∷ ds) rise t =
      by (row_of j (told d)) (row_then columns j (upto bound (hist_in q (store_in d)).steps) (hist_in q (store_in d)).first rise
      (each_some (λ (c : ℕ × Change). IsOfTable columns c.1) (λ (c : ℕ × Change). nat_le c.0 bound) (hist_in q (store_in d)).steps (t.0 q).steps) (t.0 q).first) (first_row j ds rise t.1)
    where
      by : (o : Option Row) → RowIs columns o → RowIs columns (first_some (map (row_of j) (map told ds))) → RowIs columns (or_else o (first_some (map (row_of j) (map told ds))))
      by None r rest = rest
      by (Some row) r rest = r

  hists_are : (ds : List RowSetData) → map (hist_upto bound) (map (λ (d : RowSetData). hist_in q (store_in d)) ds) ≡ map told ds
  hists_are [] = refl
  hists_are (d ∷ ds) = ap (λ (l : List Hist). told d ∷ l) (hists_are ds)

pub none_at_fault : a_compaction_reads_no_fault
none_at_fault span inputs none lt are tells apart = record {
  keys = subst (AllByRecursion (λ (list : List KeyChange). AllByRecursion (λ (c : KeyChange). length c.key ≤ 16384) list)) (sym none) tt;
  each = λ q.
      let hs : List Hist = map (told inputs.columns span.bound q) inputs.rowsets in
      let is : hists_upto span.bound q inputs ≡ hs =
      ap (λ (l : List (List KeyChange)). map (hist_upto span.bound) (map (hist_in_changes q) l ++ map (λ (d : RowSetData). hist_in q (store_in d)) inputs.rowsets)) none ∙ hists_are inputs.columns span.bound q inputs.rowsets in
      subst (PassesFrom inputs.columns span.mark (2 ^ 64)) (sym is) (apart_pass inputs.columns span.mark span.bound hs are lt (subst (AreApart span.mark) is (apart q))
      (orders inputs.columns span.bound q span.mark inputs.rowsets tells) (all_of inputs.columns span.bound q inputs.rowsets tells) (all_within inputs.columns span.bound q inputs.rowsets)
      (first_row inputs.columns span.bound q span.mark inputs.rowsets are.rise tells));
}
