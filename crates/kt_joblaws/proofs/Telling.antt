-- A disk rowset of the columns of a table tells the table.
use Rattle.std.proofs.Common.{ℕ, suc, Bool, true, false, cond, List, [], ◌∷◌, ◌++◌, Some, None, Option, unwrap_or, inl, arith}
use Rattle.std.specs.Prelude.{◌==◌, is_some, nat_lt}
use Rattle.std.specs.List.{AllByRecursion, filter}
use Rattle.std.specs.Ordering.{eq_by_cmp, nat_cmp}
use Rattle.std.specs.FinMap.Entries.{find}
use Rattle.kt_base.specs.declared.cell.Cell.{Cell}
use Rattle.kt_history.specs.declared.change.Change.{Change}
use Rattle.kt_history.specs.declared.change.Change.TheVariants.{Ins, Upd, Del}
use Rattle.kt_history.specs.declared.changes.Delta.{Delta}
use Rattle.kt_history.specs.Rows.{Row, key_cmp, apply, undo}
use Rattle.kt_history.specs.Stores.{Steps, Hist, never, hist_in}
use Rattle.kt_histlaws.specs.Disks.{before_all, led_over}
use Rattle.kt_rowfiles.specs.Files.{records_for, records_in, put_rising, put_falling, rising, falling}
use Rattle.kt_baseset.specs.declared.rows.KeyedRow.{KeyedRow}
use Rattle.kt_baseset.specs.declared.schema.ColumnShape.{ColumnShape}
use Rattle.kt_baseset.specs.Rows.{IdsRise, RowFits, AllFit}
use Rattle.kt_diskrowset.specs.declared.data.RowSetData.{RowSetData}
use Rattle.kt_diskrowset.specs.Data.{files_in, fresh_in}
use Rattle.kt_diskrowset.specs.Files.{lists_of}
use Rattle.kt_diskrowset.specs.Rows.{rows_of, hist_at, hists_from}
use Rattle.kt_joblaws.specs.Apart.{ArePart, IsOfTable, RowIs}
use Rattle.kt_joblaws.specs.Compacts.{AreRecordsOf, IsOfColumns, a_rowset_of_columns_tells}
use Rattle.kt_joblaws.proofs.OfTable.{AreOf, row_after, wider}

-- ---- records of a row

module _ (columns : List ColumnShape) where
  of_join : (xs ys : Steps) → AreOf columns xs → AreOf columns ys → AreOf columns (xs ++ ys)
  of_join [] ys a b = b
  of_join (x ∷ xs) ys a b = (a.0, of_join xs ys a.1 b)

  for_row : (n : ℕ) (file : List Delta) → AreRecordsOf columns file → AreOf columns (records_for n file)
  for_row n [] h = tt
  for_row n (d ∷ file) h = by (d.ordinal == n) (for_row n file h.1)
    where
      by : (b : Bool) → AreOf columns (records_for n file) → AreOf columns (cond b ((d.ts, d.change) ∷ records_for n file) (records_for n file))
      by true rest = (h.0, rest)
      by false rest = rest

  in_row : (n : ℕ) (files : List (List Delta)) → AllByRecursion (AreRecordsOf columns) files → AreOf columns (records_in n files)
  in_row n [] h = tt
  in_row n (file ∷ files) h = of_join (records_for n file) (records_in n files) (for_row n file h.0) (in_row n files h.1)

  put_up : (c : ℕ × Change) (steps : Steps) → IsOfTable columns c.1 → AreOf columns steps → AreOf columns (put_rising c steps)
  put_up c [] own h = (own, tt)
  put_up c (s ∷ steps) own h = by (nat_lt s.0 c.0) (put_up c steps own h.1)
    where
      by : (b : Bool) → AreOf columns (put_rising c steps) → AreOf columns (cond b (s ∷ put_rising c steps) (c ∷ s ∷ steps))
      by true rest = (h.0, rest)
      by false rest = (own, h)

  up_of : (steps : Steps) → AreOf columns steps → AreOf columns (rising steps)
  up_of [] h = tt
  up_of (c ∷ steps) h = put_up c (rising steps) h.0 (up_of steps h.1)

  put_down : (c : ℕ × Change) (steps : Steps) → IsOfTable columns c.1 → AreOf columns steps → AreOf columns (put_falling c steps)
  put_down c [] own h = (own, tt)
  put_down c (s ∷ steps) own h = by (nat_lt c.0 s.0) (put_down c steps own h.1)
    where
      by : (b : Bool) → AreOf columns (put_falling c steps) → AreOf columns (cond b (s ∷ put_falling c steps) (c ∷ s ∷ steps))
      by true rest = (h.0, rest)
      by false rest = (own, h)

  down_of : (steps : Steps) → AreOf columns steps → AreOf columns (falling steps)
  down_of [] h = tt
  down_of (c ∷ steps) h = put_down c (falling steps) h.0 (down_of steps h.1)

-- ---- what UNDO records lead back over

part_some : (columns : List ColumnShape) (p : ℕ × Cell → Bool) (row : Row) → RowFits columns row → ArePart columns (filter p row)
part_some [] p [] f = tt
part_some [] p (x ∷ row) f = absurd f
part_some (c ∷ columns) p [] f = absurd f
part_some (c ∷ columns) p (x ∷ row) f = by (p x) (part_some columns p row f.2)
  where
    by : (b : Bool) → ArePart columns (filter p row) → ArePart (c ∷ columns) (cond b (x ∷ filter p row) (filter p row))
    by true rest = inl ((f.0, f.1), rest)
    by false rest = wider c columns (filter p row) rest

undo_of : (columns : List ColumnShape) (c : Change) (row : Option Row) → RowIs columns row → IsOfTable columns (undo c row)
undo_of columns (Ins cells) row h = tt
undo_of columns (Upd cells) (Some old) h = part_some columns (λ x. is_some (find nat_cmp x.0 cells)) old h
undo_of columns (Upd cells) None h = tt
undo_of columns Del (Some old) h = h
undo_of columns Del None h = tt

led_of : (columns : List ColumnShape) (undos : Steps) (row : Option Row) → IdsRise 0 columns → AreOf columns undos → RowIs columns row → RowIs columns (before_all undos row) × AreOf columns (led_over undos row)
led_of columns [] row rise of r = (r, tt)
led_of columns (u ∷ undos) row rise of r =
    let rest = led_of columns undos (apply u.1 row) rise of.1 (row_after columns u.1 row rise of.0 r) in
    (rest.0, of_join columns (led_over undos (apply u.1 row)) ((u.0, undo u.1 row) ∷ []) rest.1 (undo_of columns u.1 row r, tt))

-- ---- each row

module _ (columns : List ColumnShape) (d : RowSetData) (rise : IdsRise 0 columns) (is : IsOfColumns columns d) where
  abbrev Tells : Hist → Type 0
  Tells h = RowIs columns h.first × AreOf columns h.steps

  row_tells : (n : ℕ) (row : Row) → RowFits columns row → Tells (hist_at (files_in d) (fresh_in d) (n, row))
  row_tells n row fit =
      let undos : Steps = falling (records_in n (lists_of d.undo)) in
      let redos : Steps = rising (records_in n (lists_of d.redo)) in
      let back = led_of columns undos (Some row) rise (down_of columns (records_in n (lists_of d.undo)) (in_row columns n (lists_of d.undo) is.undos)) fit in
      let files = of_join columns (led_over undos (Some row)) redos back.1 (up_of columns (records_in n (lists_of d.redo)) (in_row columns n (lists_of d.redo) is.redos)) in
      (back.0, of_join columns (led_over undos (Some row) ++ redos) (records_for n d.fresh) files (for_row columns n d.fresh is.fresh))

  each_tells : (q : List ℕ) (n : ℕ) (rows : List KeyedRow) → AllFit columns rows → Tells (hist_in q (hists_from (files_in d) (fresh_in d) n (rows_of rows)))
  each_tells q n [] fit = (tt, tt)
  each_tells q n (r ∷ rows) fit = by (eq_by_cmp key_cmp q r.key) (row_tells n r.cells (fit 0 r (omega arith))) (each_tells q (suc n) rows (λ k x lt. fit (suc k) x (omega arith)))
    where
      by : (b : Bool) → Tells (hist_at (files_in d) (fresh_in d) (n, r.cells)) → Tells (hist_in q (hists_from (files_in d) (fresh_in d) (suc n) (rows_of rows)))
          → Tells (unwrap_or (cond b (Some (hist_at (files_in d) (fresh_in d) (n, r.cells))) (find key_cmp q (hists_from (files_in d) (fresh_in d) (suc n) (rows_of rows)))) never)
      by true own rest = own
      by false own rest = rest

pub rowset_tells : a_rowset_of_columns_tells
rowset_tells columns d rise is order q =
    let t = each_tells columns d rise is q 0 d.base.set.value.rows is.rows in
    record { first = t.0; steps = t.1; order = order q }
