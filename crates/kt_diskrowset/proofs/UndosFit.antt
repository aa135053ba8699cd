-- UNDO records that fit lead back.
use Rattle.std.proofs.Common.{◌≡◌, ◌≤◌, ◌<◌, ◌+◌, ◌^◌, ℕ, zero, suc, length, drop, Bool, true, false, cond, ◌&&◌, List, [], ◌∷◌, Some, refl, sym, ap, subst, ◌∙◌, arith}
use Rattle.std.proofs.lemmas.List.{drop_all, length-map}
use Rattle.kt_baseset.specs.declared.rows.KeyedRow.{KeyedRow}
use Rattle.kt_baseset.specs.Tables.{key_at, cells_in}
use Rattle.kt_history.specs.Rows.{Rows}
use Rattle.kt_histlaws.specs.Disks.{AreUndos}
use Rattle.kt_rowfiles.specs.Files.{DiskRowset, records_in, falling}
use Rattle.kt_rowfiles.specs.Fitting.{steps_fit, rows_fit, undos_fit}
use Rattle.kt_rowfiles.proofs.Fitting.{fit_by_row}
use Rattle.kt_rowfiles.proofs.Ordered.{lead_back}
use Rattle.kt_diskrowset.specs.Rows.{rows_of, UndosLeadBack}

pub fit_lead_back : (d : DiskRowset) → undos_fit d ≡ true → UndosLeadBack d
fit_lead_back d h q found at = lead_back (2 ^ 64) (falling (records_in found.0 d.undos)) (Some found.1) (fit_by_row d q found h at)

-- without UNDO records there is none that does not
pub none_lead_back : (d : DiskRowset) → d.undos ≡ [] → UndosLeadBack d
none_lead_back d none q found at = subst (λ undos. AreUndos (2 ^ 64) (falling (records_in found.0 undos)) (Some found.1)) (sym none) tt

pub readable_leads : (d : DiskRowset) (b : Bool) → undos_fit d ≡ b → UndosLeadBack (cond b d (record d { undos = [] }))
readable_leads d true h = fit_lead_back d h
readable_leads d false h = none_lead_back (record d { undos = [] }) refl

-- ---- one row more of those that are gone over

-- the rows from a place on
rows_left : (rows : List KeyedRow) (i : ℕ) → i < length rows → drop i (rows_of rows) ≡ (key_at rows i, cells_in rows i) ∷ drop (suc i) (rows_of rows)
rows_left [] i low = absurd (omega arith)
rows_left (r ∷ rows) zero low = refl
rows_left (r ∷ rows) (suc i) low = rows_left rows i (omega arith)

module _ (d : DiskRowset) (rows : List KeyedRow) (i : ℕ) (low : i < length rows) where
  left_is : rows_fit d i (drop i (rows_of rows)) ≡ (steps_fit (2 ^ 64) (falling (records_in i d.undos)) (Some (cells_in rows i)) && rows_fit d (suc i) (drop (suc i) (rows_of rows)))
  left_is = ap (rows_fit d i) (rows_left rows i low)

  next_is : rows_fit d (i + 1) (drop (i + 1) (rows_of rows)) ≡ rows_fit d (suc i) (drop (suc i) (rows_of rows))
  next_is = let e : i + 1 ≡ suc i = omega arith in ap (λ (n : ℕ). rows_fit d n (drop n (rows_of rows))) e

  pub fits_next : (whole : Bool) → steps_fit (2 ^ 64) (falling (records_in i d.undos)) (Some (cells_in rows i)) ≡ true → rows_fit d i (drop i (rows_of rows)) ≡ whole
      → rows_fit d (i + 1) (drop (i + 1) (rows_of rows)) ≡ whole
  fits_next whole here so = next_is ∙ sym (left_is ∙ ap (λ b. b && rows_fit d (suc i) (drop (suc i) (rows_of rows))) here) ∙ so

  pub fits_never : (whole : Bool) → steps_fit (2 ^ 64) (falling (records_in i d.undos)) (Some (cells_in rows i)) ≡ false → rows_fit d i (drop i (rows_of rows)) ≡ whole → false ≡ whole
  fits_never whole here so = sym (left_is ∙ ap (λ b. b && rows_fit d (suc i) (drop (suc i) (rows_of rows))) here) ∙ so

-- no row is left
pub fits_over : (d : DiskRowset) (rows : List KeyedRow) (i : ℕ) (whole : Bool) → length rows ≤ i → rows_fit d i (drop i (rows_of rows)) ≡ whole → true ≡ whole
fits_over d rows i whole past so = sym (ap (rows_fit d i) (drop_all i (rows_of rows) (subst (λ n. n ≤ i) (sym (length-map rows (λ (r : KeyedRow). (r.key, r.cells)))) past))) ∙ so
