-- One key of several stores, written as one row.
use Rattle.std.proofs.Common.{◌≡◌, ◌≤◌, ◌<◌, ◌-◌, ℕ, suc, inl, inr, Bool, true, false, cond, List, [], ◌∷◌, ◌++◌, length, Option, Some, None, refl, sym, ap, ◌∙◌, subst, arith}
use Rattle.std.specs.Prelude.{nat_lt, is_some}
use Rattle.std.specs.List.{filter}
use Rattle.std.specs.Ordering.{nat_cmp}
use Rattle.std.specs.Option.{option_map}
use Rattle.std.specs.FinMap.Entries.{find}
use Rattle.std.proofs.lemmas.Bool.{cases_lt, cases_eq, le-leb, lt-leb, eq-eqb, ne_eqb}
use Rattle.kt_base.specs.declared.cell.Cell.{Cell}
use Rattle.kt_cells.specs.Rules.{EachAfter, FollowingCell, next_id}
use Rattle.kt_cells.proofs.Cells.{next_id-push}
use Rattle.kt_history.specs.declared.change.Change.{Change}
use Rattle.kt_history.specs.declared.change.Change.TheVariants.{Ins, Upd, Del}
use Rattle.kt_history.specs.Rows.{Row, IsRow, apply, undo}
use Rattle.kt_history.specs.Stores.{Steps, Hist, Under, after_steps, row_of, step_at}
use Rattle.kt_histlaws.specs.Disks.{DiskRow, AreUndos, hist_of}
use Rattle.kt_histlaws.specs.Fitting.{AreSound, IfFits, Rises, steps_above}
use Rattle.kt_histlaws.specs.Jobs.{AreAlike}
use Rattle.kt_baseset.specs.declared.schema.ColumnShape.{ColumnShape}
use Rattle.kt_deltafile.specs.declared.file.Way.TheVariants.{Undo}
use Rattle.kt_deltafile.specs.Rules.{CellsFit, ChangeFits}
use Rattle.kt_rowfiles.specs.Flushing.{EachAbove, InOrderAt, AllUndone, after_all, undone, cut, written, written_deleted}
use Rattle.kt_rowfiles.specs.Merging.{joined_history}
use Rattle.kt_rowfiles.proofs.Flushing.{fit_is_undone, cut_alike, dropped_alike}
use Rattle.kt_rowfiles.proofs.Merging.{joined_alike, joined_cut}
use Rattle.kt_merge.specs.Laws.{EachFits, before_redos}
use Rattle.kt_merge.specs.Rows.{deleted_at, but_last, before_last, written_by, row_written}
use Rattle.kt_merge.specs.OneKey.{IsTableRow, RowPasses, AllPass, PassesFrom, UndosFitFile, key_written, hist_written, a_key_written_is_alike, a_key_written_is_sound, a_key_written_leads_back, a_key_written_fits_files}
use Rattle.kt_merge.proofs.Written.{kept, led, dropped, ends_with, each_above, came_from}

-- ---- changes that pass

module _ (columns : List ColumnShape) where
  is_row : (row : Option Row) → RowPasses columns row → IsRow row
  is_row None p = tt
  is_row (Some row) p = p.order

  pub pass_undone : (steps : Steps) (row : Option Row) → AllPass columns steps row → AllUndone steps row
  pass_undone [] row p = tt
  pass_undone (c ∷ steps) row p = (fit_is_undone c.1 row (is_row row p.0) p.1 p.2 p.3, pass_undone steps (apply c.1 row) p.4)

  pub pass_fits : (steps : Steps) (row : Option Row) → AllPass columns steps row → EachFits steps row
  pass_fits [] row p = tt
  pass_fits (c ∷ steps) row p = (p.1, pass_fits steps (apply c.1 row) p.4)

  pass_first : (steps : Steps) (row : Option Row) → AllPass columns steps row → RowPasses columns row
  pass_first [] row p = p
  pass_first (c ∷ steps) row p = p.0

  pass_front : (xs ys : Steps) (row : Option Row) → AllPass columns (xs ++ ys) row → AllPass columns xs row
  pass_front [] ys row p = pass_first ys row p
  pass_front (c ∷ xs) ys row p = (p.0, p.1, p.2, p.3, pass_front xs ys (apply c.1 row) p.4)

  pass_after : (steps : Steps) (row : Option Row) → AllPass columns steps row → RowPasses columns (after_all steps row)
  pass_after [] row p = p
  pass_after (c ∷ steps) row p = pass_after steps (apply c.1 row) p.4

-- ---- changes that rise

each_from : (j low : ℕ) (steps : Steps) → j ≤ low → Rises low steps → EachAbove j steps
each_from j low [] le r = tt
each_from j low (c ∷ steps) le r = (omega (arith, r.0), each_from j c.0 steps (omega (arith, r.0)) r.1)

in_order : (j : ℕ) (steps : Steps) → EachAbove j steps → InOrderAt j steps
in_order j [] e = tt
in_order j (c ∷ steps) e = (λ up. e.1, in_order j steps e.1)

none_yet : (low t : ℕ) (steps : Steps) (row : Option Row) → Rises low steps → t ≤ low → after_steps t steps row ≡ row
none_yet low t [] row r le = refl
none_yet low t (c ∷ steps) row r le =
    ap (λ (b : Bool). after_steps t steps (cond b (apply c.1 row) row)) (lt-leb c.0 t (omega (arith, r.0))) ∙ none_yet c.0 t steps row r.1 (omega (arith, r.0))

no_step : (low t : ℕ) (steps : Steps) → Rises low steps → t ≤ low → step_at t steps ≡ None
no_step low t [] r le = refl
no_step low t (c ∷ steps) r le = rw (ne_eqb c.0 t (λ s. omega (arith, r.0))) (no_step c.0 t steps r.1 (omega (arith, r.0)))

-- each change fits the row just before it
fits_by : (o p : Option Change) (r s : Option Row) → o ≡ p → r ≡ s → IfFits p s → IfFits o r
fits_by o p r s e f h = subst (λ (x : Option Change). IfFits x r) (sym e) (subst (IfFits p) (sym f) h)

fit_at : (columns : List ColumnShape) (low t : ℕ) (steps : Steps) (row : Option Row) → Rises low steps → AllPass columns steps row → low < t → IfFits (step_at t steps) (after_steps (t - 1) steps row)
fit_at columns low t [] row r p lt = tt
fit_at columns low t (c ∷ steps) row r p lt = elim (cases_lt c.0 t) [
  | inl less ↦
      fits_by (step_at t (c ∷ steps)) (step_at t steps) (after_steps (t - 1) (c ∷ steps) row) (after_steps (t - 1) steps (apply c.1 row))
      (ap (λ (b : Bool). cond b (Some c.1) (step_at t steps)) (ne_eqb c.0 t (λ s. omega arith)))
      (ap (λ (b : Bool). after_steps (t - 1) steps (cond b (apply c.1 row) row)) (le-leb c.0 (t - 1) (omega arith)))
      (fit_at columns c.0 t steps (apply c.1 row) r.1 p.4 less)
  | inr le ↦ elim (cases_eq c.0 t) [
    | inl same ↦
        fits_by (step_at t (c ∷ steps)) (Some c.1) (after_steps (t - 1) (c ∷ steps) row) row
        (ap (λ (b : Bool). cond b (Some c.1) (step_at t steps)) (eq-eqb c.0 t same))
        (ap (λ (b : Bool). after_steps (t - 1) steps (cond b (apply c.1 row) row)) (lt-leb c.0 (t - 1) (omega arith)) ∙ none_yet c.0 (t - 1) steps row r.1 (omega arith))
        p.1
    | inr ne ↦
        subst (λ (o : Option Change). IfFits o (after_steps (t - 1) (c ∷ steps) row))
        (sym (ap (λ (b : Bool). cond b (Some c.1) (step_at t steps)) (ne_eqb c.0 t ne) ∙ no_step c.0 t steps r.1 le))
        tt
  ]
]

-- ---- cells that are left of others

few_left : (p : ℕ → Bool) (cells : Row) → length (filter (λ (c : ℕ × Cell). p c.0) cells) ≤ length cells
few_left p [] = omega arith
few_left p (c ∷ cells) = by (p c.0) (few_left p cells)
  where
    by : (b : Bool) → length (filter (λ (c : ℕ × Cell). p c.0) cells) ≤ length cells → length (cond b (c ∷ filter (λ (c : ℕ × Cell). p c.0) cells) (filter (λ (c : ℕ × Cell). p c.0) cells)) ≤ suc (length cells)
    by true h = omega (arith, h)
    by false h = omega (arith, h)

each_left : (p : ℕ → Bool) (front left cells : Row) → next_id left ≤ next_id front → EachAfter FollowingCell front cells → EachAfter FollowingCell left (filter (λ (c : ℕ × Cell). p c.0) cells)
each_left p front left [] le each = tt
each_left p front left (c ∷ cells) le each =
    let here : FollowingCell front c = each.0 in
    let more = next_id-push front c in
    by (p c.0)
    (each_left p (front ++ c ∷ []) (left ++ c ∷ []) cells (let so = next_id-push left c in omega (arith, more, so)) each.1)
    (each_left p (front ++ c ∷ []) left cells (omega (arith, more, le, here.rising)) each.1)
  where
    by : (b : Bool) → EachAfter FollowingCell (left ++ c ∷ []) (filter (λ (c : ℕ × Cell). p c.0) cells) → EachAfter FollowingCell left (filter (λ (c : ℕ × Cell). p c.0) cells)
        → EachAfter FollowingCell left (cond b (c ∷ filter (λ (c : ℕ × Cell). p c.0) cells) (filter (λ (c : ℕ × Cell). p c.0) cells))
    by true own rest = (record { rising = omega (arith, le, each.0.rising); id = each.0.id; cell = each.0.cell }, own)
    by false own rest = rest

cells_left : (p : ℕ → Bool) (cells : Row) → CellsFit cells → CellsFit (filter (λ (c : ℕ × Cell). p c.0) cells)
cells_left p cells fit = record { count = omega (arith, few_left p cells, fit.count); each = each_left p [] [] cells (omega arith) fit.each }

undo_fits : (columns : List ColumnShape) (c : Change) (row : Option Row) → RowPasses columns row → ChangeFits Undo (undo c row)
undo_fits columns (Ins cells) row p = tt
undo_fits columns (Upd cells) None p = tt
undo_fits columns (Upd cells) (Some old) p = cells_left (λ (id : ℕ). is_some (find nat_cmp id cells)) old p.fit
undo_fits columns Del None p = tt
undo_fits columns Del (Some old) p = record { allowed = refl; cells = p.fit }

undone_fit : (columns : List ColumnShape) (j : ℕ) (steps : Steps) (row : Option Row) (made : Steps) → AllPass columns steps row → UndosFitFile made → UndosFitFile (undone j steps row made)
undone_fit columns j [] row made p fit = fit
undone_fit columns j (c ∷ steps) row made p fit = undone_fit columns j steps (apply c.1 row) (cond (nat_lt j c.0) ((c.0, undo c.1 row) ∷ made) made) p.4 (by (nat_lt j c.0))
  where
    by : (b : Bool) → UndosFitFile (cond b ((c.0, undo c.1 row) ∷ made) made)
    by true = (undo_fits columns c.1 row p.0, fit)
    by false = fit

-- ---- one key

then_alike : (j : ℕ) (xs ys zs : List Hist) → AreAlike j xs ys → AreAlike j ys zs → AreAlike j xs zs
then_alike j xs ys zs a b = record { rows = λ t le. a.rows t le ∙ b.rows t le; steps = λ t lt. a.steps t lt ∙ b.steps t lt; one_row = b.one_row; one_step = b.one_step }

-- UNDO records below a time are below a later one
later_top : (low top : ℕ) (undos : Steps) (row : Option Row) → low ≤ top → AreUndos low undos row → AreUndos top undos row
later_top low top [] row le h = tt
later_top low top (u ∷ undos) row le h = (omega (arith, h.0), h.1, h.2)

under_last : (top ts : ℕ) (xs : Steps) → Under top (xs ++ (ts, Del) ∷ []) → ts < top
under_last top ts [] u = u.0
under_last top ts (c ∷ xs) u = under_last top ts xs u.1

module _ (columns : List ColumnShape) (j top : ℕ) (whole : Hist) (rises : Rises j (steps_above j whole.steps)) (pass : AllPass columns (steps_above j whole.steps) (row_of j whole)) where
  abbrev told : Hist
  told = cut j whole

  above : EachAbove j told.steps
  above = each_from j j told.steps (omega arith) rises

  order : InOrderAt j told.steps
  order = in_order j told.steps above

  rises_still : Rises j (steps_above j told.steps)
  rises_still = subst (Rises j) (sym (each_above j told.steps above)) rises

  -- cut once more it is the same
  cut_again : cut j told ≡ told
  cut_again =
      ap (λ (first : Option Row). record { first = first; steps = steps_above j told.steps }) (none_yet j j told.steps told.first rises (omega arith))
      ∙ ap (λ (steps : Steps). record { first = told.first; steps = steps }) (each_above j told.steps above)

  written_is : (d : DiskRow) → row_written j told ≡ Some d → hist_of d ≡ told
  written_is d e = kept j told d order (pass_undone columns told.steps told.first pass) e ∙ cut_again

  alike_by : (o : Option DiskRow) → row_written j told ≡ o → AreAlike j (told ∷ []) (hist_written o ∷ [])
  alike_by None e = let gone = dropped j told order (pass_fits columns told.steps told.first pass) e in dropped_alike j told order gone.0 gone.1
  alike_by (Some d) e = subst (λ (g : Hist). AreAlike j (told ∷ []) (g ∷ [])) (sym (written_is d e ∙ sym cut_again)) (cut_alike j told order)

  told_sound : AreSound j (told ∷ [])
  told_sound = record { fit = λ t lt. (fit_at columns j t told.steps told.first rises pass lt, tt); rise = (rises_still, tt) }

  sound_by : (o : Option DiskRow) → row_written j told ≡ o → AreSound j (hist_written o ∷ [])
  sound_by None e = record { fit = λ t lt. (tt, tt); rise = (tt, tt) }
  sound_by (Some d) e = subst (λ (g : Hist). AreSound j (g ∷ [])) (sym (written_is d e)) told_sound

  module _ (d : DiskRow) (is : row_written j told ≡ Some d) where
    redos_under : (o : Option ℕ) → Under top told.steps → deleted_at told.steps ≡ o → written_by j told o ≡ Some d → before_redos top d.redos ≤ top
    redos_under None u e f =
        let from = came_from (written j told) (after_all told.steps told.first) d f in
        subst (λ (x : DiskRow). before_redos top x.redos ≤ top) from.2 (omega arith)
    redos_under (Some ts) u e f = by (nat_lt j ts) f
      where
        by : (b : Bool) → cond b (option_map (written_deleted j (before_last told) ts) (after_all (but_last told.steps) told.first)) None ≡ Some d → before_redos top d.redos ≤ top
        by true g =
            let from = came_from (written_deleted j (before_last told) ts) (after_all (but_last told.steps) told.first) d g in
            let low = under_last top ts (but_last told.steps) (subst (Under top) (ends_with told.steps ts e) u) in
            subst (λ (x : DiskRow). before_redos top x.redos ≤ top) from.2 (omega (arith, low))
        by false g = cc

    leads : j < top → Under top told.steps → AreUndos top d.undos (Some d.base)
    leads lt u = later_top (before_redos top d.redos) top d.undos (Some d.base) (redos_under (deleted_at told.steps) u refl is) (led j top told d order rises_still (pass_undone columns told.steps told.first pass) lt u is)

    -- a row that is there passes
    there : (row : Option Row) (base : Row) → row ≡ Some base → RowPasses columns row → IsTableRow columns base
    there row base e p = subst (RowPasses columns) e p

    fits_by_last : (o : Option ℕ) → deleted_at told.steps ≡ o → written_by j told o ≡ Some d → IsTableRow columns d.base × UndosFitFile d.undos
    fits_by_last None e f =
        let from = came_from (written j told) (after_all told.steps told.first) d f in
        subst (λ (x : DiskRow). IsTableRow columns x.base × UndosFitFile x.undos) from.2 (
          there (after_all told.steps told.first) from.0 from.1 (pass_after columns told.steps told.first pass),
          undone_fit columns j told.steps told.first [] pass tt,
        )
    fits_by_last (Some ts) e f = by (nat_lt j ts) f
      where
        by : (b : Bool) → cond b (option_map (written_deleted j (before_last told) ts) (after_all (but_last told.steps) told.first)) None ≡ Some d → IsTableRow columns d.base × UndosFitFile d.undos
        by true g =
            let from = came_from (written_deleted j (before_last told) ts) (after_all (but_last told.steps) told.first) d g in
            let front = pass_front columns (but_last told.steps) ((ts, Del) ∷ []) told.first (subst (λ (l : Steps). AllPass columns l told.first) (ends_with told.steps ts e) pass) in
            subst (λ (x : DiskRow). IsTableRow columns x.base × UndosFitFile x.undos) from.2 (
              there (after_all (but_last told.steps) told.first) from.0 from.1 (pass_after columns (but_last told.steps) told.first front),
              undone_fit columns j (but_last told.steps) told.first [] front tt,
            )
        by false g = cc

module _ (columns : List ColumnShape) (j top : ℕ) (hs : List Hist) (p : PassesFrom columns j top hs) where
  joined_is : joined_history j hs ≡ cut j p.whole
  joined_is = joined_cut j hs p.whole p.shows p.rise p.rises

  alike : AreAlike j hs (hist_written (key_written j hs) ∷ [])
  alike =
      subst (λ (g : Hist). AreAlike j hs (hist_written (row_written j g) ∷ [])) (sym joined_is)
      (then_alike j hs (cut j p.whole ∷ []) (hist_written (row_written j (cut j p.whole)) ∷ [])
      (subst (λ (g : Hist). AreAlike j hs (g ∷ [])) joined_is (joined_alike j hs p.whole p.shows p.rise p.rises p.order))
      (alike_by columns j top p.whole p.rises.0 p.pass (row_written j (cut j p.whole)) refl))

  sound : AreSound j (hist_written (key_written j hs) ∷ [])
  sound = subst (λ (g : Hist). AreSound j (hist_written (row_written j g) ∷ [])) (sym joined_is) (sound_by columns j top p.whole p.rises.0 p.pass (row_written j (cut j p.whole)) refl)

  written_so : (d : DiskRow) → key_written j hs ≡ Some d → row_written j (cut j p.whole) ≡ Some d
  written_so d e = sym (ap (row_written j) joined_is) ∙ e

pub key_alike : a_key_written_is_alike
key_alike = alike

pub key_sound : a_key_written_is_sound
key_sound = sound

pub key_leads : a_key_written_leads_back
key_leads columns j top hs d lt p e = leads columns j top p.whole p.rises.0 p.pass d (written_so columns j top hs p d e) lt p.under

pub key_fits : a_key_written_fits_files
key_fits columns j top hs d p e = fits_by_last columns j top p.whole p.rises.0 p.pass d (written_so columns j top hs p d e) (deleted_at (cut j p.whole).steps) refl (written_so columns j top hs p d e)
