-- The row that a flush writes.
use Rattle.std.proofs.Common.{◌≡◌, ◌≤◌, ◌<◌, ℕ, [], ◌∷◌, ◌++◌, Some, None, Option, refl, sym, ap, ◌∙◌, arith, cond, true, false, Bool, ◌&&◌, T, append_assoc, subst}
use Rattle.std.specs.Prelude.{nat_lt, nat_le, is_some, ◌==◌}
use Rattle.std.specs.List.{list_all}
use Rattle.std.specs.Ordering.{nat_cmp, eq_by_cmp, is_eq}
use Rattle.std.specs.declared.cmp.Ordering.{Ordering}
use Rattle.std.specs.declared.cmp.Ordering.TheVariants.{Less, Equal, Greater}
use Rattle.std.specs.Cmp.{nat_cmp_total}
use Rattle.std.specs.FinMap.{nat_cmp-IsAntisymmetric}
use Rattle.std.specs.FinMap.Entries.{find, is_sorted, is_sorted-put, is_sorted-where_key, find-put, find-where_key, find_tied, same_entries}
use Rattle.std.proofs.lemmas.Bool.{le-leb, lt-leb, lt-ltb, ltb-false, ne_eqb}
use Rattle.std.proofs.lemmas.Bool.Decides.{nat_tests}
use Rattle.std.proofs.lemmas.List.{append-nil}
use Rattle.std.proofs.lemmas.List.Elements.{filter-append}
use Rattle.kt_base.specs.declared.cell.Cell.{Cell}
use Rattle.kt_history.specs.declared.change.Change.{Change}
use Rattle.kt_history.specs.declared.change.Change.TheVariants.{Ins, Upd, Del}
use Rattle.kt_history.specs.Rows.{Row, IsRow, apply, undo, fits, has_columns, with_cells, cells_under}
use Rattle.kt_history.proofs.Undo.{leads_back}
use Rattle.kt_histlaws.specs.Histories.{or_else}
use Rattle.kt_history.specs.Stores.{Steps, Under, after_steps, row_of, step_at}
use Rattle.kt_histlaws.specs.Disks.{AreUndos, before_all, led_over}
use Rattle.kt_histlaws.specs.Fitting.{Rises, steps_above}
use Rattle.kt_rowfiles.specs.Flushing.{after_all, undone, cut, EachAbove, InOrderAt, AllUndone, IsChange, IsUndone, a_change_that_fits_is_undone, a_written_row_keeps_its_changes, a_deleted_row_keeps_its_changes, a_written_row_leads_back, a_cut_history_is_alike, a_dropped_row_is_alike}
use Rattle.kt_rowfiles.proofs.Options.{one_alone, as_T}

-- changes above j, each with its undo record
module _ (j : ℕ) where
  led : (steps : Steps) (row : Option Row) (made : Steps) → EachAbove j steps → AllUndone steps row
      → (led_over (undone j steps row made) (after_all steps row) ≡ led_over made row ++ steps) × (before_all (undone j steps row made) (after_all steps row) ≡ before_all made row)
  led [] row made above all = (sym (append-nil (led_over made row)), refl)
  led (c ∷ steps) row made above all =
      let here = lt-ltb j c.0 above.0 in
      let rest = led steps (apply c.1 row) ((c.0, undo c.1 row) ∷ made) above.1 all.1 in
      let over : led_over ((c.0, undo c.1 row) ∷ made) (apply c.1 row) ≡ led_over made row ++ c ∷ [] = ap (λ r. led_over made r ++ (c.0, undo (undo c.1 row) (apply c.1 row)) ∷ []) all.0.back ∙ ap (λ x. led_over made row ++ (c.0, x) ∷ []) all.0.over in (
        ap (λ b. led_over (undone j steps (apply c.1 row) (cond b ((c.0, undo c.1 row) ∷ made) made)) (after_all steps (apply c.1 row))) here ∙ rest.0 ∙ ap (λ l. l ++ steps) over ∙ append_assoc (led_over made row) (c ∷ []) steps,
        ap (λ b. before_all (undone j steps (apply c.1 row) (cond b ((c.0, undo c.1 row) ∷ made) made)) (after_all steps (apply c.1 row))) here ∙ rest.1 ∙ ap (before_all made) all.0.back,
      )

  all_above : (steps : Steps) → EachAbove j steps → steps_above j steps ≡ steps
  all_above [] above = refl
  all_above (c ∷ steps) above = rw (lt-ltb j c.0 above.0) (ap (λ l. c ∷ l) (all_above steps above.1))

  none_below : (t : ℕ) (steps : Steps) (row : Option Row) → t ≤ j → EachAbove j steps → after_steps t steps row ≡ row
  none_below t [] row le above = refl
  none_below t (c ∷ steps) row le above = ap (λ b. after_steps t steps (cond b (apply c.1 row) row)) (lt-leb c.0 t (omega (arith, above.0))) ∙ none_below t steps row le above.1

  whole : (steps : Steps) (row : Option Row) → InOrderAt j steps → AllUndone steps row
      → (led_over (undone j steps row []) (after_all steps row) ≡ steps_above j steps) × (before_all (undone j steps row []) (after_all steps row) ≡ after_steps j steps row)
  whole [] row order all = (refl, refl)
  whole (c ∷ steps) row order all = elim (nat_lt j c.0) as (λ b. nat_lt j c.0 ≡ b →
      (led_over (undone j steps (apply c.1 row) (cond b ((c.0, undo c.1 row) ∷ []) [])) (after_all steps (apply c.1 row)) ≡ cond b (c ∷ steps_above j steps) (steps_above j steps))
      × (before_all (undone j steps (apply c.1 row) (cond b ((c.0, undo c.1 row) ∷ []) [])) (after_all steps (apply c.1 row)) ≡ after_steps j steps (cond (nat_le c.0 j) (apply c.1 row) row))) [
        | true ↦ λ e.
            let up : j < c.0 = grind (arith, nat_tests) in
            let later = order.0 e in
            let rest = led steps (apply c.1 row) ((c.0, undo c.1 row) ∷ []) later all.1 in (
              rest.0 ∙ ap (λ x. (c.0, x) ∷ steps) all.0.over ∙ ap (λ l. c ∷ l) (sym (all_above steps later)),
              rest.1 ∙ all.0.back ∙ sym (ap (λ b. after_steps j steps (cond b (apply c.1 row) row)) (lt-leb c.0 j up) ∙ none_below j steps row (omega arith) later),
            )
        | false ↦ λ e.
            let down = ltb-false j c.0 e in
            let rest = whole steps (apply c.1 row) order.1 all.1 in
            (rest.0, rest.1 ∙ ap (λ b. after_steps j steps (cond b (apply c.1 row) row)) (sym (le-leb c.0 j down)))
      ] refl

  -- the undo record of a change leads back
  leads : (c : Change) (row : Option Row) → IsUndone c row → apply (undo (undo c row) (apply c row)) (apply (undo c row) (apply c row)) ≡ apply c row
  leads c row u = ap (λ (x : Change). apply x (apply (undo c row) (apply c row))) u.over ∙ ap (apply c) u.back

  -- changes above j, behind those whose undo records lead back
  lead_on : (steps : Steps) (row : Option Row) (made : Steps) (low top : ℕ) → EachAbove j steps → Rises low steps → AllUndone steps row
      → ((b : ℕ) → low < b → AreUndos b made row) → low < top → Under top steps → AreUndos top (undone j steps row made) (after_all steps row)
  lead_on [] row made low top above rise all so lt under = so top lt
  lead_on (c ∷ steps) row made low top above rise all so lt under =
      subst (λ (b : Bool). AreUndos top (undone j steps (apply c.1 row) (cond b ((c.0, undo c.1 row) ∷ made) made)) (after_all steps (apply c.1 row))) (sym (lt-ltb j c.0 above.0))
      (lead_on steps (apply c.1 row) ((c.0, undo c.1 row) ∷ made) c.0 top above.1 rise.1 all.1
      (λ b up. (up, leads c.1 row all.0, subst (AreUndos c.0 made) (sym all.0.back) (so c.0 rise.0)))
      under.0 under.1)

  lead_all : (steps : Steps) (row : Option Row) (top : ℕ) → InOrderAt j steps → Rises j (steps_above j steps) → AllUndone steps row → j < top → Under top steps
      → AreUndos top (undone j steps row []) (after_all steps row)
  lead_all [] row top order rise all lt under = tt
  lead_all (c ∷ steps) row top order rise all lt under = elim (nat_lt j c.0) as (λ b. nat_lt j c.0 ≡ b → Rises j (cond b (c ∷ steps_above j steps) (steps_above j steps))
      → AreUndos top (undone j steps (apply c.1 row) (cond b ((c.0, undo c.1 row) ∷ []) [])) (after_all steps (apply c.1 row))) [
        | true ↦ λ e r.
            let later = order.0 e in
            lead_on steps (apply c.1 row) ((c.0, undo c.1 row) ∷ []) c.0 top later (subst (Rises c.0) (all_above steps later) r.1) all.1 (λ b up. (up, leads c.1 row all.0, tt)) under.0 under.1
        | false ↦ λ e r. lead_all steps (apply c.1 row) top order.1 r all.1 lt under.1
      ] refl rise

  -- from j on the changes at or below it are the row at j
  pub cut_rows : (t : ℕ) (steps : Steps) (row : Option Row) → j ≤ t → InOrderAt j steps → after_steps t (steps_above j steps) (after_steps j steps row) ≡ after_steps t steps row
  cut_rows t [] row le order = refl
  cut_rows t (c ∷ steps) row le order = elim (nat_lt j c.0) as (λ b. nat_lt j c.0 ≡ b → after_steps t (cond b (c ∷ steps_above j steps) (steps_above j steps)) (after_steps j steps (cond (nat_le c.0 j) (apply c.1 row) row)) ≡ after_steps t steps (cond (nat_le c.0 t) (apply c.1 row) row)) [
    | true ↦ λ e.
        let up : j < c.0 = grind (arith, nat_tests) in
        let later = order.0 e in
        ap (λ r. after_steps t (steps_above j steps) (cond (nat_le c.0 t) (apply c.1 r) r)) (ap (λ b. after_steps j steps (cond b (apply c.1 row) row)) (lt-leb c.0 j up) ∙ none_below j steps row (omega arith) later)
        ∙ ap (λ l. after_steps t l (cond (nat_le c.0 t) (apply c.1 row) row)) (all_above steps later)
    | false ↦ λ e.
        let down = ltb-false j c.0 e in
        ap (λ b. after_steps t (steps_above j steps) (after_steps j steps (cond b (apply c.1 row) row))) (le-leb c.0 j down)
        ∙ cut_rows t steps (apply c.1 row) le order.1
        ∙ ap (λ b. after_steps t steps (cond b (apply c.1 row) row)) (sym (le-leb c.0 t (omega arith)))
  ] refl

  pub cut_steps : (t : ℕ) (steps : Steps) → j < t → step_at t (steps_above j steps) ≡ step_at t steps
  cut_steps t [] lt = refl
  cut_steps t (c ∷ steps) lt = elim (nat_lt j c.0) as (λ b. nat_lt j c.0 ≡ b → step_at t (cond b (c ∷ steps_above j steps) (steps_above j steps)) ≡ cond (c.0 == t) (Some c.1) (step_at t steps)) [
    | true ↦ λ e. ap (cond (c.0 == t) (Some c.1)) (cut_steps t steps lt)
    | false ↦ λ e. let down = ltb-false j c.0 e in cut_steps t steps lt ∙ sym (rw (ne_eqb c.0 t (λ s. omega arith)) refl)
  ] refl

pub written_keeps : a_written_row_keeps_its_changes
written_keeps j h base order all is =
    let w = whole j h.steps h.first order all in
    let made = undone j h.steps h.first [] in
    ap (λ r. record { first = before_all made r; steps = led_over made r ++ [] }) (sym is)
    ∙ ap (λ f. record { first = f; steps = led_over made (after_all h.steps h.first) ++ [] }) w.1 ∙ ap (λ s. record { first = row_of j h; steps = s }) (append-nil (led_over made (after_all h.steps h.first)) ∙ w.0)

pub deleted_keeps : a_deleted_row_keeps_its_changes
deleted_keeps j ts h base order all is lt =
    let w = whole j h.steps h.first order all in
    let made = undone j h.steps h.first [] in
    ap (λ r. record { first = before_all made r; steps = led_over made r ++ (ts, Del) ∷ [] }) (sym is)
    ∙ ap (λ f. record { first = f; steps = led_over made (after_all h.steps h.first) ++ (ts, Del) ∷ [] }) w.1
    ∙ ap (λ s. record { first = row_of j h; steps = s }) (ap (λ l. l ++ (ts, Del) ∷ []) w.0
    ∙ sym (filter-append (λ (x : ℕ × Change). nat_lt j x.0) h.steps ((ts, Del) ∷ []) ∙ ap (λ b. steps_above j h.steps ++ cond b ((ts, Del) ∷ []) []) (lt-ltb j ts lt)))

pub written_leads : a_written_row_leads_back
written_leads j top h base order rise all is lt under = subst (AreUndos top (undone j h.steps h.first [])) is (lead_all j h.steps h.first top order rise all lt under)

pub one_option : {A : Type 0} (x y : Option A) → x ≡ y → or_else x None ≡ or_else y None
one_option x y e = ap (λ o. or_else o None) e

pub cut_alike : a_cut_history_is_alike
cut_alike j h order = record {
  rows = λ t le. one_option (row_of t h) (row_of t (cut j h)) (sym (cut_rows j t h.steps h.first le order));
  steps = λ t up. one_option (step_at t h.steps) (step_at t (steps_above j h.steps)) (sym (cut_steps j t h.steps up));
  one_row = λ t le. one_alone (row_of t (cut j h));
  one_step = λ t up. one_alone (step_at t (steps_above j h.steps));
}

pub dropped_alike : a_dropped_row_is_alike
dropped_alike j h order none no_steps = record {
  rows = λ t le. one_option (row_of t h) None (sym (cut_rows j t h.steps h.first le order) ∙ ap (λ l. after_steps t l (row_of j h)) no_steps ∙ none);
  steps = λ t up. one_option (step_at t h.steps) None (sym (cut_steps j t h.steps up) ∙ ap (step_at t) no_steps);
  one_row = λ t le. tt;
  one_step = λ t up. tt;
}

-- a change that fits is undone

under : (b : Bool) (x : Cell) (y o : Option Cell) → cond b (Some x) (or_else y o) ≡ or_else (cond b (Some x) y) o
under true x y o = refl
under false x y o = refl

find-with_cells : (q : ℕ) (cells row : Row) → find nat_cmp q (with_cells cells row) ≡ or_else (find nat_cmp q cells) (find nat_cmp q row)
find-with_cells q [] row = refl
find-with_cells q (c ∷ cells) row = find-put nat_cmp nat_cmp_total q c.0 c.1 (with_cells cells row) ∙ ap (cond (eq_by_cmp nat_cmp q c.0) (Some c.1)) (find-with_cells q cells row) ∙ under (eq_by_cmp nat_cmp q c.0) c.1 (find nat_cmp q cells) (find nat_cmp q row)

is_equal : (o : Ordering) → is_eq o ≡ true → o ≡ Equal
is_equal Less h = cc
is_equal Equal h = refl
is_equal Greater h = cc

first_of : (a b : Bool) → (a && b) ≡ true → a ≡ true
first_of true b h = refl
first_of false b h = h

rest_of : (a b : Bool) → (a && b) ≡ true → b ≡ true
rest_of true b h = h
rest_of false b h = cc

found_too : (q : ℕ) (cells row : Row) → list_all (λ (c : ℕ × Cell). is_some (find nat_cmp c.0 row)) cells ≡ true → is_some (find nat_cmp q cells) ≡ true → is_some (find nat_cmp q row) ≡ true
found_too q [] row all found = cc
found_too q (c ∷ cells) row all found =
    elim (eq_by_cmp nat_cmp q c.0) as (λ b. eq_by_cmp nat_cmp q c.0 ≡ b → is_some (cond b (Some c.1) (find nat_cmp q cells)) ≡ true → is_some (find nat_cmp q row) ≡ true) [
      | true ↦ λ same _. ap is_some (sym (find_tied nat_cmp nat_cmp_total q c.0 (is_equal _ same) row)) ∙ first_of _ _ all
      | false ↦ λ _ rest. found_too q cells row (rest_of _ _ all) rest
    ] refl found

pick : (u b : Option Cell) → (is_some u ≡ true → is_some b ≡ true) → cond (is_some (cond (is_some u) b None)) (or_else u b) None ≡ u
pick None b h = refl
pick (Some v) None h = let e = h refl in cc
pick (Some v) (Some w) h = refl

sorted-with_cells : (cells row : Row) → T (is_sorted nat_cmp row) → T (is_sorted nat_cmp (with_cells cells row))
sorted-with_cells [] row h = h
sorted-with_cells (c ∷ cells) row h = is_sorted-put nat_cmp nat_cmp_total c.0 c.1 (with_cells cells row) (sorted-with_cells cells row h)

over_update : (q : ℕ) (cells row : Row) → list_all (λ (c : ℕ × Cell). is_some (find nat_cmp c.0 row)) cells ≡ true → find nat_cmp q (cells_under (cells_under cells row) (with_cells cells row)) ≡ find nat_cmp q cells
over_update q cells row all =
    find-where_key nat_cmp (λ id. is_some (find nat_cmp id (cells_under cells row))) q (λ x e. ap is_some (find_tied nat_cmp nat_cmp_total q x e (cells_under cells row))) (with_cells cells row)
    ∙ ap (λ o. cond (is_some o) (find nat_cmp q (with_cells cells row)) None) (find-where_key nat_cmp (λ id. is_some (find nat_cmp id cells)) q (λ x e. ap is_some (find_tied nat_cmp nat_cmp_total q x e cells)) row)
    ∙ ap (λ o. cond (is_some (cond (is_some (find nat_cmp q cells)) (find nat_cmp q row) None)) o None) (find-with_cells q cells row)
    ∙ pick (find nat_cmp q cells) (find nat_cmp q row) (found_too q cells row all)

pub fit_is_undone : a_change_that_fits_is_undone
fit_is_undone c row is fit columns change = record { back = leads_back c row is fit columns; over = over c row is fit columns change }
  where
    over : (c : Change) (row : Option Row) → IsRow row → fits c row ≡ true → has_columns c row ≡ true → IsChange c → undo (undo c row) (apply c row) ≡ c
    over (Ins cells) None is fit columns change = refl
    over (Ins cells) (Some old) is fit columns change = cc
    over (Upd cells) None is fit columns change = cc
    over (Upd cells) (Some old) is fit columns change =
        let sorted = as_T (is_sorted nat_cmp old) is in
        ap Upd (same_entries nat_cmp nat_cmp_total nat_cmp-IsAntisymmetric (cells_under (cells_under cells old) (with_cells cells old)) cells
        (is_sorted-where_key nat_cmp (λ id. is_some (find nat_cmp id (cells_under cells old))) (with_cells cells old) (sorted-with_cells cells old sorted)) (as_T (is_sorted nat_cmp cells) change) (λ q. over_update q cells old columns))
    over Del None is fit columns change = cc
    over Del (Some old) is fit columns change = refl
