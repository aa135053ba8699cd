-- What a row that is folded keeps of its history.
use Rattle.std.proofs.Common.{◌≡◌, ◌≤◌, ◌<◌, ℕ, [], ◌∷◌, ◌++◌, Option, Some, None, Bool, true, false, refl, sym, ap, ◌∙◌, subst, arith, cond, append_assoc}
use Rattle.std.specs.Prelude.{nat_lt}
use Rattle.std.specs.Option.{option_map}
use Rattle.std.proofs.lemmas.Bool.{lt-leb, lt-ltb, ltb-false, ne_eqb}
use Rattle.std.proofs.lemmas.List.{append-nil}
use Rattle.std.proofs.lemmas.List.Elements.{filter-append}
use Rattle.kt_history.specs.declared.change.Change.{Change}
use Rattle.kt_history.specs.declared.change.Change.TheVariants.{Del}
use Rattle.kt_history.specs.Rows.{Row, apply, undo}
use Rattle.kt_history.specs.Stores.{Steps, Hist, Under, after_steps, row_of, step_at}
use Rattle.kt_histlaws.specs.Disks.{DiskRow, AreUndos, before_all, led_over, hist_of}
use Rattle.kt_histlaws.specs.Fitting.{Rises, steps_above}
use Rattle.kt_histlaws.specs.Jobs.{AreAlike}
use Rattle.kt_rowfiles.specs.Flushing.{after_all, undone, written, written_deleted, cut, EachAbove, InOrderAt, AllUndone}
use Rattle.kt_rowfiles.proofs.Flushing.{written_keeps, cut_alike, cut_steps, one_option}
use Rattle.kt_rowfiles.proofs.Options.{one_alone}
use Rattle.kt_merge.specs.Rows.{deleted_at, before_last, written_by}
use Rattle.kt_merge.specs.Laws.{EachFits, before_redos}
use Rattle.kt_merge.specs.Folding.{on_base, folded_by, with_older, a_row_folded_is_alike, a_row_folded_whole_is_the_same, a_row_folded_whole_leads_back, changes_that_fit_leave_a_row}
use Rattle.kt_merge.proofs.Written.{came_from, came_none, ends_with, front_order, front_undone, none_above, gone_at, each_above, is_kept, is_led, there_before, there_after}

-- a history that ends in a delete at or below the mark
gone_alike : (j ts : ℕ) (xs : Steps) (first row : Option Row) → ts ≤ j → InOrderAt j (xs ++ (ts, Del) ∷ []) → AreAlike j (record { first = first; steps = xs ++ (ts, Del) ∷ [] } ∷ []) (record { first = row; steps = (ts, Del) ∷ [] } ∷ [])
gone_alike j ts xs first row le order = record {
  rows = λ t up. let low : ts ≤ t = omega arith in one_option _ _ (gone_at t ts xs first low ∙ sym (gone_at t ts [] row low));
  steps = λ t up. one_option _ _ (sym (cut_steps j t (xs ++ (ts, Del) ∷ []) up) ∙ ap (step_at t) (none_above j ts xs le order) ∙ sym (ap (λ (b : Bool). cond b (Some Del) None) (ne_eqb ts t (λ e. omega arith))));
  one_row = λ t up. one_alone (row_of t (record { first = row; steps = (ts, Del) ∷ [] }));
  one_step = λ t up. one_alone (step_at t ((ts, Del) ∷ []));
}

-- a row that is written with a delete at or below the mark
ghost_alike : (j ts : ℕ) (front : Hist) (base : Row) → ts ≤ j → InOrderAt j (front.steps ++ (ts, Del) ∷ []) → AllUndone front.steps front.first → after_all front.steps front.first ≡ Some base
    → AreAlike j (record { first = front.first; steps = front.steps ++ (ts, Del) ∷ [] } ∷ []) (hist_of (written_deleted j front ts base) ∷ [])
ghost_alike j ts front base le order all is =
    subst (λ (s : Steps). AreAlike j (record { first = front.first; steps = front.steps ++ (ts, Del) ∷ [] } ∷ []) (record { first = before_all made (Some base); steps = s ++ (ts, Del) ∷ [] } ∷ [])) (sym none)
    (gone_alike j ts front.steps front.first (before_all made (Some base)) le order)
  where
    made : Steps
    made = undone j front.steps front.first []

    nothing_above : steps_above j front.steps ≡ []
    nothing_above = front_none (steps_above j front.steps) (steps_above j ((ts, Del) ∷ [])) (sym (filter-append (λ (x : ℕ × Change). nat_lt j x.0) front.steps ((ts, Del) ∷ [])) ∙ none_above j ts front.steps le order)
      where
        front_none : (xs ys : Steps) → xs ++ ys ≡ [] → xs ≡ []
        front_none [] ys e = refl
        front_none (x ∷ xs) ys e = cc

    none : led_over made (Some base) ≡ []
    none = sym (append-nil (led_over made (Some base))) ∙ ap (λ (h : Hist). h.steps) (written_keeps j front base (front_order j front.steps ((ts, Del) ∷ []) order) all is) ∙ nothing_above

is_alike : (j : ℕ) (h : Hist) (d : DiskRow) → InOrderAt j h.steps → AllUndone h.steps h.first → (o : Option ℕ) → deleted_at h.steps ≡ o → folded_by j h o ≡ Some d → AreAlike j (h ∷ []) (hist_of d ∷ [])
is_alike j h d order all None at is = subst (λ (x : Hist). AreAlike j (h ∷ []) (x ∷ [])) (sym (is_kept j h d order all None at is)) (cut_alike j h order)
is_alike j h d order all (Some ts) at is = by (nat_lt j ts) refl
  where
    front : Hist
    front = before_last h

    ends : h.steps ≡ front.steps ++ (ts, Del) ∷ []
    ends = ends_with h.steps ts at

    by : (b : Bool) → nat_lt j ts ≡ b → AreAlike j (h ∷ []) (hist_of d ∷ [])
    by true e = subst (λ (x : Hist). AreAlike j (h ∷ []) (x ∷ [])) (sym (is_kept j h d order all (Some ts) at (ap (λ (b : Bool). cond b (option_map (written_deleted j front ts) (after_all front.steps h.first)) None) e ∙ is))) (cut_alike j h order)
    by false e =
        let from = came_from (written_deleted j front ts) (after_all front.steps h.first) d is in
        let whole_order = subst (InOrderAt j) ends order in
        let whole_all = subst (λ (s : Steps). AllUndone s h.first) ends all in
        let alike = ghost_alike j ts front from.0 (ltb-false j ts e) whole_order (front_undone front.steps ((ts, Del) ∷ []) h.first whole_all) from.1 in
        subst (λ (s : Steps). AreAlike j (record { first = h.first; steps = s } ∷ []) (hist_of d ∷ [])) (sym ends) (subst (λ (x : DiskRow). AreAlike j (record { first = h.first; steps = front.steps ++ (ts, Del) ∷ [] } ∷ []) (hist_of x ∷ [])) from.2 alike)

pub folded_alike : a_row_folded_is_alike
folded_alike j base redos d order all is = is_alike j (on_base base redos) d order all (deleted_at redos) refl is

is_left : (j : ℕ) (h : Hist) (row : Row) → h.first ≡ Some row → EachFits h.steps h.first → (o : Option ℕ) → deleted_at h.steps ≡ o → folded_by j h o ≡ None → ⊥
is_left j h row there fit None at is = none h.steps refl
  where
    after : after_all h.steps h.first ≡ None
    after = came_none (written j h) (after_all h.steps h.first) is

    none : (steps : Steps) → h.steps ≡ steps → ⊥
    none [] e = no (sym there ∙ sym (ap (λ (s : Steps). after_all s h.first) e) ∙ after)
      where
        no : Some row ≡ None → ⊥
        no k = cc
    none (x ∷ steps) e = there_after x steps h.first (subst (λ (s : Steps). EachFits s h.first) e fit) (sym (ap deleted_at e) ∙ at) (sym (ap (λ (s : Steps). after_all s h.first) e) ∙ after)
is_left j h row there fit (Some ts) at is = there_before ts (before_last h).steps h.first (subst (λ (s : Steps). EachFits s h.first) (ends_with h.steps ts at) fit) (came_none (written_deleted j (before_last h) ts) (after_all (before_last h).steps h.first) is)

pub folded_left : changes_that_fit_leave_a_row
folded_left j base redos fit is = is_left j (on_base base redos) base refl fit (deleted_at redos) refl is

-- ---- changes that all lie above the mark

above_order : (j : ℕ) (xs : Steps) → EachAbove j xs → InOrderAt j xs
above_order j [] above = tt
above_order j (c ∷ xs) above = (λ e. above.1, above_order j xs above.1)

above_row : (j : ℕ) (xs : Steps) (row : Option Row) → EachAbove j xs → after_steps j xs row ≡ row
above_row j [] row above = refl
above_row j (c ∷ xs) row above = ap (λ (b : Bool). after_steps j xs (cond b (apply c.1 row) row)) (lt-leb c.0 j above.0) ∙ above_row j xs row above.1

above_last : (j ts : ℕ) (xs : Steps) → EachAbove j (xs ++ (ts, Del) ∷ []) → j < ts
above_last j ts [] above = above.0
above_last j ts (c ∷ xs) above = above_last j ts xs above.1

kept_whole : (j : ℕ) (h : Hist) (e : DiskRow) → EachAbove j h.steps → AllUndone h.steps h.first → (o : Option ℕ) → deleted_at h.steps ≡ o → folded_by j h o ≡ Some e → hist_of e ≡ h
kept_whole j h e above all o at is = by o at is ∙ ap (λ (s : Steps). record { first = row_of j h; steps = s }) (each_above j h.steps above) ∙ ap (λ (r : Option Row). record { first = r; steps = h.steps }) (above_row j h.steps h.first above)
  where
    by : (o : Option ℕ) → deleted_at h.steps ≡ o → folded_by j h o ≡ Some e → hist_of e ≡ cut j h
    by None at is = is_kept j h e (above_order j h.steps above) all None at is
    by (Some ts) at is =
        let up = above_last j ts (before_last h).steps (subst (EachAbove j) (ends_with h.steps ts at) above) in
        is_kept j h e (above_order j h.steps above) all (Some ts) at (ap (λ (b : Bool). cond b (option_map (written_deleted j (before_last h) ts) (after_all (before_last h).steps h.first)) None) (lt-ltb j ts up) ∙ is)

-- the history of a row with older UNDO records behind its own
abbrev behind : Steps → Hist → Hist
behind undos h = record { first = before_all undos h.first; steps = led_over undos h.first ++ h.steps }

before-append : (xs ys : Steps) (row : Option Row) → before_all (xs ++ ys) row ≡ before_all ys (before_all xs row)
before-append [] ys row = refl
before-append (x ∷ xs) ys row = before-append xs ys (apply x.1 row)

led-append : (xs ys : Steps) (row : Option Row) → led_over (xs ++ ys) row ≡ led_over ys (before_all xs row) ++ led_over xs row
led-append [] ys row = sym (append-nil (led_over ys row))
led-append (x ∷ xs) ys row = ap (λ (l : Steps). l ++ (x.0, undo x.1 row) ∷ []) (led-append xs ys (apply x.1 row)) ∙ append_assoc (led_over ys (before_all xs (apply x.1 row))) (led_over xs (apply x.1 row)) ((x.0, undo x.1 row) ∷ [])

with_older_is : (undos : Steps) (e : DiskRow) → hist_of (with_older undos e) ≡ behind undos (hist_of e)
with_older_is undos e =
    ap (λ (r : Option Row). record { first = r; steps = led_over (e.undos ++ undos) (Some e.base) ++ e.redos }) (before-append e.undos undos (Some e.base))
    ∙ ap (λ (l : Steps). record { first = before_all undos (before_all e.undos (Some e.base)); steps = l })
    (ap (λ (l : Steps). l ++ e.redos) (led-append e.undos undos (Some e.base)) ∙ append_assoc (led_over undos (before_all e.undos (Some e.base))) (led_over e.undos (Some e.base)) e.redos)

pub folded_whole : a_row_folded_whole_is_the_same
folded_whole j d e above all is = with_older_is d.undos e ∙ ap (behind d.undos) (kept_whole j (on_base d.base d.redos) e above all (deleted_at d.redos) refl is)

-- ---- all UNDO records of a row

-- the timestamp of the last UNDO record, or the time where there is none
abbrev lowest : ℕ → Steps → ℕ
lowest top [] = top
lowest top (u ∷ undos) = lowest u.0 undos

undos-append : (top : ℕ) (xs ys : Steps) (row : Option Row) → AreUndos top xs row → AreUndos (lowest top xs) ys (before_all xs row) → AreUndos top (xs ++ ys) row
undos-append top [] ys row one two = two
undos-append top (x ∷ xs) ys row one two = (one.0, one.1, undos-append x.0 xs ys (apply x.1 row) one.2 two)

lowest_made : (j top : ℕ) (steps : Steps) (row : Option Row) (x : ℕ × Change) (made : Steps) → EachAbove j steps → lowest top (undone j steps row (x ∷ made)) ≡ lowest x.0 made
lowest_made j top [] row x made above = refl
lowest_made j top (c ∷ steps) row x made above =
    ap (λ (b : Bool). lowest top (undone j steps (apply c.1 row) (cond b ((c.0, undo c.1 row) ∷ x ∷ made) (x ∷ made)))) (lt-ltb j c.0 above.0) ∙ lowest_made j top steps (apply c.1 row) (c.0, undo c.1 row) (x ∷ made) above.1

-- the last UNDO record made is that of the first change
lowest_is : (j top : ℕ) (steps : Steps) (row : Option Row) → EachAbove j steps → lowest top (undone j steps row []) ≡ before_redos top steps
lowest_is j top [] row above = refl
lowest_is j top (c ∷ steps) row above =
    ap (λ (b : Bool). lowest top (undone j steps (apply c.1 row) (cond b ((c.0, undo c.1 row) ∷ []) []))) (lt-ltb j c.0 above.0) ∙ lowest_made j top steps (apply c.1 row) (c.0, undo c.1 row) [] above.1

front_above : (j : ℕ) (xs ys : Steps) → EachAbove j (xs ++ ys) → EachAbove j xs
front_above j [] ys above = tt
front_above j (c ∷ xs) ys above = (above.0, front_above j xs ys above.1)

before-front : (top ts : ℕ) (xs : Steps) → before_redos ts xs ≡ before_redos top (xs ++ (ts, Del) ∷ [])
before-front top ts [] = refl
before-front top ts (c ∷ xs) = refl

lowest_folded : (j top : ℕ) (h : Hist) (e : DiskRow) → EachAbove j h.steps → (o : Option ℕ) → deleted_at h.steps ≡ o → folded_by j h o ≡ Some e → lowest (before_redos top e.redos) e.undos ≡ before_redos top h.steps
lowest_folded j top h e above None at is =
    let from = came_from (written j h) (after_all h.steps h.first) e is in
    subst (λ (x : DiskRow). lowest (before_redos top x.redos) x.undos ≡ before_redos top h.steps) from.2 (lowest_is j top h.steps h.first above)
lowest_folded j top h e above (Some ts) at is =
    let ends = ends_with h.steps ts at in
    let from = came_from (written_deleted j (before_last h) ts) (after_all (before_last h).steps h.first) e is in
    subst (λ (x : DiskRow). lowest (before_redos top x.redos) x.undos ≡ before_redos top h.steps) from.2
    (lowest_is j ts (before_last h).steps h.first (front_above j (before_last h).steps ((ts, Del) ∷ []) (subst (EachAbove j) ends above)) ∙ before-front top ts (before_last h).steps ∙ ap (before_redos top) (sym ends))

-- what is folded is what is written, where all changes lie above the mark
as_written : (j : ℕ) (h : Hist) (e : DiskRow) → EachAbove j h.steps → (o : Option ℕ) → deleted_at h.steps ≡ o → folded_by j h o ≡ Some e → written_by j h o ≡ Some e
as_written j h e above None at is = is
as_written j h e above (Some ts) at is =
    let up = above_last j ts (before_last h).steps (subst (EachAbove j) (ends_with h.steps ts at) above) in
    ap (λ (b : Bool). cond b (option_map (written_deleted j (before_last h) ts) (after_all (before_last h).steps h.first)) None) (lt-ltb j ts up) ∙ is

leads_whole : (j top : ℕ) (h : Hist) (undos : Steps) (e : DiskRow) → EachAbove j h.steps → Rises j h.steps → AllUndone h.steps h.first → j < top → Under top h.steps → AreUndos (before_redos top h.steps) undos h.first
    → (o : Option ℕ) → deleted_at h.steps ≡ o → folded_by j h o ≡ Some e → AreUndos (before_redos top e.redos) (e.undos ++ undos) (Some e.base)
leads_whole j top h undos e above rise all lt under older o at is =
    let own = is_led j top h e (above_order j h.steps above) (subst (Rises j) (sym (each_above j h.steps above)) rise) all lt under o at (as_written j h e above o at is) in
    let first : before_all e.undos (Some e.base) ≡ h.first = ap (λ (x : Hist). x.first) (kept_whole j h e above all o at is) in
    undos-append (before_redos top e.redos) e.undos undos (Some e.base) own
    (subst (λ (n : ℕ). AreUndos n undos (before_all e.undos (Some e.base))) (sym (lowest_folded j top h e above o at is)) (subst (AreUndos (before_redos top h.steps) undos) (sym first) older))

pub folded_leads : a_row_folded_whole_leads_back
folded_leads j top d e above rise all lt under older is = leads_whole j top (on_base d.base d.redos) d.undos e above rise all lt under older (deleted_at d.redos) refl is
