-- What a row that is written keeps of its history.
use Rattle.std.proofs.Common.{◌≡◌, ◌≤◌, ◌<◌, ◌-◌, ℕ, suc, [], ◌∷◌, ◌++◌, take, length, Option, Some, None, Bool, true, false, refl, sym, ap, ◌∙◌, subst, arith, cond}
use Rattle.std.specs.Prelude.{nat_lt, nat_le, slice_get}
use Rattle.std.specs.Option.{option_map}
use Rattle.std.proofs.lemmas.Bool.{lt-ltb, lt-leb, le-leb, ltb-false}
use Rattle.std.proofs.lemmas.Bool.Decides.{nat_tests}
use Rattle.kt_history.specs.declared.change.Change.{Change}
use Rattle.kt_history.specs.declared.change.Change.TheVariants.{Ins, Upd, Del}
use Rattle.kt_history.specs.Rows.{Row, apply}
use Rattle.kt_history.specs.Stores.{Steps, Hist, Under, after_steps, row_of}
use Rattle.kt_histlaws.specs.Disks.{DiskRow, AreUndos, hist_of}
use Rattle.kt_histlaws.specs.Fitting.{Rises, steps_above}
use Rattle.kt_rowfiles.specs.Flushing.{after_all, written, written_deleted, cut, EachAbove, InOrderAt, AllUndone}
use Rattle.kt_rowfiles.proofs.Flushing.{written_keeps, deleted_keeps, written_leads}
use Rattle.kt_merge.specs.Rows.{deleted_by, deleted_at, but_last, before_last, written_by}
use Rattle.kt_merge.specs.Laws.{EachFits, before_redos, a_row_written_is_the_history, a_row_written_leads_back, a_row_not_written_is_not_there}

-- a list that has a last element
last_split : (x : ℕ × Change) (steps : Steps) (c : ℕ × Change) → slice_get (x ∷ steps) (length steps) ≡ Some c → x ∷ steps ≡ take (length steps) (x ∷ steps) ++ c ∷ []
last_split x [] c e = ap (λ l. l ∷ []) (some_is x c e)
  where
    some_is : (a b : ℕ × Change) → Some a ≡ Some b → a ≡ b
    some_is a b h = cc
last_split x (y ∷ steps) c e = ap (λ l. x ∷ l) (last_split y steps c e)

-- a change that deletes
is_delete : (ts : ℕ) (c : Option (ℕ × Change)) → deleted_by c ≡ Some ts → c ≡ Some (ts, Del)
is_delete ts None e = cc
is_delete ts (Some (t, Ins row)) e = cc
is_delete ts (Some (t, Upd cells)) e = cc
is_delete ts (Some (t, Del)) e = ap (λ (n : ℕ). Some (n, Del)) (same t ts e)
  where
    same : (a b : ℕ) → Some a ≡ Some b → a ≡ b
    same a b h = cc

pub ends_with : (steps : Steps) (ts : ℕ) → deleted_at steps ≡ Some ts → steps ≡ but_last steps ++ (ts, Del) ∷ []
ends_with [] ts e = cc
ends_with (x ∷ steps) ts e =
    let last : length (x ∷ steps) - 1 ≡ length steps = omega arith in
    last_split x steps (ts, Del) (is_delete ts (slice_get (x ∷ steps) (length steps)) (sym (ap (λ (n : ℕ). deleted_by (slice_get (x ∷ steps) n)) last) ∙ e))
    ∙ ap (λ (n : ℕ). take n (x ∷ steps) ++ (ts, Del) ∷ []) (sym last)

-- a front of changes
pub front_order : (j : ℕ) (xs ys : Steps) → InOrderAt j (xs ++ ys) → InOrderAt j xs
front_order j [] ys h = tt
front_order j (c ∷ xs) ys h = (λ e. front_above xs ys (h.0 e), front_order j xs ys h.1)
  where
    front_above : (some more : Steps) → EachAbove j (some ++ more) → EachAbove j some
    front_above [] more k = tt
    front_above (a ∷ some) more k = (k.0, front_above some more k.1)

pub front_undone : (xs ys : Steps) (row : Option Row) → AllUndone (xs ++ ys) row → AllUndone xs row
front_undone [] ys row h = tt
front_undone (c ∷ xs) ys row h = (h.0, front_undone xs ys (apply c.1 row) h.1)

-- a later change does not change the row at a time before it
without_later : (j ts : ℕ) (xs : Steps) (row : Option Row) → j < ts → after_steps j (xs ++ (ts, Del) ∷ []) row ≡ after_steps j xs row
without_later j ts [] row lt = ap (λ (b : Bool). cond b (apply Del row) row) (lt-leb ts j lt)
without_later j ts (c ∷ xs) row lt = without_later j ts xs (cond (nat_le c.0 j) (apply c.1 row) row) lt

-- what an option that is mapped came from
pub came_from : {A B : Type 0} (f : A → B) (o : Option A) (b : B) → option_map f o ≡ Some b → (a : A) × (o ≡ Some a) × (f a ≡ b)
came_from f None b e = cc
came_from f (Some a) b e = (a, refl, some_is (f a) b e)
  where
    some_is : {C : Type 0} (x y : C) → Some x ≡ Some y → x ≡ y
    some_is x y h = cc

pub came_none : {A B : Type 0} (f : A → B) (o : Option A) → option_map f o ≡ None → o ≡ None
came_none f None e = refl
came_none f (Some a) e = cc

pub is_kept : (j : ℕ) (h : Hist) (d : DiskRow) → InOrderAt j h.steps → AllUndone h.steps h.first → (o : Option ℕ) → deleted_at h.steps ≡ o → written_by j h o ≡ Some d → hist_of d ≡ cut j h
is_kept j h d order all None at is =
    let from = came_from (written j h) (after_all h.steps h.first) d is in
    sym (ap hist_of from.2) ∙ written_keeps j h from.0 order all from.1
is_kept j h d order all (Some ts) at is = above (nat_lt j ts) refl is
  where
    front : Hist
    front = before_last h

    ends : h.steps ≡ front.steps ++ (ts, Del) ∷ []
    ends = ends_with h.steps ts at

    above : (b : Bool) → nat_lt j ts ≡ b → cond b (option_map (written_deleted j front ts) (after_all front.steps h.first)) None ≡ Some d → hist_of d ≡ cut j h
    above false e k = cc
    above true e k =
        let from = came_from (written_deleted j front ts) (after_all front.steps h.first) d k in
        let lt : j < ts = grind (arith, nat_tests) in
        sym (ap hist_of from.2)
        ∙ deleted_keeps j ts front from.0 (front_order j front.steps ((ts, Del) ∷ []) (subst (InOrderAt j) ends order)) (front_undone front.steps ((ts, Del) ∷ []) h.first (subst (λ (s : Steps). AllUndone s h.first) ends all)) from.1 lt
        ∙ ap (λ (s : Steps). record { first = after_steps j front.steps h.first; steps = steps_above j s }) (sym ends)
        ∙ ap (λ (r : Option Row). record { first = r; steps = steps_above j h.steps }) (sym (without_later j ts front.steps h.first lt) ∙ ap (λ (s : Steps). after_steps j s h.first) (sym ends))

pub kept : a_row_written_is_the_history
kept j h d order all is = is_kept j h d order all (deleted_at h.steps) refl is

-- changes that all lie above the mark are those above it
pub each_above : (j : ℕ) (xs : Steps) → EachAbove j xs → steps_above j xs ≡ xs
each_above j [] above = refl
each_above j (c ∷ xs) above = rw (lt-ltb j c.0 above.0) (ap (λ (l : Steps). c ∷ l) (each_above j xs above.1))

-- a last change at or below the mark has none above it before it
pub none_above : (j ts : ℕ) (xs : Steps) → ts ≤ j → InOrderAt j (xs ++ (ts, Del) ∷ []) → steps_above j (xs ++ (ts, Del) ∷ []) ≡ []
none_above j ts [] le h = ap (λ (b : Bool). cond b ((ts, Del) ∷ []) []) (is_low (nat_lt j ts) refl)
  where
    is_low : (b : Bool) → nat_lt j ts ≡ b → nat_lt j ts ≡ false
    is_low false e = e
    is_low true e = absurd (no_both (lt_of e))
      where
        lt_of : nat_lt j ts ≡ true → j < ts
        lt_of k = grind (arith, nat_tests)

        no_both : j < ts → ⊥
        no_both k = omega arith
none_above j ts (c ∷ xs) le h = low (none_above j ts xs le h.1) (nat_lt j c.0) refl
  where
    is_up : (ys : Steps) → EachAbove j (ys ++ (ts, Del) ∷ []) → j < ts
    is_up [] k = k.0
    is_up (y ∷ ys) k = is_up ys k.1

    low : steps_above j (xs ++ (ts, Del) ∷ []) ≡ [] → (b : Bool) → nat_lt j c.0 ≡ b → cond b (c ∷ steps_above j (xs ++ (ts, Del) ∷ [])) (steps_above j (xs ++ (ts, Del) ∷ [])) ≡ []
    low rest false e = rest
    low rest true e = absurd (no_both (is_up xs (h.0 e)))
      where
        no_both : j < ts → ⊥
        no_both k = omega arith

-- a last delete at or below the mark leaves no row there
pub gone_at : (j ts : ℕ) (xs : Steps) (row : Option Row) → ts ≤ j → after_steps j (xs ++ (ts, Del) ∷ []) row ≡ None
gone_at j ts [] row le = ap (λ (b : Bool). cond b (apply Del row) row) (le-leb ts j le)
gone_at j ts (c ∷ xs) row le = gone_at j ts xs (cond (nat_le c.0 j) (apply c.1 row) row) le

-- before a delete that fits there is a row
pub there_before : (ts : ℕ) (xs : Steps) (row : Option Row) → EachFits (xs ++ (ts, Del) ∷ []) row → after_all xs row ≡ None → ⊥
there_before ts [] None h e = no h.0
  where
    no : false ≡ true → ⊥
    no k = cc
there_before ts [] (Some row) h e = no e
  where
    no : Some row ≡ None → ⊥
    no k = cc
there_before ts (c ∷ xs) row h e = there_before ts xs (apply c.1 row) h.1 e

-- after changes of which the last deletes nothing there is a row
pub there_after : (x : ℕ × Change) (steps : Steps) (row : Option Row) → EachFits (x ∷ steps) row → deleted_at (x ∷ steps) ≡ None → after_all (x ∷ steps) row ≡ None → ⊥
there_after (ts, Ins r) [] None h at e = no e
  where
    no : Some r ≡ None → ⊥
    no k = cc
there_after (ts, Ins r) [] (Some row) h at e = no e
  where
    no : Some row ≡ None → ⊥
    no k = cc
there_after (ts, Upd cells) [] None h at e = no h.0
  where
    no : false ≡ true → ⊥
    no k = cc
there_after (ts, Upd cells) [] (Some row) h at e = no (apply (Upd cells) (Some row)) refl e
  where
    no : (o : Option Row) → o ≡ apply (Upd cells) (Some row) → o ≡ None → ⊥
    no o is k = cc
there_after (ts, Del) [] row h at e = no at
  where
    no : Some ts ≡ None → ⊥
    no k = cc
there_after x (y ∷ steps) row h at e =
    let more : length (x ∷ y ∷ steps) - 1 ≡ suc (length (y ∷ steps) - 1) = omega arith in
    there_after y steps (apply x.1 row) h.1 (sym (ap (λ (n : ℕ). deleted_by (slice_get (x ∷ y ∷ steps) n)) more) ∙ at) e

is_dropped : (j : ℕ) (h : Hist) → InOrderAt j h.steps → EachFits h.steps h.first → (o : Option ℕ) → deleted_at h.steps ≡ o → written_by j h o ≡ None → (row_of j h ≡ None) × (steps_above j h.steps ≡ [])
is_dropped j h order fit None at is = none h.steps refl at (came_none (written j h) (after_all h.steps h.first) is)
  where
    none : (steps : Steps) → h.steps ≡ steps → deleted_at h.steps ≡ None → after_all h.steps h.first ≡ None → (row_of j h ≡ None) × (steps_above j h.steps ≡ [])
    none [] e a after = (ap (λ (s : Steps). after_steps j s h.first) e ∙ sym (ap (λ (s : Steps). after_all s h.first) e) ∙ after, ap (steps_above j) e)
    none (x ∷ steps) e a after = absurd (there_after x steps h.first (subst (λ (s : Steps). EachFits s h.first) e fit) (sym (ap deleted_at e) ∙ a) (sym (ap (λ (s : Steps). after_all s h.first) e) ∙ after))
is_dropped j h order fit (Some ts) at is = below (nat_lt j ts) refl is
  where
    front : Steps
    front = but_last h.steps

    ends : h.steps ≡ front ++ (ts, Del) ∷ []
    ends = ends_with h.steps ts at

    below : (b : Bool) → nat_lt j ts ≡ b → cond b (option_map (written_deleted j (before_last h) ts) (after_all front h.first)) None ≡ None → (row_of j h ≡ None) × (steps_above j h.steps ≡ [])
    below true e k = absurd (there_before ts front h.first (subst (λ (s : Steps). EachFits s h.first) ends fit) (came_none (written_deleted j (before_last h) ts) (after_all front h.first) k))
    below false e k =
        let le = ltb-false j ts e in
        (ap (λ (s : Steps). after_steps j s h.first) ends ∙ gone_at j ts front h.first le, ap (steps_above j) ends ∙ none_above j ts front le (subst (InOrderAt j) ends order))

pub dropped : a_row_not_written_is_not_there
dropped j h order fit is = is_dropped j h order fit (deleted_at h.steps) refl is

-- changes before a last one lie below it
low_under : (low ts : ℕ) (d : Change) (xs : Steps) → Rises low (xs ++ (ts, d) ∷ []) → (low < ts) × Under ts xs
low_under low ts d [] r = (r.0, tt)
low_under low ts d (c ∷ xs) r = let rest = low_under c.0 ts d xs r.1 in (omega (arith, r.0, rest.0), (rest.0, rest.1))

all_under : (j ts : ℕ) (xs : Steps) → j < ts → Rises j (steps_above j (xs ++ (ts, Del) ∷ [])) → InOrderAt j (xs ++ (ts, Del) ∷ []) → Under ts xs
all_under j ts [] lt rise order = tt
all_under j ts (c ∷ xs) lt rise order = by (λ r. all_under j ts xs lt r order.1) (nat_lt j c.0) refl rise
  where
    by : (Rises j (steps_above j (xs ++ (ts, Del) ∷ [])) → Under ts xs) → (b : Bool) → nat_lt j c.0 ≡ b → Rises j (cond b (c ∷ steps_above j (xs ++ (ts, Del) ∷ [])) (steps_above j (xs ++ (ts, Del) ∷ []))) → Under ts (c ∷ xs)
    by go true e r =
        let above = order.0 e in
        let rest = low_under c.0 ts Del xs (subst (Rises c.0) (each_above j (xs ++ (ts, Del) ∷ []) above) r.1) in
        (rest.0, rest.1)
    by go false e r = let le = ltb-false j c.0 e in (omega arith, go r)

-- and those above the mark without the last one rise
front_rises : (j low ts : ℕ) (xs : Steps) → Rises low (steps_above j (xs ++ (ts, Del) ∷ [])) → Rises low (steps_above j xs)
front_rises j low ts [] r = tt
front_rises j low ts (c ∷ xs) r = by (front_rises j c.0 ts xs) (front_rises j low ts xs) (nat_lt j c.0) r
  where
    by : (Rises c.0 (steps_above j (xs ++ (ts, Del) ∷ [])) → Rises c.0 (steps_above j xs)) → (Rises low (steps_above j (xs ++ (ts, Del) ∷ [])) → Rises low (steps_above j xs))
        → (b : Bool) → Rises low (cond b (c ∷ steps_above j (xs ++ (ts, Del) ∷ [])) (steps_above j (xs ++ (ts, Del) ∷ []))) → Rises low (cond b (c ∷ steps_above j xs) (steps_above j xs))
    by up down true k = (k.0, up k.1)
    by up down false k = down k

pub is_led : (j top : ℕ) (h : Hist) (d : DiskRow) → InOrderAt j h.steps → Rises j (steps_above j h.steps) → AllUndone h.steps h.first → j < top → Under top h.steps
    → (o : Option ℕ) → deleted_at h.steps ≡ o → written_by j h o ≡ Some d → AreUndos (before_redos top d.redos) d.undos (Some d.base)
is_led j top h d order rise all lt under None at is =
    let from = came_from (written j h) (after_all h.steps h.first) d is in
    subst (λ (x : DiskRow). AreUndos (before_redos top x.redos) x.undos (Some x.base)) from.2 (written_leads j top h from.0 order rise all from.1 lt under)
is_led j top h d order rise all lt under (Some ts) at is = above (nat_lt j ts) refl is
  where
    front : Hist
    front = before_last h

    ends : h.steps ≡ front.steps ++ (ts, Del) ∷ []
    ends = ends_with h.steps ts at

    above : (b : Bool) → nat_lt j ts ≡ b → cond b (option_map (written_deleted j front ts) (after_all front.steps h.first)) None ≡ Some d → AreUndos (before_redos top d.redos) d.undos (Some d.base)
    above false e k = cc
    above true e k =
        let from = came_from (written_deleted j front ts) (after_all front.steps h.first) d k in
        let up : j < ts = grind (arith, nat_tests) in
        let whole_order = subst (InOrderAt j) ends order in
        let whole_rise = subst (λ (s : Steps). Rises j (steps_above j s)) ends rise in
        subst (λ (x : DiskRow). AreUndos (before_redos top x.redos) x.undos (Some x.base)) from.2
        (written_leads j ts front from.0 (front_order j front.steps ((ts, Del) ∷ []) whole_order) (front_rises j j ts front.steps whole_rise)
        (front_undone front.steps ((ts, Del) ∷ []) h.first (subst (λ (s : Steps). AllUndone s h.first) ends all)) from.1 up (all_under j ts front.steps up whole_rise whole_order))

pub led : a_row_written_leads_back
led j top h d order rise all lt under is = is_led j top h d order rise all lt under (deleted_at h.steps) refl is
