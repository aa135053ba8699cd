-- A store as its files and its changes.
use Rattle.std.proofs.Common.{◌≡◌, ◌<◌, ◌-◌, ℕ, List, [], ◌∷◌, ◌++◌, Some, None, refl, sym, ap, ◌∙◌, subst, arith, cond, true, false, Bool, append_assoc, inl, inr}
use Rattle.std.specs.Prelude.{nat_lt}
use Rattle.std.proofs.lemmas.Bool.{lt-ltb, ltb-false, ne_eqb, eq-eqb}
use Rattle.std.proofs.lemmas.List.{append-nil}
use Rattle.kt_history.specs.declared.change.Change.{Change}
use Rattle.kt_history.specs.declared.operation.RowOp.{RowOp}
use Rattle.kt_history.specs.Rows.{Row, fits}
use Rattle.kt_history.specs.Operations.{effect}
use Rattle.kt_histlaws.specs.Histories.{first_some, AtMostOne}
use Rattle.kt_history.specs.Stores.{Steps, Hist, row_of, step_of, step_at, push}
use Rattle.kt_histlaws.specs.Fitting.{AreSound, AllFit, IfFits, Rises, steps_above}
use Rattle.kt_histlaws.specs.Jobs.{push_all}
use Rattle.kt_content.specs.Places.{Place, memory, same_place, Held, held_in, Moves, joined_in, moved, standing, row_there, row_before, live_in}
use Rattle.kt_content.specs.KeyOps.{KeyOp, may_join, to_live, to_place}
use Rattle.kt_content.specs.Agreement.{all_moved}
use Rattle.kt_content.specs.InMemory.{hist_at, HasPlace}
use Rattle.kt_content.specs.StoreChanges.{moves_to, steps_to, a_store_is_its_files_and_its_changes, a_duplicated_change_fits, the_live_store_has_the_change, kept_moves, other_stores_end_the_same, HasMove, a_move_stands}
use Rattle.kt_content.specs.Publishing.{kept}
use Rattle.kt_content.proofs.MoreOps.{none_in, is_same, place_itself, row_in, live_first, all_before, before_is}
use Rattle.kt_content.proofs.Effects.{there_may_join, there_is_one, same_change}
use Rattle.kt_content.proofs.Publishing.{kept-joined, kept-joined_still}
use Rattle.kt_content.proofs.InMemory.{place_same, place_other, row_there_is, live_unique}
use Rattle.kt_content.proofs.Options.{is_there}

has-joined : (p q : Place) (ts : ℕ) (c : Change) (held : Held) → HasPlace p held → HasPlace p (joined_in q ts c held)
has-joined p q ts c [] h = h
has-joined p q ts c (h ∷ held) has = elim (same_place q h.0) as (λ b. HasPlace p (cond b ((h.0, push ts c h.1) ∷ held) (h ∷ joined_in q ts c held))) [
  | true ↦ has
  | false ↦ elim has [ inl x ↦ inl x | inr y ↦ inr (has-joined p q ts c held y) ]
]

has-moved : (p : Place) (ts : ℕ) (ms : Moves) (held : Held) → HasPlace p held → HasPlace p (moved ts ms held)
has-moved p ts [] held h = h
has-moved p ts (m ∷ ms) held h = has-moved p ts ms (joined_in m.0 ts m.1 held) (has-joined p m.0 ts m.1 held h)

pub push_more : (xs ys : Steps) (h : Hist) → push_all ys (push_all xs h) ≡ push_all (xs ++ ys) h
push_more xs ys h = ap (λ s. record h { steps = s }) (append_assoc h.steps xs ys)

push_none : (h : Hist) → h ≡ push_all [] h
push_none h = ap (λ s. record h { steps = s }) (sym (append-nil h.steps))

at-moved : (p : Place) (ts : ℕ) (ms : Moves) (held : Held) → HasPlace p held → hist_at p (moved ts ms held) ≡ push_all (moves_to p ts ms) (hist_at p held)
at-moved p ts [] held h = push_none (hist_at p held)
at-moved p ts (m ∷ ms) held h =
    at-moved p ts ms (joined_in m.0 ts m.1 held) (has-joined p m.0 ts m.1 held h)
    ∙ elim (same_place p m.0) as (λ b. same_place p m.0 ≡ b → push_all (moves_to p ts ms) (hist_at p (joined_in m.0 ts m.1 held)) ≡ push_all (cond b ((ts, m.1) ∷ moves_to p ts ms) (moves_to p ts ms)) (hist_at p held)) [
      | true ↦ λ e.
          let here : hist_at p (joined_in m.0 ts m.1 held) ≡ push ts m.1 (hist_at p held) = subst (λ (k : Place). hist_at p (joined_in k ts m.1 held) ≡ push ts m.1 (hist_at p held)) (is_same p m.0 e) (place_same p ts m.1 held h) in
          ap (push_all (moves_to p ts ms)) here ∙ push_more ((ts, m.1) ∷ []) (moves_to p ts ms) (hist_at p held)
      | false ↦ λ e. ap (push_all (moves_to p ts ms)) (place_other m.0 p ts m.1 held e)
    ] refl

pub files_and_changes : a_store_is_its_files_and_its_changes
files_and_changes p [] ms held h = push_none (hist_at p held)
files_and_changes p (x ∷ xs) [] held h = push_none (hist_at p held)
files_and_changes p (x ∷ xs) (m ∷ ms) held h =
    files_and_changes p xs ms (moved x.ts m held) (has-moved p x.ts m held h) ∙ ap (push_all (steps_to p xs ms)) (at-moved p x.ts m held h) ∙ push_more (moves_to p x.ts m) (steps_to p xs ms) (hist_at p held)

fits_at : (t : ℕ) (p : Place) (held : Held) → HasPlace p held → AllFit t (held_in held) → IfFits (step_of t (hist_at p held)) (row_of (t - 1) (hist_at p held))
fits_at t p [] h f = absurd h
fits_at t p (x ∷ held) has f = elim (same_place p x.0) as (λ b. same_place p x.0 ≡ b → IfFits (step_of t (cond b x.1 (hist_at p held))) (row_of (t - 1) (cond b x.1 (hist_at p held)))) [
  | true ↦ λ e. f.0
  | false ↦ λ e. fits_at t p held (elim has [ inl y ↦ absurd (let g : true ≡ false = sym y ∙ e in cc) | inr y ↦ y ]) f.1
] refl

-- the row of a store before a change of it, where the change is no insert
row_of_change : (fill : Row) (j ts : ℕ) (p : Place) (op : RowOp) (c : Change) (row : Row) (next : Held) → AreSound j (held_in next) → j < ts → HasPlace p next → step_of ts (hist_at p next) ≡ Some c
    → (effect fill op.kind op.cells (Some row)).0 ≡ Some c → (found : Row) × (row_there p (standing ts next) ≡ Some found)
row_of_change fill j ts p op c row next s lt has is made =
    let fit : fits c (row_of (ts - 1) (hist_at p next)) ≡ true = subst (λ o. IfFits o (row_of (ts - 1) (hist_at p next))) is (fits_at ts p next has (s.fit ts lt)) in
    let found = is_there (row_of (ts - 1) (hist_at p next)) (there_is_one fill op.kind op.cells row c (row_of (ts - 1) (hist_at p next)) made fit) in
    (found.0, row_there_is ts p next ∙ before_is ts (hist_at p next) (omega arith) ∙ found.1)

pub duplicated_fits : a_duplicated_change_fits
duplicated_fits fill j ts p op c row next s lt has is made =
    let found = row_of_change fill j ts p op c row next s lt has is made in
    ap (λ r. may_join p (effect fill op.kind op.cells r).0) found.1 ∙ there_may_join fill op.kind op.cells found.0 p ∙ same_change fill op.kind op.cells found.0 row ∙ made

pub live_has_change : the_live_store_has_the_change
live_has_change fill b ts p op c next whole s lt d has is made nowhere =
    let rows : row_in (live_in (standing ts next)) ≡ row_before ts whole = live_first ts next ∙ ap first_some (all_before ts (held_in next) (omega arith)) ∙ s.shows.rows (ts - 1) (omega arith) ∙ sym (before_is ts whole (omega arith)) in
    elim (row_before ts whole) as (λ o. row_before ts whole ≡ o → (effect fill op.kind op.cells o).0 ≡ Some c → to_live fill op (live_in (standing ts next)) ≡ (p, c) ∷ []) [
      | None ↦ λ e made.
          let none : live_in (standing ts next) ≡ None = none_in (live_in (standing ts next)) (rows ∙ e) in
          ap (to_live fill op) none ∙ ap (to_place memory) made ∙ ap (λ q. (q, c) ∷ []) (sym (nowhere e))
      | Some row ↦ λ e made.
          let found = row_of_change fill b ts p op c row next s.sound lt has is made in
          let live = live_unique ts p found.0 next (subst AtMostOne (sym (all_before ts (held_in next) (omega arith))) (s.shows.one_row (ts - 1) (omega arith))) found.1 in
          ap (to_live fill op) live ∙ ap (to_place p) (same_change fill op.kind op.cells found.0 row ∙ made)
    ] refl made

-- the stores that a job leaves

kept-moved : (keep : Place → Bool) (ts : ℕ) (ms : Moves) (held : Held) → kept keep (moved ts ms held) ≡ moved ts (kept_moves keep ms) (kept keep held)
kept-moved keep ts [] held = refl
kept-moved keep ts (m ∷ ms) held = kept-moved keep ts ms (joined_in m.0 ts m.1 held)
    ∙ elim (keep m.0) as (λ b. keep m.0 ≡ b → moved ts (kept_moves keep ms) (kept keep (joined_in m.0 ts m.1 held)) ≡ moved ts (cond b (m ∷ kept_moves keep ms) (kept_moves keep ms)) (kept keep held)) [
      | true ↦ λ e. ap (moved ts (kept_moves keep ms)) (kept-joined keep m.0 ts m.1 held e)
      | false ↦ λ e. ap (moved ts (kept_moves keep ms)) (kept-joined_still keep m.0 ts m.1 held e)
    ] refl

pub rest_ends : other_stores_end_the_same
rest_ends keep [] ms ns held outputs e s = e
rest_ends keep (x ∷ xs) [] [] held outputs e s = e
rest_ends keep (x ∷ xs) [] (n ∷ ns) held outputs e s = absurd s
rest_ends keep (x ∷ xs) (m ∷ ms) [] held outputs e s = absurd s
rest_ends keep (x ∷ xs) (m ∷ ms) (n ∷ ns) held outputs e s = rest_ends keep xs ms ns (moved x.ts m held) (moved x.ts n outputs)
    (kept-moved keep x.ts n outputs ∙ ap (λ l. moved x.ts l (kept keep outputs)) s.0 ∙ ap (moved x.ts (kept_moves keep m)) e ∙ sym (kept-moved keep x.ts m held)) s.1

-- a change among changes that rise

steps_split : (p : Place) (ts : ℕ) (c : Change) (xs : List KeyOp) (ms : List Moves) → HasMove xs ms ts p c → (front : Steps) × (behind : Steps) × (steps_to p xs ms ≡ front ++ (ts, c) ∷ behind)
steps_split p ts c [] ms h = absurd h
steps_split p ts c (x ∷ xs) [] h = absurd h
steps_split p ts c (x ∷ xs) (m ∷ ms) (inl at) =
    ([], steps_to p xs ms, ap (λ l. moves_to p x.ts l ++ steps_to p xs ms) at.1 ∙ ap (λ b. cond b ((x.ts, c) ∷ []) [] ++ steps_to p xs ms) (place_itself p) ∙ ap (λ t. (t, c) ∷ steps_to p xs ms) at.0)
steps_split p ts c (x ∷ xs) (m ∷ ms) (inr rest) =
    let s = steps_split p ts c xs ms rest in
    (moves_to p x.ts m ++ s.0, s.1, ap (λ l. moves_to p x.ts m ++ l) s.2 ∙ sym (append_assoc (moves_to p x.ts m) s.0 ((ts, c) ∷ s.1)))

low_end : (low j ts : ℕ) (c : Change) (front behind : Steps) → j < ts → Rises low (steps_above j (front ++ (ts, c) ∷ behind)) → low < ts
low_end low j ts c [] behind lt r = (subst (λ b. Rises low (cond b ((ts, c) ∷ steps_above j behind) (steps_above j behind))) (lt-ltb j ts lt) r).0
low_end low j ts c (d ∷ front) behind lt r = elim (nat_lt j d.0) as (λ b. Rises low (cond b (d ∷ steps_above j (front ++ (ts, c) ∷ behind)) (steps_above j (front ++ (ts, c) ∷ behind))) → low < ts) [
  | true ↦ λ r. let up = low_end d.0 j ts c front behind lt r.1 in omega (arith, r.0)
  | false ↦ λ r. low_end low j ts c front behind lt r
] r

first_step : (low j ts : ℕ) (c : Change) (front behind : Steps) → j < ts → Rises low (steps_above j (front ++ (ts, c) ∷ behind)) → step_at ts (front ++ (ts, c) ∷ behind) ≡ Some c
first_step low j ts c [] behind lt r = rw (eq-eqb ts ts refl) refl
first_step low j ts c (d ∷ front) behind lt r = elim (nat_lt j d.0) as (λ b. nat_lt j d.0 ≡ b → Rises low (cond b (d ∷ steps_above j (front ++ (ts, c) ∷ behind)) (steps_above j (front ++ (ts, c) ∷ behind))) → step_at ts (d ∷ (front ++ (ts, c) ∷ behind)) ≡ Some c) [
  | true ↦ λ e r. let up = low_end d.0 j ts c front behind lt r.1 in rw (ne_eqb d.0 ts (λ s. omega arith)) (first_step d.0 j ts c front behind lt r.1)
  | false ↦ λ e r. let down = ltb-false j d.0 e in rw (ne_eqb d.0 ts (λ s. omega arith)) (first_step low j ts c front behind lt r)
] refl r

pub move_stands : a_move_stands
move_stands j ts p c xs ms held has h lt r =
    let s = steps_split p ts c xs ms h in
    let is : (hist_at p (all_moved xs ms held)).steps ≡ ((hist_at p held).steps ++ s.0) ++ (ts, c) ∷ s.1 =
    ap (λ (k : Hist). k.steps) (files_and_changes p xs ms held has) ∙ ap (λ l. (hist_at p held).steps ++ l) s.2 ∙ sym (append_assoc (hist_at p held).steps s.0 ((ts, c) ∷ s.1)) in
    ap (step_at ts) is ∙ first_step j j ts c ((hist_at p held).steps ++ s.0) s.1 lt (subst (λ (l : Steps). Rises j (steps_above j l)) is r)

pub has-all_moved : (p : Place) (xs : List KeyOp) (ms : List Moves) (held : Held) → HasPlace p held → HasPlace p (all_moved xs ms held)
has-all_moved p [] ms held h = h
has-all_moved p (x ∷ xs) [] held h = h
has-all_moved p (x ∷ xs) (m ∷ ms) held h = has-all_moved p xs ms (moved x.ts m held) (has-moved p x.ts m held h)
