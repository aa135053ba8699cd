-- A job's outputs in place of its inputs.
use Rattle.std.proofs.Common.{◌≡◌, ◌≤◌, ◌<◌, ℕ, List, [], ◌∷◌, ◌++◌, Some, None, Option, Ok, refl, sym, ap, ◌∙◌, subst, arith, cond, true, false, Bool, map, inl, inr}
use Rattle.std.specs.Prelude.{not}
use Rattle.std.proofs.lemmas.List.{map-append}
use Rattle.kt_history.specs.declared.change.Change.{Change}
use Rattle.kt_history.specs.declared.operation.RowOp.{RowOp}
use Rattle.kt_history.specs.declared.target.Target.{Target}
use Rattle.kt_history.specs.Rows.{Row}
use Rattle.kt_history.specs.Operations.{effect}
use Rattle.kt_histlaws.specs.Histories.{first_some, AtMostOne, ShowsKey}
use Rattle.kt_history.specs.Stores.{Hist, row_of, step_of, push}
use Rattle.kt_histlaws.specs.Fitting.{AllFit, RiseAbove}
use Rattle.kt_histlaws.proofs.OneKey.{none_left, none_right}
use Rattle.kt_histlaws.proofs.Jobs.{finish_shows}
use Rattle.kt_histlaws.proofs.Fitting.{sound_raised}
use Rattle.kt_content.specs.Places.{Super, Place, Held, Moves, Standing, same_place, row_before, standing, row_there, joined_in, moved, held_in, needed_in}
use Rattle.kt_content.specs.KeyOps.{KeyOp, decided, played, if_fits, to_each, with_move, may_join}
use Rattle.kt_content.specs.Agreement.{all_moved, Agree}
use Rattle.kt_content.specs.Publishing.{kept, gone, AllKept, AllGone, IsCarried, CarriedOver, a_job_in_one_step_carries_over, outputs_show_what_inputs_showed, Carries, AllCarry, a_job_in_two_phases_carries_over}
use Rattle.kt_content.specs.Publishing.Carries.{left_alone, covered, doubled, flies}
use Rattle.kt_content.proofs.Agreement.{agree_plays}
use Rattle.kt_content.proofs.MoreOps.{is_same}
use Rattle.kt_content.proofs.Options.{at_most_of_none}

-- a change of a store that the job leaves, and of one that it does not

module _ (keep : Place → Bool) (p : Place) (ts : ℕ) (c : Change) where
  pub kept-joined : (held : Held) → keep p ≡ true → kept keep (joined_in p ts c held) ≡ joined_in p ts c (kept keep held)
  kept-joined [] k = refl
  kept-joined (h ∷ held) k = elim (same_place p h.0) as (λ b. same_place p h.0 ≡ b
      → kept keep (cond b ((h.0, push ts c h.1) ∷ held) (h ∷ joined_in p ts c held)) ≡ joined_in p ts c (cond (keep h.0) (h ∷ kept keep held) (kept keep held))) [
        | true ↦ λ e. let here : keep h.0 ≡ true = ap keep (sym (is_same p h.0 e)) ∙ k in rw (here, e) refl
        | false ↦ λ e. elim (keep h.0) as (λ b. cond b (h ∷ kept keep (joined_in p ts c held)) (kept keep (joined_in p ts c held)) ≡ joined_in p ts c (cond b (h ∷ kept keep held) (kept keep held))) [
          | true ↦ rw e (ap (λ l. h ∷ l) (kept-joined held k))
          | false ↦ kept-joined held k
        ]
      ] refl

  pub kept-joined_still : (held : Held) → keep p ≡ false → kept keep (joined_in p ts c held) ≡ kept keep held
  kept-joined_still [] k = refl
  kept-joined_still (h ∷ held) k = elim (same_place p h.0) as (λ b. same_place p h.0 ≡ b
      → kept keep (cond b ((h.0, push ts c h.1) ∷ held) (h ∷ joined_in p ts c held)) ≡ cond (keep h.0) (h ∷ kept keep held) (kept keep held)) [
        | true ↦ λ e. let here : keep h.0 ≡ false = ap keep (sym (is_same p h.0 e)) ∙ k in rw here refl
        | false ↦ λ e. ap (λ l. cond (keep h.0) (h ∷ l) l) (kept-joined_still held k)
      ] refl

  pub gone-joined_still : (held : Held) → keep p ≡ true → gone keep (joined_in p ts c held) ≡ gone keep held
  gone-joined_still [] k = refl
  gone-joined_still (h ∷ held) k = elim (same_place p h.0) as (λ b. same_place p h.0 ≡ b
      → gone keep (cond b ((h.0, push ts c h.1) ∷ held) (h ∷ joined_in p ts c held)) ≡ cond (not (keep h.0)) (h ∷ gone keep held) (gone keep held)) [
        | true ↦ λ e. let here : keep h.0 ≡ true = ap keep (sym (is_same p h.0 e)) ∙ k in rw here refl
        | false ↦ λ e. ap (λ l. cond (not (keep h.0)) (h ∷ l) l) (gone-joined_still held k)
      ] refl

-- the row of a store that the job leaves
row-kept : (keep : Place → Bool) (ts : ℕ) (p : Place) (held : Held) → keep p ≡ true → row_there p (standing ts held) ≡ row_there p (standing ts (kept keep held))
row-kept keep ts p [] k = refl
row-kept keep ts p (h ∷ held) k = elim (same_place p h.0) as (λ b. same_place p h.0 ≡ b
    → cond b (row_before ts h.1) (row_there p (standing ts held)) ≡ row_there p (standing ts (cond (keep h.0) (h ∷ kept keep held) (kept keep held)))) [
      | true ↦ λ e. let here : keep h.0 ≡ true = ap keep (sym (is_same p h.0 e)) ∙ k in rw (here, e) refl
      | false ↦ λ e. elim (keep h.0) as (λ b. row_there p (standing ts held) ≡ row_there p (standing ts (cond b (h ∷ kept keep held) (kept keep held)))) [
        | true ↦ rw e (row-kept keep ts p held k)
        | false ↦ row-kept keep ts p held k
      ]
    ] refl

pub same_row : (keep : Place → Bool) (ts : ℕ) (p : Place) (xs ys : Held) → keep p ≡ true → kept keep xs ≡ kept keep ys → row_there p (standing ts xs) ≡ row_there p (standing ts ys)
same_row keep ts p xs ys k e = row-kept keep ts p xs k ∙ ap (λ l. row_there p (standing ts l)) e ∙ sym (row-kept keep ts p ys k)

pub same_moves : (fill : Row) (keep : Place → Bool) (ts : ℕ) (op : RowOp) (xs ys : Held) (places : List Place) → AllKept keep places → kept keep xs ≡ kept keep ys
    → to_each fill op (standing ts xs) places ≡ to_each fill op (standing ts ys) places
same_moves fill keep ts op xs ys [] k e = refl
same_moves fill keep ts op xs ys (p ∷ places) k e =
    ap (λ r. with_move p (may_join p (effect fill op.kind op.cells r).0) (to_each fill op (standing ts xs) places)) (same_row keep ts p xs ys k.0 e)
    ∙ ap (with_move p (may_join p (effect fill op.kind op.cells (row_there p (standing ts ys))).0)) (same_moves fill keep ts op xs ys places k.1 e)

-- the moves are those of the places
abbrev pub AreTo : (Place → Bool) → Bool → Moves → Type 0
AreTo keep b [] = Unit {0}
AreTo keep b (m ∷ ms) = (keep m.0 ≡ b) × AreTo keep b ms

with_one : (keep : Place → Bool) (b : Bool) (p : Place) (o : Option Change) (more : Option Moves) (ms : Moves) → keep p ≡ b → with_move p o more ≡ Some ms → ((rest : Moves) → more ≡ Some rest → AreTo keep b rest) → AreTo keep b ms
with_one keep b p None more ms k e rest = absurd (cc)
with_one keep b p (Some c) None ms k e rest = absurd (cc)
with_one keep b p (Some c) (Some some) ms k e rest = let same : (p, c) ∷ some ≡ ms = cc in subst (AreTo keep b) same (k, rest some refl)

all_kept : (fill : Row) (keep : Place → Bool) (op : RowOp) (rows : Standing) (places : List Place) (ms : Moves) → AllKept keep places → to_each fill op rows places ≡ Some ms → AreTo keep true ms
all_kept fill keep op rows [] ms k e = let same : [] ≡ ms = cc in subst (AreTo keep true) same tt
all_kept fill keep op rows (p ∷ places) ms k e = with_one keep true p (may_join p (effect fill op.kind op.cells (row_there p rows)).0) (to_each fill op rows places) ms k.0 e (λ rest f. all_kept fill keep op rows places rest k.1 f)

pub all_gone : (fill : Row) (keep : Place → Bool) (op : RowOp) (rows : Standing) (places : List Place) (ms : Moves) → AllGone keep places → to_each fill op rows places ≡ Some ms → AreTo keep false ms
all_gone fill keep op rows [] ms k e = let same : [] ≡ ms = cc in subst (AreTo keep false) same tt
all_gone fill keep op rows (p ∷ places) ms k e = with_one keep false p (may_join p (effect fill op.kind op.cells (row_there p rows)).0) (to_each fill op rows places) ms k.0 e (λ rest f. all_gone fill keep op rows places rest k.1 f)

-- moves of stores that the job leaves
module _ (keep : Place → Bool) (ts : ℕ) where
  kept-moved : (ms : Moves) (xs ys : Held) → AreTo keep true ms → kept keep xs ≡ kept keep ys
      → (kept keep (moved ts ms xs) ≡ kept keep (moved ts ms ys)) × (gone keep (moved ts ms xs) ≡ gone keep xs)
  kept-moved [] xs ys k e = (e, refl)
  kept-moved (m ∷ ms) xs ys k e =
      let same : kept keep (joined_in m.0 ts m.1 xs) ≡ kept keep (joined_in m.0 ts m.1 ys) = kept-joined keep m.0 ts m.1 xs k.0 ∙ ap (joined_in m.0 ts m.1) e ∙ sym (kept-joined keep m.0 ts m.1 ys k.0) in
      let rest = kept-moved ms (joined_in m.0 ts m.1 xs) (joined_in m.0 ts m.1 ys) k.1 same in
      (rest.0, rest.1 ∙ gone-joined_still keep m.0 ts m.1 xs k.0)

  kept-moved_still : (ms : Moves) (xs : Held) → AreTo keep false ms → kept keep (moved ts ms xs) ≡ kept keep xs
  kept-moved_still [] xs k = refl
  kept-moved_still (m ∷ ms) xs k = kept-moved_still ms (joined_in m.0 ts m.1 xs) k.1 ∙ kept-joined_still keep m.0 ts m.1 xs k.0

-- a job in one step
pub carries_over : a_job_in_one_step_carries_over
carries_over fill keep old new held final outputs [] carried e h = let same : held ≡ final = cc in record { next = outputs; is = refl; rest = e ∙ ap (kept keep) same; outputs = refl }
carries_over fill keep old new held final outputs (x ∷ xs) carried e h =
    step x.told carried.0
    (elim (decided fill old (standing x.ts held) x.op x.told) as (λ o. decided fill old (standing x.ts held) x.op x.told ≡ o → if_fits x.ts (λ moves. played fill old (moved x.ts moves held) xs) o ≡ Ok final
    → (m : Moves) × (decided fill old (standing x.ts held) x.op x.told ≡ Some m) × (played fill old (moved x.ts m held) xs ≡ Ok final)) [
      | None ↦ λ s h. absurd (cc)
      | Some m ↦ λ s h. (m, s, h)
    ] refl h)
    refl
    (λ m same was. carries_over fill keep old new (moved x.ts m held) final (moved x.ts m outputs) xs carried.1 same was)
    (λ m same was. carries_over fill keep old new (moved x.ts m held) final outputs xs carried.1 same was)
  where
    step : (told : Option (List Target)) → IsCarried keep old new told
        → (m : Moves) × (decided fill old (standing x.ts held) x.op x.told ≡ Some m) × (played fill old (moved x.ts m held) xs ≡ Ok final)
        → x.told ≡ told
        → ((m : Moves) → kept keep (moved x.ts m outputs) ≡ kept keep (moved x.ts m held) → played fill old (moved x.ts m held) xs ≡ Ok final → CarriedOver fill keep new (moved x.ts m outputs) final xs)
        → ((m : Moves) → kept keep outputs ≡ kept keep (moved x.ts m held) → played fill old (moved x.ts m held) xs ≡ Ok final → CarriedOver fill keep new outputs final xs)
        → CarriedOver fill keep new outputs final (x ∷ xs)
    step None carried was is both old_alone = absurd carried
    step (Some targets) (inl k) was is both old_alone =
        let m = was.0 in
        let there : to_each fill x.op (standing x.ts held) (needed_in old targets) ≡ Some m = ap (decided fill old (standing x.ts held) x.op) (sym is) ∙ was.1 in
        let here : decided fill new (standing x.ts outputs) x.op x.told ≡ Some m = ap (decided fill new (standing x.ts outputs) x.op) is ∙ ap (to_each fill x.op (standing x.ts outputs)) k.1
        ∙ same_moves fill keep x.ts x.op outputs held (needed_in old targets) k.0 e ∙ there in
        let went = kept-moved keep x.ts m outputs held (all_kept fill keep x.op (standing x.ts held) (needed_in old targets) m k.0 there) e in
        let rest = both m went.0 was.2 in
        record { next = rest.next; is = ap (if_fits x.ts (λ moves. played fill new (moved x.ts moves outputs) xs)) here ∙ rest.is; rest = rest.rest; outputs = rest.outputs ∙ went.1 }
    step (Some targets) (inr k) was is both old_alone =
        let m = was.0 in
        let there : to_each fill x.op (standing x.ts held) (needed_in old targets) ≡ Some m = ap (decided fill old (standing x.ts held) x.op) (sym is) ∙ was.1 in
        let here : decided fill new (standing x.ts outputs) x.op x.told ≡ Some [] = ap (decided fill new (standing x.ts outputs) x.op) is ∙ ap (to_each fill x.op (standing x.ts outputs)) k.1 in
        let to = all_gone fill keep x.op (standing x.ts held) (needed_in old targets) m k.0 there in
        let rest = old_alone m (e ∙ sym (kept-moved_still keep x.ts m held to)) was.2 in
        record { next = rest.next; is = ap (if_fits x.ts (λ moves. played fill new (moved x.ts moves outputs) xs)) here ∙ rest.is; rest = rest.rest; outputs = rest.outputs }

-- the stores in two parts

abbrev rows_by : {A : Type 0} → (Hist → Option A) → Held → List (Option A)
rows_by f held = map f (held_in held)

none_of_all : {A : Type 0} (x : Option A) (xs ys : List (Option A)) → first_some (xs ++ x ∷ ys) ≡ None → (x ≡ None) × (first_some (xs ++ ys) ≡ None)
none_of_all x [] ys h = (none_left x (first_some ys) h, none_right x (first_some ys) h)
none_of_all x (None ∷ xs) ys h = none_of_all x xs ys h
none_of_all x (Some y ∷ xs) ys h = cc

none_again : {A : Type 0} (xs ys : List (Option A)) → first_some (xs ++ ys) ≡ None → first_some (xs ++ None ∷ ys) ≡ None
none_again [] ys h = h
none_again (None ∷ xs) ys h = none_again xs ys h
none_again (Some y ∷ xs) ys h = cc

moved_first : {A : Type 0} (x : Option A) (xs ys : List (Option A)) → AtMostOne (xs ++ x ∷ ys) → (first_some (x ∷ xs ++ ys) ≡ first_some (xs ++ x ∷ ys)) × AtMostOne (x ∷ xs ++ ys)
moved_first x [] ys one = (refl, one)
moved_first None (None ∷ xs) ys one = moved_first None xs ys one
moved_first (Some v) (None ∷ xs) ys one = moved_first (Some v) xs ys one
moved_first None (Some y ∷ xs) ys one = (refl, (none_of_all None xs ys one).1)
moved_first (Some v) (Some y ∷ xs) ys one = let e : Some v ≡ None = (none_of_all (Some v) xs ys one).0 in cc

moved_back : {A : Type 0} (x : Option A) (xs ys : List (Option A)) → AtMostOne (x ∷ xs ++ ys) → (first_some (xs ++ x ∷ ys) ≡ first_some (x ∷ xs ++ ys)) × AtMostOne (xs ++ x ∷ ys)
moved_back x [] ys one = (refl, one)
moved_back None (None ∷ xs) ys one = moved_back None xs ys one
moved_back (Some v) (None ∷ xs) ys one = moved_back (Some v) xs ys one
moved_back None (Some y ∷ xs) ys one = (refl, none_again xs ys one)
moved_back (Some v) (Some y ∷ xs) ys one = cc

-- one more in front of two lists that have the same first and one at most
one_more : {A : Type 0} (x : Option A) (xs ys : List (Option A)) → ((AtMostOne xs → (first_some ys ≡ first_some xs) × AtMostOne ys)) → AtMostOne (x ∷ xs) → (first_some (x ∷ ys) ≡ first_some (x ∷ xs)) × AtMostOne (x ∷ ys)
one_more None xs ys same one = same one
one_more (Some v) xs ys same one = (refl, (same (at_most_of_none xs one)).0 ∙ one)

module _ {A : Type 0} (f : Hist → Option A) (keep : Place → Bool) where
  abbrev parts : Held → List (Option A)
  parts held = rows_by f (kept keep held) ++ rows_by f (gone keep held)

  parted : (held : Held) → AtMostOne (rows_by f held) → (first_some (parts held) ≡ first_some (rows_by f held)) × AtMostOne (parts held)
  parted [] one = (refl, tt)
  parted (h ∷ held) one =
      let front = one_more (f h.1) (rows_by f held) (parts held) (parted held) one in
      elim (keep h.0) as (λ b. (first_some (rows_by f (cond b (h ∷ kept keep held) (kept keep held)) ++ rows_by f (cond (not b) (h ∷ gone keep held) (gone keep held))) ≡ first_some (rows_by f (h ∷ held)))
      × AtMostOne (rows_by f (cond b (h ∷ kept keep held) (kept keep held)) ++ rows_by f (cond (not b) (h ∷ gone keep held) (gone keep held)))) [
        | true ↦ front
        | false ↦ let back = moved_back (f h.1) (rows_by f (kept keep held)) (rows_by f (gone keep held)) front.1 in (back.0 ∙ front.0, back.1)
      ]

  whole_again : (held : Held) → AtMostOne (parts held) → (first_some (rows_by f held) ≡ first_some (parts held)) × AtMostOne (rows_by f held)
  whole_again [] one = (refl, tt)
  whole_again (h ∷ held) one =
      elim (keep h.0) as (λ b. AtMostOne (rows_by f (cond b (h ∷ kept keep held) (kept keep held)) ++ rows_by f (cond (not b) (h ∷ gone keep held) (gone keep held)))
      → (first_some (rows_by f (h ∷ held)) ≡ first_some (rows_by f (cond b (h ∷ kept keep held) (kept keep held)) ++ rows_by f (cond (not b) (h ∷ gone keep held) (gone keep held)))) × AtMostOne (rows_by f (h ∷ held))) [
        | true ↦ λ one. one_more (f h.1) (parts held) (rows_by f held) (whole_again held) one
        | false ↦ λ one.
            let front = moved_first (f h.1) (rows_by f (kept keep held)) (rows_by f (gone keep held)) one in
            let all = one_more (f h.1) (parts held) (rows_by f held) (whole_again held) front.1 in
            (all.0 ∙ front.0, all.1)
      ] one

shows_parted : (keep : Place → Bool) (a : ℕ) (held : Held) (whole : Hist) → ShowsKey a (held_in held) whole → ShowsKey a (held_in (kept keep held) ++ held_in (gone keep held)) whole
shows_parted keep a held whole s = record {
  rows = λ t le. ap first_some (map-append (row_of t) (held_in (kept keep held)) (held_in (gone keep held))) ∙ (parted (row_of t) keep held (s.one_row t le)).0 ∙ s.rows t le;
  steps = λ t up. ap first_some (map-append (step_of t) (held_in (kept keep held)) (held_in (gone keep held))) ∙ (parted (step_of t) keep held (s.one_step t up)).0 ∙ s.steps t up;
  one_row = λ t le. subst AtMostOne (sym (map-append (row_of t) (held_in (kept keep held)) (held_in (gone keep held)))) (parted (row_of t) keep held (s.one_row t le)).1;
  one_step = λ t up. subst AtMostOne (sym (map-append (step_of t) (held_in (kept keep held)) (held_in (gone keep held)))) (parted (step_of t) keep held (s.one_step t up)).1;
}

shows_whole : (keep : Place → Bool) (a : ℕ) (held : Held) (whole : Hist) → ShowsKey a (held_in (kept keep held) ++ held_in (gone keep held)) whole → ShowsKey a (held_in held) whole
shows_whole keep a held whole s = record {
  rows = λ t le. (whole_again (row_of t) keep held (row_one t le)).0 ∙ ap first_some (sym (map-append (row_of t) (held_in (kept keep held)) (held_in (gone keep held)))) ∙ s.rows t le;
  steps = λ t up. (whole_again (step_of t) keep held (step_one t up)).0 ∙ ap first_some (sym (map-append (step_of t) (held_in (kept keep held)) (held_in (gone keep held)))) ∙ s.steps t up;
  one_row = λ t le. (whole_again (row_of t) keep held (row_one t le)).1;
  one_step = λ t up. (whole_again (step_of t) keep held (step_one t up)).1;
}
  where
    row_one : (t : ℕ) → a ≤ t → AtMostOne (parts (row_of t) keep held)
    row_one t le = subst AtMostOne (map-append (row_of t) (held_in (kept keep held)) (held_in (gone keep held))) (s.one_row t le)

    step_one : (t : ℕ) → a < t → AtMostOne (parts (step_of t) keep held)
    step_one t up = subst AtMostOne (map-append (step_of t) (held_in (kept keep held)) (held_in (gone keep held))) (s.one_step t up)

pub shows_later : (a b : ℕ) (hs : List Hist) (whole : Hist) → a ≤ b → ShowsKey a hs whole → ShowsKey b hs whole
shows_later a b hs whole le s = record { rows = λ t low. s.rows t (omega arith); steps = λ t low. s.steps t (omega arith); one_row = λ t low. s.one_row t (omega arith); one_step = λ t low. s.one_step t (omega arith) }

-- and they are sound where both parts are

fit_kept : (keep : Place → Bool) (t : ℕ) (held : Held) → AllFit t (held_in held) → AllFit t (held_in (kept keep held))
fit_kept keep t [] f = tt
fit_kept keep t (h ∷ held) f = elim (keep h.0) as (λ b. AllFit t (held_in (cond b (h ∷ kept keep held) (kept keep held)))) [ true ↦ (f.0, fit_kept keep t held f.1) | false ↦ fit_kept keep t held f.1 ]

fit_whole : (keep : Place → Bool) (t : ℕ) (held : Held) → AllFit t (held_in (kept keep held)) → AllFit t (held_in (gone keep held)) → AllFit t (held_in held)
fit_whole keep t [] k g = tt
fit_whole keep t (h ∷ held) k g = elim (keep h.0) as (λ b. AllFit t (held_in (cond b (h ∷ kept keep held) (kept keep held))) → AllFit t (held_in (cond (not b) (h ∷ gone keep held) (gone keep held))) → AllFit t (held_in (h ∷ held))) [
  | true ↦ λ k g. (k.0, fit_whole keep t held k.1 g)
  | false ↦ λ k g. (g.0, fit_whole keep t held k g.1)
] k g

rise_kept : (keep : Place → Bool) (a : ℕ) (held : Held) → RiseAbove a (held_in held) → RiseAbove a (held_in (kept keep held))
rise_kept keep a [] f = tt
rise_kept keep a (h ∷ held) f = elim (keep h.0) as (λ b. RiseAbove a (held_in (cond b (h ∷ kept keep held) (kept keep held)))) [ true ↦ (f.0, rise_kept keep a held f.1) | false ↦ rise_kept keep a held f.1 ]

rise_whole : (keep : Place → Bool) (a : ℕ) (held : Held) → RiseAbove a (held_in (kept keep held)) → RiseAbove a (held_in (gone keep held)) → RiseAbove a (held_in held)
rise_whole keep a [] k g = tt
rise_whole keep a (h ∷ held) k g = elim (keep h.0) as (λ b. RiseAbove a (held_in (cond b (h ∷ kept keep held) (kept keep held))) → RiseAbove a (held_in (cond (not b) (h ∷ gone keep held) (gone keep held))) → RiseAbove a (held_in (h ∷ held))) [
  | true ↦ λ k g. (k.0, rise_whole keep a held k.1 g)
  | false ↦ λ k g. (g.0, rise_whole keep a held k g.1)
] k g

pub outputs_show : outputs_show_what_inputs_showed
outputs_show keep a b j final next whole s same alike sound le low =
    let rest : ShowsKey b (held_in (kept keep final) ++ held_in (gone keep final)) whole = shows_later a b (held_in (kept keep final) ++ held_in (gone keep final)) whole le (shows_parted keep a final whole s.shows) in
    let done = finish_shows j b (held_in (kept keep final)) (held_in (gone keep final)) (held_in (gone keep next)) whole rest alike low in
    let were = sound_raised a b (held_in final) le s.sound in
    record {
      shows = shows_whole keep b next whole (subst (λ (l : Held). ShowsKey b (held_in l ++ held_in (gone keep next)) whole) (sym same) done);
      sound = record {
        fit = λ t up. fit_whole keep t next (subst (λ (l : Held). AllFit t (held_in l)) (sym same) (fit_kept keep t final (were.fit t up))) (sound.fit t up);
        rise = rise_whole keep b next (subst (λ (l : Held). RiseAbove b (held_in l)) (sym same) (rise_kept keep b final were.rise)) sound.rise;
      };
    }

-- a job in two phases

one_carries : (fill : Row) (keep : Place → Bool) (old new : Super) (final next : Held) (x : KeyOp) (m n : Moves) → kept keep next ≡ kept keep final → Carries fill keep old new next x m n
    → decided fill old (standing x.ts final) x.op x.told ≡ Some m → decided fill new (standing x.ts next) x.op x.told ≡ Some n
one_carries fill keep old new final next x m n same (left_alone targets is k e now) was =
    ap (decided fill new (standing x.ts next) x.op) is ∙ ap (to_each fill x.op (standing x.ts next)) e ∙ same_moves fill keep x.ts x.op next final (needed_in old targets) k same
    ∙ ap (decided fill old (standing x.ts final) x.op) (sym is) ∙ was ∙ ap Some (sym now)
one_carries fill keep old new final next x m n same (covered targets is e now) was =
    ap (decided fill new (standing x.ts next) x.op) is ∙ ap (to_each fill x.op (standing x.ts next)) e ∙ ap Some (sym now)
one_carries fill keep old new final next x m n same (doubled targets p c is e may now) was =
    ap (decided fill new (standing x.ts next) x.op) is ∙ ap (to_each fill x.op (standing x.ts next)) e ∙ ap (λ o. with_move p o (Some [])) may ∙ ap Some (sym now)
one_carries fill keep old new final next x m n same (flies is now) was = ap (decided fill new (standing x.ts next) x.op) is ∙ ap Some (sym now)

all_carry : (fill : Row) (keep : Place → Bool) (old new : Super) (final next : Held) (xs : List KeyOp) (ms ns : List Moves) → kept keep next ≡ kept keep final → AllCarry fill keep old new next xs ms ns
    → Agree fill old final xs ms → Agree fill new next xs ns
all_carry fill keep old new final next [] [] [] same c a = tt
all_carry fill keep old new final next [] [] (n ∷ ns) same c a = absurd c
all_carry fill keep old new final next [] (m ∷ ms) ns same c a = absurd a
all_carry fill keep old new final next (x ∷ xs) [] ns same c a = absurd a
all_carry fill keep old new final next (x ∷ xs) (m ∷ ms) [] same c a = absurd c
all_carry fill keep old new final next (x ∷ xs) (m ∷ ms) (n ∷ ns) same c a = (one_carries fill keep old new final next x m n same c.0 a.0, all_carry fill keep old new final next xs ms ns same c.1 a.1)

pub two_phases : a_job_in_two_phases_carries_over
two_phases fill keep old new low held final outputs xs ms ns r a c same =
    agree_plays fill new low outputs xs ns r (all_carry fill keep old new final (all_moved xs ns outputs) xs ms ns same c a)
