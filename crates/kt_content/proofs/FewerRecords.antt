-- What a shorter front holds.
use Rattle.std.proofs.Common.{◌≡◌, ◌≤◌, ◌<◌, ◌-◌, ℕ, zero, suc, List, [], ◌∷◌, ◌++◌, Some, None, Option, Ok, Err, refl, sym, ap, ◌∙◌, subst, arith, cond, true, false, map, length, inl, inr}
use Rattle.std.specs.Prelude.{nat_lt}
use Rattle.std.proofs.lemmas.Bool.{cases_lt, cases_eq, lt-ltb, ltb-false, ne_eqb}
use Rattle.std.proofs.lemmas.List.Elements.{filter-append}
use Rattle.kt_history.specs.declared.change.Change.{Change}
use Rattle.kt_history.specs.declared.operation.RowOp.{RowOp}
use Rattle.kt_history.specs.Rows.{Row}
use Rattle.kt_history.specs.Operations.{effect}
use Rattle.kt_histlaws.specs.Histories.{on_nth, first_some, or_else, AtMostOne, ShowsKey}
use Rattle.kt_history.specs.Stores.{Steps, Hist, row_of, step_of, step_at, push, Under}
use Rattle.kt_histlaws.specs.Fitting.{AreSound, AllFit, IfFits, RiseAbove, Rises, steps_above}
use Rattle.kt_histlaws.specs.Flights.{AllUnder}
use Rattle.kt_histlaws.proofs.OneKey.{none_left, none_right, map-on_nth_still, row-push_below, step-push_other, step-push_at, length_map}
use Rattle.kt_histlaws.proofs.Applying.{all_under, none_under, rows-settled, row-settled}
use Rattle.kt_content.specs.Places.{Place, memory, Held, Moves, same_place, row_before, standing, live_in, moved, held_in}
use Rattle.kt_content.specs.KeyOps.{played, to_live, to_place}
use Rattle.kt_content.specs.Content.{Shown}
use Rattle.kt_content.specs.MoreOps.{PlacesDiffer, BeginsInMemory, with_change, with_op, untold}
use Rattle.kt_content.specs.FewerRecords.{an_operation_less_is_shown}
use Rattle.kt_content.proofs.Agreement.{standing-moved}
use Rattle.kt_content.proofs.MoreOps.{played-append, then_played, place_in, row_in, live_is, live_first, all_before, before_is, index_of, joined_is, nth_long, live_at, stay-played}
use Rattle.kt_content.proofs.Options.{at_most_of_none}

-- the last change of a history taken off again

module _ (a ts : ℕ) (c : Change) (lt : a < ts) where
  above_end : (steps : Steps) → steps_above a (steps ++ (ts, c) ∷ []) ≡ steps_above a steps ++ (ts, c) ∷ []
  above_end steps = filter-append (λ (x : ℕ × Change). nat_lt a x.0) steps ((ts, c) ∷ []) ∙ ap (λ b. steps_above a steps ++ cond b ((ts, c) ∷ []) []) (lt-ltb a ts lt)

  rises_before : (low : ℕ) (steps : Steps) → Rises low (steps ++ (ts, c) ∷ []) → Rises low steps × Under ts steps × (low < ts)
  rises_before low [] r = (tt, tt, r.0)
  rises_before low (d ∷ steps) r = let rest = rises_before d.0 steps r.1 in ((r.0, rest.0), (rest.2, rest.1), omega (arith, r.0, rest.2))

  -- below the mark or below the last
  none_at : (steps : Steps) → Under ts (steps_above a steps) → step_at ts steps ≡ None
  none_at [] un = refl
  none_at (d ∷ steps) un = elim (nat_lt a d.0) as (λ b. nat_lt a d.0 ≡ b → Under ts (cond b (d ∷ steps_above a steps) (steps_above a steps)) → step_at ts (d ∷ steps) ≡ None) [
    | true ↦ λ e un. rw (ne_eqb d.0 ts (λ s. omega (arith, un.0))) (none_at steps un.1)
    | false ↦ λ e un. let low = ltb-false a d.0 e in rw (ne_eqb d.0 ts (λ s. omega arith)) (none_at steps un)
  ] refl un

  rise_less : (h : Hist) → Rises a (steps_above a (push ts c h).steps) → Rises a (steps_above a h.steps) × (step_of ts h ≡ None)
  rise_less h r = let parts = rises_before a (steps_above a h.steps) (subst (Rises a) (above_end h.steps) r) in (parts.0, none_at h.steps parts.1)

  rises_less : (i : ℕ) (hs : List Hist) → RiseAbove a (on_nth i (push ts c) hs) → RiseAbove a hs
  rises_less i [] r = tt
  rises_less zero (h ∷ hs) r = ((rise_less h r.0).0, r.1)
  rises_less (suc i) (h ∷ hs) r = (r.0, rises_less i hs r.1)

  some_there : (i : ℕ) (hs : List Hist) → i < length hs → first_some (map (step_of ts) (on_nth i (push ts c) hs)) ≡ None → ⊥
  some_there i [] l e = omega arith
  some_there zero (h ∷ hs) l e = some (step_of ts h) (sym (step-push_at ts c h) ∙ none_left (step_of ts (push ts c h)) (first_some (map (step_of ts) hs)) e)
    where
      some : (o : Option Change) → or_else o (Some c) ≡ None → ⊥
      some None h = cc
      some (Some x) h = cc
  some_there (suc i) (h ∷ hs) l e = some_there i hs (omega arith) (none_right (step_of ts h) (first_some (map (step_of ts) (on_nth i (push ts c) hs))) e)

  none_left_at : (i : ℕ) (hs : List Hist) → i < length hs → RiseAbove a (on_nth i (push ts c) hs) → AtMostOne (map (step_of ts) (on_nth i (push ts c) hs)) → first_some (map (step_of ts) hs) ≡ None
  none_left_at i [] l r one = absurd (omega arith)
  none_left_at zero (h ∷ hs) l r one =
      let none = (rise_less h r.0).1 in
      let is : step_of ts (push ts c h) ≡ Some c = step-push_at ts c h ∙ ap (λ o. or_else o (Some c)) none in
      ap (λ o. or_else o (first_some (map (step_of ts) hs))) none ∙ subst (λ o. AtMostOne (o ∷ map (step_of ts) hs)) is one
  none_left_at (suc i) (h ∷ hs) l r one = elim (step_of ts h) as (λ o. AtMostOne (o ∷ map (step_of ts) (on_nth i (push ts c) hs)) → or_else o (first_some (map (step_of ts) hs)) ≡ None) [
    | None ↦ λ one. none_left_at i hs (omega arith) r.1 one
    | Some x ↦ λ one. absurd (some_there i hs (omega arith) one)
  ] one

  fit_less : (t : ℕ) (h : Hist) → Under ts h.steps → IfFits (step_of t (push ts c h)) (row_of (t - 1) (push ts c h)) → IfFits (step_of t h) (row_of (t - 1) h)
  fit_less t h un f = elim (cases_lt t ts) [
    | inl before ↦ subst (λ o. IfFits o (row_of (t - 1) h)) (step-push_other t ts c h (λ e. omega arith)) (subst (IfFits (step_of t (push ts c h))) (row-push_below (t - 1) ts c h (omega arith)) f)
    | inr from ↦ subst (λ o. IfFits o (row_of (t - 1) h)) (sym (none_under ts t h.steps un from)) tt
  ]

  fits_less : (t i : ℕ) (hs : List Hist) → AllUnder ts hs → AllFit t (on_nth i (push ts c) hs) → AllFit t hs
  fits_less t i [] un f = tt
  fits_less t zero (h ∷ hs) un f = (fit_less t h un.0 f.0, f.1)
  fits_less t (suc i) (h ∷ hs) un f = (f.0, fits_less t i hs un.1 f.1)

module _ (a ts i : ℕ) (c : Change) (hs : List Hist) (whole : Hist) (lt : a < ts) (un : Under ts whole.steps) (long : i < length hs)
    (s : ShowsKey a (on_nth i (push ts c) hs) (push ts c whole)) (sound : AreSound a (on_nth i (push ts c) hs)) where
  other : (t : ℕ) → (ts ≡ t → ⊥) → map (step_of t) (on_nth i (push ts c) hs) ≡ map (step_of t) hs
  other t ne = map-on_nth_still i (push ts c) (step_of t) (λ h. step-push_other t ts c h ne) hs

  below : (t : ℕ) → t < ts → map (row_of t) (on_nth i (push ts c) hs) ≡ map (row_of t) hs
  below t before = map-on_nth_still i (push ts c) (row_of t) (λ h. row-push_below t ts c h before) hs

  none_here : first_some (map (step_of ts) hs) ≡ None
  none_here = none_left_at a ts c lt i hs long sound.rise (s.one_step ts lt)

  none_from : (t : ℕ) → ts ≤ t → first_some (map (step_of t) hs) ≡ None
  none_from t le = elim (cases_eq ts t) [
    | inl same ↦ subst (λ u. first_some (map (step_of u) hs) ≡ None) same none_here
    | inr ne ↦ ap first_some (sym (other t ne)) ∙ s.steps t (omega arith) ∙ step-push_other t ts c whole ne ∙ none_under ts t whole.steps un le
  ]

  all_below : AllUnder ts hs
  all_below = all_under ts hs none_from

  rows_below : (t : ℕ) → a ≤ t → t < ts → (first_some (map (row_of t) hs) ≡ row_of t whole) × AtMostOne (map (row_of t) hs)
  rows_below t le before = (ap first_some (sym (below t before)) ∙ s.rows t le ∙ row-push_below t ts c whole before, subst AtMostOne (below t before) (s.one_row t le))

  rows_at : (t : ℕ) → a ≤ t → (first_some (map (row_of t) hs) ≡ row_of t whole) × AtMostOne (map (row_of t) hs)
  rows_at t le = elim (cases_lt t ts) [
    | inl before ↦ rows_below t le before
    | inr from ↦
        let settled : map (row_of (ts - 1)) hs ≡ map (row_of t) hs = rows-settled ts (ts - 1) t hs all_below (omega arith) (omega arith) in
        let was = rows_below (ts - 1) (omega arith) (omega arith) in
        (ap first_some (sym settled) ∙ was.0 ∙ row-settled ts (ts - 1) t whole.steps whole.first un (omega arith) (omega arith), subst AtMostOne settled was.1)
  ]

  pub shows_less : ShowsKey a hs whole
  shows_less = record {
    rows = λ t le. (rows_at t le).0;
    steps = λ t up. elim (cases_eq ts t) [
      | inl same ↦ subst (λ u. first_some (map (step_of u) hs) ≡ step_of u whole) same (none_here ∙ sym (none_under ts ts whole.steps un (omega arith)))
      | inr ne ↦ ap first_some (sym (other t ne)) ∙ s.steps t up ∙ step-push_other t ts c whole ne
    ];
    one_row = λ t le. (rows_at t le).1;
    one_step = λ t up. elim (cases_eq ts t) [
      | inl same ↦ subst (λ u. AtMostOne (map (step_of u) hs)) same (at_most_of_none (map (step_of ts) hs) none_here)
      | inr ne ↦ subst AtMostOne (other t ne) (s.one_step t up)
    ];
  }

  pub sound_less : AreSound a hs
  sound_less = record { fit = λ t up. fits_less a ts c lt t i hs all_below (sound.fit t up); rise = rises_less a ts c lt i hs sound.rise }

-- an operation less

module _ (fill : Row) (a ts : ℕ) (final : Held) (whole : Hist) (op : RowOp) (d : PlacesDiffer final) (b : BeginsInMemory final) (un : Under ts whole.steps) (lt : a < ts) where
  abbrev live : Option (Place × Row)
  live = live_in (standing ts final)

  abbrev next : Held
  next = moved ts (to_live fill op live) final

  module _ (s : Shown a next (with_op fill ts op whole)) where
    was_below : (o : Option Change) → row_of (ts - 1) (with_change ts o whole) ≡ row_of (ts - 1) whole
    was_below None = refl
    was_below (Some c) = row-push_below (ts - 1) ts c whole (omega arith)

    row_is : row_in live ≡ row_before ts whole
    row_is = ap (λ l. row_in (live_in l)) (sym (standing-moved ts ts (to_live fill op live) final (omega arith))) ∙ live_first ts next ∙ ap first_some (all_before ts (held_in next) (omega arith)) ∙ s.shows.rows (ts - 1) (omega arith)
        ∙ was_below (effect fill op.kind op.cells (row_before ts whole)).0 ∙ sym (before_is ts whole (omega arith))

    begins : (f : Held) → BeginsInMemory f → (0 < length (held_in f)) × (index_of memory f ≡ 0)
    begins [] b = absurd b
    begins (h ∷ f) b = (omega arith, subst (λ p. cond (same_place memory p) 0 (suc (index_of memory f)) ≡ 0) (sym b) refl)

    long : (o : Option (Place × Row)) → live ≡ o → index_of (place_in o) final < length (held_in final)
    long None e = let f = begins final b in subst (λ i. i < length (held_in final)) (sym f.1) f.0
    long (Some at) e = subst (λ n. index_of at.0 final < n) (length_map (row_before ts) (held_in final)) (nth_long (index_of at.0 final) at.1 (map (row_before ts) (held_in final)) (live_at ts at.0 at.1 final d e))

    moves : to_live fill op live ≡ to_place (place_in live) (effect fill op.kind op.cells (row_before ts whole)).0
    moves = live_is fill op live ∙ ap (λ r. to_place (place_in live) (effect fill op.kind op.cells r).0) row_is

    pub shown_less : Shown a final whole
    shown_less = elim (effect fill op.kind op.cells (row_before ts whole)).0 as (λ o. Shown a (moved ts (to_place (place_in live) o) final) (with_change ts o whole) → Shown a final whole) [
      | None ↦ λ s. s
      | Some c ↦ λ s.
          let i = index_of (place_in live) final in
          let same = joined_is (place_in live) ts c final in
          let shows = subst (λ (l : List Hist). ShowsKey a l (push ts c whole)) same s.shows in
          let sound = subst (λ (l : List Hist). AreSound a l) same s.sound in
          record { shows = shows_less a ts i c (held_in final) whole lt un (long live refl) shows sound; sound = sound_less a ts i c (held_in final) whole lt un (long live refl) shows sound }
    ] (subst (λ (m : Moves). Shown a (moved ts m final) (with_op fill ts op whole)) moves s)

pub operation_less : an_operation_less_is_shown
operation_less fill super a ts held next whole xs op d b h s un lt =
    elim (played fill super held xs) as (λ r. played fill super held xs ≡ r → then_played fill super (untold ts op ∷ []) r ≡ Ok next → (final : Held) × (r ≡ Ok final) × Shown a final whole) [
      | Err t ↦ λ e h. absurd (cc)
      | Ok final ↦ λ e h.
          let stay = stay-played fill super held final xs d b e in
          let made : moved ts (to_live fill op (live_in (standing ts final))) final ≡ next = cc in
          (final, refl, shown_less fill a ts final whole op stay.0 stay.1 un lt (subst (λ (n : Held). Shown a n (with_op fill ts op whole)) (sym made) s))
    ] refl (sym (played-append fill super held xs (untold ts op ∷ [])) ∙ h)
