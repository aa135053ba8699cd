-- What came since a job read its stores.
use Rattle.std.proofs.Common.{◌≡◌, ◌≤◌, ◌<◌, ◌⊎◌, ℕ, zero, suc, Bool, true, false, cond, List, [], ◌∷◌, ◌++◌, map, length, Option, Some, None, inl, inr, refl, sym, ap, ◌∙◌, subst, arith, append_assoc}
use Rattle.std.specs.Prelude.{nat_lt, is_some}
use Rattle.std.proofs.lemmas.Bool.{le-ltb, le-leb}
use Rattle.std.proofs.lemmas.List.{append-nil}
use Rattle.std.proofs.lemmas.List.Elements.{filter-append}
use Rattle.kt_history.specs.declared.change.Change.{Change}
use Rattle.kt_history.specs.Rows.{Row, apply}
use Rattle.kt_history.specs.Stores.{Steps, Hist, Under, after_steps, apply_all, row_of, last_row, step_of, push, never}
use Rattle.kt_histlaws.specs.Fitting.{AreSound, Rises, steps_above}
use Rattle.kt_histlaws.specs.Flights.{AllUnder}
use Rattle.kt_histlaws.specs.Histories.{on_nth, nth_option, or_else, first_some, AtMostOne, Alone}
use Rattle.kt_histlaws.specs.Jobs.{AreAlike, push_all}
use Rattle.kt_histlaws.proofs.Applying.{none_under, all_under, rows-settled}
use Rattle.kt_histlaws.proofs.OneKey.{none_left, none_right, alone_of_one, length_map}
use Rattle.kt_rowfiles.specs.Files.{DiskRowset, row_under, put_rising, rising, row_with, hist_in_files}
use Rattle.kt_rowfiles.specs.Merging.{all_above, joined_history}
use Rattle.kt_rowfiles.proofs.Options.{at_most_rest}
use Rattle.kt_content.specs.MissedChanges.{is_insert, FitInTurn, PutIn}
use Rattle.kt_content.specs.MissedChanges.PutIn.{nothing, changes}
use Rattle.kt_content.specs.Rules.{Rules, ChangePasses, StepsPass, HistPasses}
use Rattle.kt_content.proofs.MissedChanges.{put_in}
use Rattle.kt_diskrowset.specs.declared.data.RowSetData.{RowSetData}
use Rattle.kt_diskrowset.specs.Data.{files_in}
use Rattle.kt_merge.specs.Late.{late_of, push_there, hist_with, late_in, AllTellLate}
use Rattle.kt_merge.proofs.LateTold.{in_memory}
use Rattle.kt_merge.proofs.Written.{each_above}
use Rattle.kt_joblaws.specs.Apart.{AreApart}
use Rattle.kt_joblaws.specs.Late.{HasLater, AllHaveLater, what_was_read_has_nothing_later, a_change_comes_later, late_changes_are_apart, late_changes_make_alike, late_changes_pass, hists_now, hists_written, late_outputs_are_alike, a_late_output_passes}
use Rattle.kt_joblaws.proofs.Joined.{rises_above}
use Rattle.kt_joblaws.proofs.Later.{above_twice}
use Rattle.kt_joblaws.proofs.Passing.{steps_front, steps_behind}

-- ---- a change more

pub nothing_later : what_was_read_has_nothing_later
nothing_later bound [] = tt
nothing_later bound (h ∷ hs) = (record { late = []; is = ap (λ (s : Steps). record h { steps = s }) (sym (append-nil h.steps)); above = tt; fit = tt }, nothing_later bound hs)

under_behind : (ts : ℕ) (xs ys : Steps) → Under ts (xs ++ ys) → Under ts ys
under_behind ts [] ys u = u
under_behind ts (x ∷ xs) ys u = under_behind ts xs ys u.1

rises_more : (low ts : ℕ) (c : Change) (steps : Steps) → Rises low steps → Under ts steps → low < ts → Rises low (steps ++ (ts, c) ∷ [])
rises_more low ts c [] r u lt = (lt, tt)
rises_more low ts c (x ∷ steps) r u lt = (r.0, rises_more x.0 ts c steps r.1 u.1 u.0)

fit_more : (ts : ℕ) (c : Change) (late : Steps) (row : Option Row) → FitInTurn late row → is_insert c ≡ false → is_some (apply_all late row) ≡ true → FitInTurn (late ++ (ts, c) ∷ []) row
fit_more ts c [] row fit no_insert there = (no_insert, there, tt)
fit_more ts c (x ∷ late) row fit no_insert there = (fit.0, fit.1, fit_more ts c late (apply x.1 row) fit.2 no_insert there)

all_apply : (xs ys : Steps) (row : Option Row) → apply_all (xs ++ ys) row ≡ apply_all ys (apply_all xs row)
all_apply [] ys row = refl
all_apply (x ∷ xs) ys row = all_apply xs ys (apply x.1 row)

one_more : (bound ts : ℕ) (c : Change) (was now : Hist) → bound < ts → Under ts now.steps → is_insert c ≡ false → is_some (last_row now) ≡ true → HasLater bound was now → HasLater bound was (push ts c now)
one_more bound ts c was now lt under no_insert there l =
    let below : Under ts l.late = under_behind ts was.steps l.late (subst (λ (h : Hist). Under ts h.steps) l.is under) in
    let last : last_row now ≡ apply_all l.late (last_row was) = ap last_row l.is ∙ all_apply was.steps l.late was.first in
    record {
      late = l.late ++ (ts, c) ∷ [];
      is = ap (push ts c) l.is ∙ ap (λ (s : Steps). record was { steps = s }) (append_assoc was.steps l.late ((ts, c) ∷ []));
      above = rises_more bound ts c l.late l.above below lt;
      fit = fit_more ts c l.late (last_row was) l.fit no_insert (sym (ap is_some last) ∙ there);
    }

pub comes_later : a_change_comes_later
comes_later bound ts i c [] [] lt under no_insert there has = has
comes_later bound ts i c [] (n ∷ now) lt under no_insert there has = absurd has
comes_later bound ts i c (w ∷ was) [] lt under no_insert there has = absurd has
comes_later bound ts zero c (w ∷ was) (n ∷ now) lt under no_insert there has = (one_more bound ts c w n lt under.0 no_insert there has.0, has.1)
comes_later bound ts (suc i) c (w ∷ was) (n ∷ now) lt under no_insert there has = (has.0, comes_later bound ts i c was now lt under.1 no_insert there has.1)

-- ---- lists of options

or_none : {A : Type 0} (x : Option A) → or_else x None ≡ x
or_none None = refl
or_none (Some x) = refl

rest_none : {A : Type 0} (x : Option A) (xs : List (Option A)) → AtMostOne (x ∷ xs) → is_some x ≡ true → first_some xs ≡ None
rest_none None xs one there = absurd (cc)
rest_none (Some x) xs one there = one

some_there : {A : Type 0} (i : ℕ) (xs : List (Option A)) → is_some (nth_option i xs) ≡ true → first_some xs ≡ None → ⊥
some_there i [] s h = cc
some_there zero (None ∷ xs) s h = cc
some_there zero (Some x ∷ xs) s h = cc
some_there (suc i) (x ∷ xs) s h = some_there i xs s (none_right x (first_some xs) h)

first_none : {A : Type 0} (i : ℕ) (x : Option A) (xs : List (Option A)) → AtMostOne (x ∷ xs) → is_some (nth_option i xs) ≡ true → x ≡ None
first_none i None xs one s = refl
first_none i (Some x) xs one s = absurd (some_there i xs s one)

first_there : {A : Type 0} (i : ℕ) (xs : List (Option A)) → is_some (nth_option i xs) ≡ true → is_some (first_some xs) ≡ true
first_there i [] s = absurd (cc)
first_there zero (None ∷ xs) s = absurd (cc)
first_there zero (Some x ∷ xs) s = refl
first_there (suc i) (None ∷ xs) s = first_there i xs s
first_there (suc i) (Some x ∷ xs) s = refl

-- where one is there it has a place
pub record IsAt {A : Type 0} (xs : List (Option A)) : Type 0 where
  pub place : ℕ
  pub inside : place < length xs
  pub there : is_some (nth_option place xs) ≡ true

place_of : {A : Type 0} (xs : List (Option A)) → is_some (first_some xs) ≡ true → IsAt xs
place_of [] s = absurd (cc)
place_of (None ∷ xs) s = let rest = place_of xs s in let in_rest = rest.inside in record { place = suc rest.place; inside = omega arith; there = rest.there }
place_of (Some x ∷ xs) s = record { place = zero; inside = omega arith; there = refl }

-- ---- one store at most has what came later

none_above : (bound : ℕ) (steps : Steps) → Under (suc bound) steps → steps_above bound steps ≡ []
none_above bound [] u = refl
none_above bound (c ∷ steps) u = ap (λ (b : Bool). cond b (c ∷ steps_above bound steps) (steps_above bound steps)) (le-ltb bound c.0 (omega (arith, u.0))) ∙ none_above bound steps u.1

above_is : (bound : ℕ) (was now : Hist) → Under (suc bound) was.steps → (l : HasLater bound was now) → steps_above bound now.steps ≡ l.late
above_is bound was now u l =
    ap (λ (h : Hist). steps_above bound h.steps) l.is
    ∙ filter-append (λ (c : ℕ × Change). nat_lt bound c.0) was.steps l.late
    ∙ ap (λ (s : Steps). s ++ steps_above bound l.late) (none_above bound was.steps u)
    ∙ each_above bound l.late (rises_above bound l.late l.above)

-- as it was read, the row at the bound is the last one
last_at : (bound : ℕ) (steps : Steps) (row : Option Row) → Under (suc bound) steps → after_steps bound steps row ≡ apply_all steps row
last_at bound [] row u = refl
last_at bound (c ∷ steps) row u = ap (λ (b : Bool). after_steps bound steps (cond b (apply c.1 row) row)) (le-leb c.0 bound (omega (arith, u.0))) ∙ last_at bound steps (apply c.1 row) u.1

no_late : (bound : ℕ) (was now : Hist) (l : HasLater bound was now) → l.late ≡ [] → now ≡ was
no_late bound was now l e = l.is ∙ ap (λ (s : Steps). push_all s was) e ∙ ap (λ (s : Steps). record was { steps = s }) (append-nil was.steps)

-- nothing came, or it came to one store, which has the row at the bound
pub data OneLate (bound : ℕ) (was now : List Hist) : Type 0 where
  unchanged : now ≡ was → all_above bound now ≡ [] → OneLate bound was now
  at_one : (i : ℕ) (late : Steps) → i < length was → Rises bound late → is_some (nth_option i (map (row_of bound) was)) ≡ true → FitInTurn late (first_some (map (row_of bound) was))
      → now ≡ on_nth i (push_all late) was → all_above bound now ≡ late → OneLate bound was now

pub one_late : (bound : ℕ) (was now : List Hist) → AtMostOne (map (row_of bound) was) → AllUnder (suc bound) was → AllHaveLater bound was now → OneLate bound was now
one_late bound [] [] one under has = unchanged refl refl
one_late bound [] (n ∷ now) one under has = absurd has
one_late bound (w ∷ was) [] one under has = absurd has
one_late bound (w ∷ was) (n ∷ now) one under has = by has.0.late refl (one_late bound was now (at_most_rest (row_of bound w) (map (row_of bound) was) one) under.1 has.1)
  where
    head : (late : Steps) → has.0.late ≡ late → steps_above bound n.steps ≡ late
    head late e = above_is bound w n under.0 has.0 ∙ e

    by : (late : Steps) → has.0.late ≡ late → OneLate bound was now → OneLate bound (w ∷ was) (n ∷ now)
    by [] e (unchanged same none) =
        unchanged (ap (λ (h : Hist). h ∷ now) (no_late bound w n has.0 e) ∙ ap (λ (l : List Hist). w ∷ l) same)
        (ap (λ (s : Steps). s ++ all_above bound now) (head [] e) ∙ none)
    by [] e (at_one i late lt rise there fit is all) =
        let none : row_of bound w ≡ None = first_none i (row_of bound w) (map (row_of bound) was) one there in
        at_one (suc i) late (omega arith) rise there (subst (FitInTurn late) (sym (ap (λ (o : Option Row). or_else o (first_some (map (row_of bound) was))) none)) fit)
        (ap (λ (h : Hist). h ∷ now) (no_late bound w n has.0 e) ∙ ap (λ (l : List Hist). w ∷ l) is)
        (ap (λ (s : Steps). s ++ all_above bound now) (head [] e) ∙ all)
    by (c ∷ more) e (unchanged same none) =
        let settled : row_of bound w ≡ last_row w = last_at bound w.steps w.first under.0 in
        let fits : FitInTurn (c ∷ more) (row_of bound w) = subst (FitInTurn (c ∷ more)) (sym settled) (subst (λ (s : Steps). FitInTurn s (last_row w)) e has.0.fit) in
        let only : first_some (map (row_of bound) (w ∷ was)) ≡ row_of bound w = ap (or_else (row_of bound w)) (rest_none (row_of bound w) (map (row_of bound) was) one fits.1) ∙ or_none (row_of bound w) in
        at_one zero (c ∷ more) (omega arith) (subst (Rises bound) e has.0.above) fits.1 (subst (FitInTurn (c ∷ more)) (sym only) fits)
        (ap (λ (h : Hist). h ∷ now) (has.0.is ∙ ap (λ (s : Steps). push_all s w) e) ∙ ap (λ (l : List Hist). push_all (c ∷ more) w ∷ l) same)
        (ap (λ (s : Steps). s ++ all_above bound now) (head (c ∷ more) e) ∙ ap (λ (s : Steps). (c ∷ more) ++ s) none ∙ append-nil (c ∷ more))
    by (c ∷ more) e (at_one i late lt rise there fit is all) =
        let settled : row_of bound w ≡ last_row w = last_at bound w.steps w.first under.0 in
        let fits : FitInTurn (c ∷ more) (last_row w) = subst (λ (s : Steps). FitInTurn s (last_row w)) e has.0.fit in
        absurd (some_there i (map (row_of bound) was) there (rest_none (row_of bound w) (map (row_of bound) was) one (ap is_some settled ∙ fits.1)))

-- ---- the stores as they were read, from the bound on

pub no_step : (ts t : ℕ) (hs : List Hist) → AllUnder ts hs → ts ≤ t → first_some (map (step_of t) hs) ≡ None
no_step ts t [] u le = refl
no_step ts t (h ∷ hs) u le = ap (λ (o : Option Change). or_else o (first_some (map (step_of t) hs))) (none_under ts t h.steps u.0 le) ∙ no_step ts t hs u.1 le

alone_from : (bound i : ℕ) (hs : List Hist) → AllUnder (suc bound) hs → AtMostOne (map (row_of bound) hs) → is_some (nth_option i (map (row_of bound) hs)) ≡ true → (t : ℕ) → bound < t → Alone i (map (row_of t) hs)
alone_from bound i hs u one there t lt = subst (Alone i) (rows-settled (suc bound) bound t hs u (omega arith) (omega arith)) (alone_of_one i (map (row_of bound) hs) one there)

pub late_apart : late_changes_are_apart
late_apart j bound was now le apart under has = both (one_late bound was now (apart.one_row bound le) under has)
  where
    itself : AreAlike j was was
    itself = record { rows = λ t from. refl; steps = λ t up. refl; one_row = apart.one_row; one_step = apart.one_step }

    put : OneLate bound was now → PutIn bound was was now now
    put (unchanged same none) = nothing same same
    put (at_one i late lt rise there fit is all) =
        let alone = alone_from bound i was under (apart.one_row bound le) there in
        changes late i i rise lt lt alone alone (λ t up. no_step (suc bound) t was under (omega arith)) under fit is is

    both : OneLate bound was now → AreApart j now
    both one = let now_both = put_in j bound was was now now le itself apart.sound (put one) in record { one_row = now_both.0.one_row; one_step = now_both.0.one_step; sound = now_both.1 }

-- ---- the outputs with what came later

none_pushed : (q : List ℕ) (o : Option (ℕ × Row)) (h : Hist) → push_there [] o h ≡ h
none_pushed q None h = refl
none_pushed q (Some found) h = ap (λ (s : Steps). record h { steps = s }) (append-nil h.steps)

with_nothing : (q : List ℕ) (ds : List DiskRowset) → map (hist_with q []) ds ≡ map (hist_in_files q) ds
with_nothing q [] = refl
with_nothing q (d ∷ ds) = ap (λ (h : Hist). h ∷ map (hist_with q []) ds) (none_pushed q (row_under q 0 d.base) (hist_in_files q d)) ∙ ap (λ (l : List Hist). hist_in_files q d ∷ l) (with_nothing q ds)

abbrev found_in : List ℕ → DiskRowset → Option (ℕ × Row)
found_in q d = row_under q 0 d.base

not_there : (q : List ℕ) (late : Steps) (d : DiskRowset) → found_in q d ≡ None → hist_with q late d ≡ hist_in_files q d
not_there q late d e = ap (λ (o : Option (ℕ × Row)). push_there late o (hist_in_files q d)) e

with_none : (q : List ℕ) (late : Steps) (ds : List DiskRowset) → first_some (map (found_in q) ds) ≡ None → map (hist_with q late) ds ≡ map (hist_in_files q) ds
with_none q late [] e = refl
with_none q late (d ∷ ds) e =
    ap (λ (h : Hist). h ∷ map (hist_with q late) ds) (not_there q late d (none_left (found_in q d) (first_some (map (found_in q) ds)) e))
    ∙ ap (λ (l : List Hist). hist_in_files q d ∷ l) (with_none q late ds (none_right (found_in q d) (first_some (map (found_in q) ds)) e))

pushed_there : (late : Steps) (o : Option (ℕ × Row)) (h : Hist) → is_some o ≡ true → push_there late o h ≡ push_all late h
pushed_there late None h there = absurd (cc)
pushed_there late (Some found) h there = refl

with_one : (q : List ℕ) (late : Steps) (k : ℕ) (ds : List DiskRowset) → Alone k (map (found_in q) ds) → is_some (nth_option k (map (found_in q) ds)) ≡ true → map (hist_with q late) ds ≡ on_nth k (push_all late) (map (hist_in_files q) ds)
with_one q late k [] alone there = absurd alone
with_one q late zero (d ∷ ds) alone there =
    ap (λ (h : Hist). h ∷ map (hist_with q late) ds) (pushed_there late (found_in q d) (hist_in_files q d) there)
    ∙ ap (λ (l : List Hist). push_all late (hist_in_files q d) ∷ l) (with_none q late ds alone)
with_one q late (suc k) (d ∷ ds) alone there =
    ap (λ (h : Hist). h ∷ map (hist_with q late) ds) (not_there q late d alone.0)
    ∙ ap (λ (l : List Hist). hist_in_files q d ∷ l) (with_one q late k ds alone.1 there)

-- a disk rowset that has the row has the key
has_key : (bound : ℕ) (d : DiskRowset) (o : Option (ℕ × Row)) → is_some (row_of bound (row_with d o)) ≡ true → is_some o ≡ true
has_key bound d None there = absurd (cc)
has_key bound d (Some found) there = refl

key_there : (bound k : ℕ) (q : List ℕ) (ds : List DiskRowset) → is_some (nth_option k (map (row_of bound) (map (hist_in_files q) ds))) ≡ true → is_some (nth_option k (map (found_in q) ds)) ≡ true
key_there bound k q [] there = absurd (cc)
key_there bound zero q (d ∷ ds) there = has_key bound d (found_in q d) there
key_there bound (suc k) q (d ∷ ds) there = key_there bound k q ds there

-- changes that rise stand in their order
put_first : (x : ℕ × Change) (ys : Steps) → Rises x.0 ys → put_rising x ys ≡ x ∷ ys
put_first x [] r = refl
put_first x (y ∷ ys) r = ap (λ (b : Bool). cond b (y ∷ put_rising x ys) (x ∷ y ∷ ys)) (le-ltb y.0 x.0 (omega (arith, r.0)))

in_order : (low : ℕ) (ys : Steps) → Rises low ys → rising ys ≡ ys
in_order low [] r = refl
in_order low (y ∷ ys) r = ap (put_rising y) (in_order y.0 ys r.1) ∙ put_first y ys r.1

pub late_alike : late_changes_make_alike
late_alike j bound q was now outputs le apart under has once alike sound = put_in j bound was outs now (map (hist_with q (late_of bound now)) outputs) le alike sound (put (one_late bound was now (apart.one_row bound le) under has))
  where
    outs : List Hist
    outs = map (hist_in_files q) outputs

    -- the outputs have nothing above the bound either
    outs_under : AllUnder (suc bound) outs
    outs_under = all_under (suc bound) outs (λ t up. sym (alike.steps t (omega arith)) ∙ no_step (suc bound) t was under up)

    with_late : (late : Steps) → late_of bound now ≡ late → map (hist_with q (late_of bound now)) outputs ≡ map (hist_with q late) outputs
    with_late late e = ap (λ (s : Steps). map (hist_with q s) outputs) e

    put : OneLate bound was now → PutIn bound was outs now (map (hist_with q (late_of bound now)) outputs)
    put (unchanged same none) = nothing same (with_late [] (ap rising none) ∙ with_nothing q outputs)
    put (at_one i late lt rise there fit is all) =
        let row : first_some (map (row_of bound) was) ≡ first_some (map (row_of bound) outs) = alike.rows bound le in
        let at = place_of (map (row_of bound) outs) (sym (ap is_some row) ∙ first_there i (map (row_of bound) was) there) in
        let key = key_there bound at.place q outputs at.there in
        changes late i at.place rise lt (subst (λ (n : ℕ). at.place < n) (length_map (row_of bound) outs) at.inside)
        (alone_from bound i was under (apart.one_row bound le) there) (alone_from bound at.place outs outs_under (alike.one_row bound le) at.there)
        (λ t up. no_step (suc bound) t was under (omega arith)) outs_under (subst (FitInTurn late) row fit) is
        (with_late late (ap rising all ∙ in_order bound late rise) ∙ with_one q late at.place outputs (alone_of_one at.place (map (found_in q) outputs) once key) key)

-- ---- it passes

module _ (rules : Rules) where
  both_pass : (xs ys : Steps) → StepsPass rules xs → StepsPass rules ys → StepsPass rules (xs ++ ys)
  both_pass [] ys p r = r
  both_pass (x ∷ xs) ys p r = (p.0, both_pass xs ys p.1 r)

  put_passes : (x : ℕ × Change) (ys : Steps) → ChangePasses rules x.1 → StepsPass rules ys → StepsPass rules (put_rising x ys)
  put_passes x [] c p = (c, tt)
  put_passes x (y ∷ ys) c p = by (nat_lt y.0 x.0) (put_passes x ys c p.1)
    where
      by : (b : Bool) → StepsPass rules (put_rising x ys) → StepsPass rules (cond b (y ∷ put_rising x ys) (x ∷ y ∷ ys))
      by true rest = (p.0, rest)
      by false rest = (c, p)

  put_passed : (x : ℕ × Change) (ys : Steps) → StepsPass rules (put_rising x ys) → ChangePasses rules x.1 × StepsPass rules ys
  put_passed x [] p = (p.0, tt)
  put_passed x (y ∷ ys) p = by (nat_lt y.0 x.0) p (put_passed x ys)
    where
      by : (b : Bool) → StepsPass rules (cond b (y ∷ put_rising x ys) (x ∷ y ∷ ys)) → (StepsPass rules (put_rising x ys) → ChangePasses rules x.1 × StepsPass rules ys) → ChangePasses rules x.1 × StepsPass rules (y ∷ ys)
      by true p rest = let more = rest p.1 in (more.0, (p.0, more.1))
      by false p rest = (p.0, p.1)

  pub rising_passes : (steps : Steps) → StepsPass rules steps → StepsPass rules (rising steps)
  rising_passes [] p = tt
  rising_passes (x ∷ steps) p = put_passes x (rising steps) p.0 (rising_passes steps p.1)

  pub rising_passed : (steps : Steps) → StepsPass rules (rising steps) → StepsPass rules steps
  rising_passed [] p = tt
  rising_passed (x ∷ steps) p = let more = put_passed x (rising steps) p in (more.0, rising_passed steps more.1)

  some_pass : (a : ℕ) (steps : Steps) → StepsPass rules steps → StepsPass rules (steps_above a steps)
  some_pass a [] p = tt
  some_pass a (c ∷ steps) p = by (nat_lt a c.0) (some_pass a steps p.1)
    where
      by : (b : Bool) → StepsPass rules (steps_above a steps) → StepsPass rules (cond b (c ∷ steps_above a steps) (steps_above a steps))
      by true rest = (p.0, rest)
      by false rest = rest

  above_pass : (j bound : ℕ) (hs : List Hist) → j ≤ bound → StepsPass rules (all_above j hs) → StepsPass rules (all_above bound hs)
  above_pass j bound [] le p = tt
  above_pass j bound (h ∷ hs) le p =
      both_pass (steps_above bound h.steps) (all_above bound hs)
      (subst (StepsPass rules) (above_twice j bound h.steps le) (some_pass bound (steps_above j h.steps) (steps_front rules (steps_above j h.steps) (all_above j hs) p)))
      (above_pass j bound hs le (steps_behind rules (steps_above j h.steps) (all_above j hs) p))

-- where nothing lies above the mark nothing came later
pub first_empty : (xs ys : Steps) → xs ++ ys ≡ [] → xs ≡ []
first_empty [] ys e = refl
first_empty (x ∷ xs) ys e = absurd (cc)

pub rest_empty : (xs ys : Steps) → xs ++ ys ≡ [] → ys ≡ []
rest_empty [] ys e = e
rest_empty (x ∷ xs) ys e = absurd (cc)

none_put : (x : ℕ × Change) (ys : Steps) → put_rising x ys ≡ [] → ⊥
none_put x [] e = cc
none_put x (y ∷ ys) e = by (nat_lt y.0 x.0) e
  where
    by : (b : Bool) → cond b (y ∷ put_rising x ys) (x ∷ y ∷ ys) ≡ [] → ⊥
    by true e = cc
    by false e = cc

pub none_rising : (steps : Steps) → rising steps ≡ [] → steps ≡ []
none_rising [] e = refl
none_rising (x ∷ steps) e = absurd (none_put x (rising steps) e)

none_late : (j bound : ℕ) (hs : List Hist) → j ≤ bound → all_above j hs ≡ [] → all_above bound hs ≡ []
none_late j bound [] le e = refl
none_late j bound (h ∷ hs) le e =
    ap (λ (s : Steps). s ++ all_above bound hs) (sym (above_twice j bound h.steps le) ∙ ap (steps_above bound) (first_empty (steps_above j h.steps) (all_above j hs) e))
    ∙ none_late j bound hs le (rest_empty (steps_above j h.steps) (all_above j hs) e)

pub late_pass : late_changes_pass
late_pass rules j bound q now h le passes own = record {
  key = by passes.key;
  first = own.first;
  steps = both_pass rules h.steps (late_of bound now) own.steps (rising_passes rules (all_above bound now) (above_pass rules j bound now le (rising_passed rules (all_above j now) passes.steps)));
}
  where
    same : joined_history j now ≡ never → push_all (late_of bound now) h ≡ h
    same e =
        let none : late_of bound now ≡ [] = ap rising (none_late j bound now le (none_rising (all_above j now) (ap (λ (x : Hist). x.steps) e))) in
        ap (λ (s : Steps). push_all s h) none ∙ ap (λ (s : Steps). record h { steps = s }) (append-nil h.steps)

    own_key : push_all (late_of bound now) h ≡ h → (h ≡ never) ⊎ (rules.key q ≡ true) → (push_all (late_of bound now) h ≡ never) ⊎ (rules.key q ≡ true)
    own_key e (inl none) = inl (e ∙ none)
    own_key e (inr k) = inr k

    by : (joined_history j now ≡ never) ⊎ (rules.key q ≡ true) → (push_all (late_of bound now) h ≡ never) ⊎ (rules.key q ≡ true)
    by (inr k) = inr k
    by (inl e) = own_key (same e) own.key

-- ---- of disk rowsets as plain data

all_told : (bound : ℕ) (q : List ℕ) (inputs outputs lates : List RowSetData) → AllTellLate bound inputs outputs lates → hists_written q lates ≡ map (hist_with q (late_in bound q inputs)) (map files_in outputs)
all_told bound q inputs [] [] told = refl
all_told bound q inputs [] (d ∷ lates) told = absurd told
all_told bound q inputs (o ∷ outputs) [] told = absurd told
all_told bound q inputs (o ∷ outputs) (d ∷ lates) told =
    ap (λ (h : Hist). h ∷ hists_written q lates) (told.0 q) ∙ ap (λ (l : List Hist). hist_with q (late_in bound q inputs) (files_in o) ∷ l) (all_told bound q inputs outputs lates told.1)

pub outputs_alike : late_outputs_are_alike
outputs_alike j bound q was inputs outputs lates le apart under has none once alike sound told =
    let now = hists_now q inputs in
    let both = late_alike j bound q was now (map files_in outputs) le apart under has once alike sound in
    let same : hists_written q lates ≡ map (hist_with q (late_of bound now)) (map files_in outputs) =
    all_told bound q inputs outputs lates told ∙ ap (λ (s : Steps). map (hist_with q s) (map files_in outputs)) (in_memory bound q inputs none) in
    (subst (AreAlike j now) (sym same) both.0, subst (AreSound j) (sym same) both.1)

pub output_passes : a_late_output_passes
output_passes rules j bound q inputs output late le none passes own told = subst (HistPasses rules q) (sym is) (by (found_in q (files_in output)))
  where
    now : List Hist
    now = hists_now q inputs

    was : Hist
    was = hist_in_files q (files_in output)

    is : hist_in_files q (files_in late) ≡ hist_with q (late_of bound now) (files_in output)
    is = told q ∙ ap (λ (s : Steps). hist_with q s (files_in output)) (in_memory bound q inputs none)

    by : (o : Option (ℕ × Row)) → HistPasses rules q (push_there (late_of bound now) o was)
    by None = own
    by (Some found) = late_pass rules j bound q now was le passes own
