-- Where the flying write of a session stands among the others, and what is so of it there.
use Rattle.std.proofs.Common.{◌≡◌, ℕ, zero, suc, ◌+◌, ◌<◌, ◌≤◌, List, [], ◌∷◌, ◌++◌, Some, None, true, false, Bool, ◌||◌, cond, refl, sym, ap, ◌∙◌, subst, arith, map, length, drop, get_or}
use Rattle.std.specs.Prelude.{◌==◌, not, nat_lt, slice_get, slice_set}
use Rattle.std.specs.List.{filter, find, list_any, position, position_or_len, remove}
use Rattle.std.proofs.lemmas.Bool.Decides.{nat_tests}
use Rattle.kt_history.specs.declared.operation.RowOp.{RowOp}
use Rattle.kt_history.specs.Operations.{need}
use Rattle.kt_history.specs.Rows.{Row}
use Rattle.kt_histlaws.specs.Histories.{on_nth}
use Rattle.kt_histlaws.specs.Parts.{IsOfAnother}
use Rattle.kt_histlaws.specs.Pending.{Aloft}
use Rattle.kt_histlaws.specs.Core.{flown_by}
use Rattle.kt_histlaws.specs.Events.{IsNextOp, advance}
use Rattle.kt_records.specs.declared.entry.CommitRow.{CommitRow}
use Rattle.kt_tablet.specs.declared.tablet.FlyingWrite.{FlyingWrite}
use Rattle.kt_tablet.specs.Rows.{OneOfEach}
use Rattle.kt_tablet.specs.Views.{rows_of, placed_of, place_at, aloft_of, flier_of, owed, IsProvided, AreProvided}
use Rattle.kt_tablet.specs.Visits.{flight_of}

-- the first flying write of session s is at place j
abbrev pub IsPlaceOf : ℕ → List FlyingWrite → ℕ → Type 0
IsPlaceOf s [] j = ⊥
IsPlaceOf s (w ∷ flights) zero = (w.who == s) ≡ true
IsPlaceOf s (w ∷ flights) (suc j) = ((w.who == s) ≡ false) × IsPlaceOf s flights j

pub placed_at : (s : ℕ) (flights : List FlyingWrite) → list_any (λ f. f.who == s) flights ≡ true → IsPlaceOf s flights (position_or_len (λ f. f.who == s) flights)
placed_at s [] any = cc
placed_at s (w ∷ flights) any = elim (w.who == s) as (λ b. w.who == s ≡ b → (b || list_any (λ f. f.who == s) flights) ≡ true → IsPlaceOf s (w ∷ flights) (cond (not b) (1 + position_or_len (λ f. f.who == s) flights) 0)) [
  | true ↦ λ is h. is
  | false ↦ λ is h. let e : suc (position_or_len (λ f. f.who == s) flights) ≡ 1 + position_or_len (λ f. f.who == s) flights = omega arith in subst (IsPlaceOf s (w ∷ flights)) e (is, placed_at s flights h)
] refl any

pub within : (s : ℕ) (flights : List FlyingWrite) (j : ℕ) → IsPlaceOf s flights j → j < length flights
within s [] j h = absurd h
within s (w ∷ flights) zero h = omega arith
within s (w ∷ flights) (suc j) h = let lt = within s flights j h.1 in omega (arith, lt)

-- the session has a flying write where the engine has one
pub flying_one : (s : ℕ) (flights : List FlyingWrite) (flight : Aloft) → flight_of s (map aloft_of flights) ≡ Some flight → list_any (λ f. f.who == s) flights ≡ true
flying_one s [] flight h = cc
flying_one s (w ∷ flights) flight h = elim (w.who == s) as (λ b. cond b (Some (aloft_of w)) (flight_of s (map aloft_of flights)) ≡ Some flight → (b || list_any (λ f. f.who == s) flights) ≡ true) [
  | true ↦ λ e. refl
  | false ↦ λ e. flying_one s flights flight e
] h

-- and it is that one
pub flight_at : (s : ℕ) (flights : List FlyingWrite) (j : ℕ) (w : FlyingWrite) → IsPlaceOf s flights j → w ≡ get_or flights j w → flight_of s (map aloft_of flights) ≡ Some (aloft_of w)
flight_at s [] j w h is = absurd h
flight_at s (v ∷ flights) zero w h is = ap (λ b. cond b (Some (aloft_of v)) (flight_of s (map aloft_of flights))) h ∙ ap (λ x. Some (aloft_of x)) (sym is)
flight_at s (v ∷ flights) (suc j) w h is = ap (λ b. cond b (Some (aloft_of v)) (flight_of s (map aloft_of flights))) h.0 ∙ flight_at s flights j w h.1 is

-- so has the clock of writes
pub flier_at : (s : ℕ) (flights : List FlyingWrite) (j : ℕ) (w : FlyingWrite) → IsPlaceOf s flights j → w ≡ get_or flights j w → find (λ f. f.who == s) (map flier_of flights) ≡ Some (flier_of w)
flier_at s [] j w h is = absurd h
flier_at s (v ∷ flights) zero w h is = ap (λ b. cond b (Some (flier_of v)) (find (λ f. f.who == s) (map flier_of flights))) h ∙ ap (λ x. Some (flier_of x)) (sym is)
flier_at s (v ∷ flights) (suc j) w h is = ap (λ b. cond b (Some (flier_of v)) (find (λ f. f.who == s) (map flier_of flights))) h.0 ∙ flier_at s flights j w h.1 is

pub same_aloft : (v w : Aloft) → Some v ≡ Some w → v ≡ w
same_aloft v w e = cc

pub flight_on : (s : ℕ) (flights : List FlyingWrite) (j : ℕ) (w : FlyingWrite) → IsPlaceOf s flights j → w ≡ get_or flights j w → flight_of s (on_nth j advance (map aloft_of flights)) ≡ Some (advance (aloft_of w))
flight_on s [] j w h is = absurd h
flight_on s (v ∷ flights) zero w h is = ap (λ b. cond b (Some (advance (aloft_of v))) (flight_of s (map aloft_of flights))) h ∙ ap (λ x. Some (advance (aloft_of x))) (sym is)
flight_on s (v ∷ flights) (suc j) w h is = ap (λ b. cond b (Some (aloft_of v)) (flight_of s (on_nth j advance (map aloft_of flights)))) h.0 ∙ flight_on s flights j w h.1 is

pub next_at : (flights : List FlyingWrite) (j : ℕ) (w : FlyingWrite) (op : RowOp) → j < length flights → w ≡ get_or flights j w → slice_get w.ops w.applied ≡ Some op → IsNextOp j (map aloft_of flights) w.ts op
next_at [] j w op lt is row = absurd (omega (arith, lt))
next_at (v ∷ flights) zero w op lt is row = (ap (λ x. x.ts) (sym is), ap (λ x. slice_get x.ops x.applied) (sym is) ∙ row)
next_at (v ∷ flights) (suc j) w op lt is row = next_at flights j w op (omega (arith, lt)) is row

-- a write that takes the place of one
pub aloft_set : (flights : List FlyingWrite) (j : ℕ) (w x : FlyingWrite) → w ≡ get_or flights j w → aloft_of x ≡ advance (aloft_of w) → map aloft_of (slice_set flights j x) ≡ on_nth j advance (map aloft_of flights)
aloft_set [] j w x is e = refl
aloft_set (v ∷ flights) zero w x is e = ap (λ y. y ∷ map aloft_of flights) (e ∙ ap (λ y. advance (aloft_of y)) is)
aloft_set (v ∷ flights) (suc j) w x is e = ap (λ y. aloft_of v ∷ y) (aloft_set flights j w x is e)

pub fliers_set : (flights : List FlyingWrite) (j : ℕ) (w x : FlyingWrite) → w ≡ get_or flights j w → flier_of x ≡ flier_of w → map flier_of (slice_set flights j x) ≡ map flier_of flights
fliers_set [] j w x is e = refl
fliers_set (v ∷ flights) zero w x is e = ap (λ y. y ∷ map flier_of flights) (e ∙ ap flier_of is)
fliers_set (v ∷ flights) (suc j) w x is e = ap (λ y. flier_of v ∷ y) (fliers_set flights j w x is e)

-- what the rows of a flying write still to be applied need is owed
abbrev pub owed_of : FlyingWrite → ℕ
owed_of w = need (drop w.applied w.ops)

pub owed_set : (flights : List FlyingWrite) (j : ℕ) (w x : FlyingWrite) → j < length flights → w ≡ get_or flights j w → owed (map aloft_of (slice_set flights j x)) + owed_of w ≡ owed (map aloft_of flights) + owed_of x
owed_set [] j w x lt is = absurd (omega (arith, lt))
owed_set (v ∷ flights) zero w x lt is = let e = ap owed_of is in omega (arith, e)
owed_set (v ∷ flights) (suc j) w x lt is = let e = owed_set flights j w x (omega (arith, lt)) is in omega (arith, e)

pub owed_at : (flights : List FlyingWrite) (j : ℕ) (w : FlyingWrite) → j < length flights → w ≡ get_or flights j w → owed_of w ≤ owed (map aloft_of flights)
owed_at [] j w lt is = absurd (omega (arith, lt))
owed_at (v ∷ flights) zero w lt is = let e = ap owed_of is in omega (arith, e)
owed_at (v ∷ flights) (suc j) w lt is = let e = owed_at flights j w (omega (arith, lt)) is in omega (arith, e)

pub provided_at : (fill : Row) (flights : List FlyingWrite) (j : ℕ) (w : FlyingWrite) → AreProvided fill flights → j < length flights → w ≡ get_or flights j w → IsProvided fill w
provided_at fill [] j w all lt is = absurd (omega (arith, lt))
provided_at fill (v ∷ flights) zero w all lt is = subst (IsProvided fill) (sym is) all.0
provided_at fill (v ∷ flights) (suc j) w all lt is = provided_at fill flights j w all.1 (omega (arith, lt)) is

pub provided_set : (fill : Row) (flights : List FlyingWrite) (j : ℕ) (x : FlyingWrite) → AreProvided fill flights → IsProvided fill x → AreProvided fill (slice_set flights j x)
provided_set fill [] j x all one = tt
provided_set fill (v ∷ flights) zero x all one = (one, all.1)
provided_set fill (v ∷ flights) (suc j) x all one = (all.0, provided_set fill flights j x all.1 one)

pub length_set : (flights : List FlyingWrite) (j : ℕ) (x : FlyingWrite) → length (slice_set flights j x) ≡ length flights
length_set [] j x = refl
length_set (v ∷ flights) zero x = refl
length_set (v ∷ flights) (suc j) x = ap suc (length_set flights j x)

-- each of a session of its own
or_false : (a b : Bool) → (a || b) ≡ false → (a ≡ false) × (b ≡ false)
or_false true b h = cc
or_false false b h = (refl, h)

none_more : (p : FlyingWrite → Bool) (flights : List FlyingWrite) (w : FlyingWrite) → list_any p flights ≡ false → p w ≡ false → list_any p (flights ++ w ∷ []) ≡ false
none_more p [] w none not_one = ap (λ b. b || false) not_one
none_more p (v ∷ flights) w none not_one = let parts = or_false (p v) (list_any p flights) none in ap (λ b. b || list_any p (flights ++ w ∷ [])) parts.0 ∙ none_more p flights w parts.1 not_one

turned : (m n : ℕ) → (m == n) ≡ false → (n == m) ≡ false
turned m n h = grind (arith, nat_tests)

pub apart-append : (flights : List FlyingWrite) (w : FlyingWrite) → OneOfEach flights → list_any (λ f. f.who == w.who) flights ≡ false → OneOfEach (flights ++ w ∷ [])
apart-append [] w apart none = (refl, tt)
apart-append (v ∷ flights) w apart none = let parts = or_false (v.who == w.who) (list_any (λ f. f.who == w.who) flights) none in (
  none_more (λ f. f.who == v.who) flights w apart.0 (turned v.who w.who parts.0),
  apart-append flights w apart.1 parts.1,
)

none_fewer : (p q : FlyingWrite → Bool) (flights : List FlyingWrite) → list_any q flights ≡ false → list_any q (filter p flights) ≡ false
none_fewer p q [] none = refl
none_fewer p q (v ∷ flights) none = let parts = or_false (q v) (list_any q flights) none in elim (p v) as (λ b. list_any q (cond b (v ∷ filter p flights) (filter p flights)) ≡ false) [
  | true ↦ ap (λ b. b || list_any q (filter p flights)) parts.0 ∙ none_fewer p q flights parts.1
  | false ↦ none_fewer p q flights parts.1
]

pub apart-filter : (p : FlyingWrite → Bool) (flights : List FlyingWrite) → OneOfEach flights → OneOfEach (filter p flights)
apart-filter p [] apart = tt
apart-filter p (v ∷ flights) apart = elim (p v) as (λ b. OneOfEach (cond b (v ∷ filter p flights) (filter p flights))) [
  | true ↦ (none_fewer p (λ f. f.who == v.who) flights apart.0, apart-filter p flights apart.1)
  | false ↦ apart-filter p flights apart.1
]

any_set : (s : ℕ) (flights : List FlyingWrite) (j : ℕ) (w x : FlyingWrite) → w ≡ get_or flights j w → x.who ≡ w.who → list_any (λ f. f.who == s) (slice_set flights j x) ≡ list_any (λ f. f.who == s) flights
any_set s [] j w x is e = refl
any_set s (v ∷ flights) zero w x is e = ap (λ n. (n == s) || list_any (λ f. f.who == s) flights) (e ∙ ap (λ y. y.who) is)
any_set s (v ∷ flights) (suc j) w x is e = ap (λ b. (v.who == s) || b) (any_set s flights j w x is e)

pub apart_set : (flights : List FlyingWrite) (j : ℕ) (w x : FlyingWrite) → w ≡ get_or flights j w → x.who ≡ w.who → OneOfEach flights → OneOfEach (slice_set flights j x)
apart_set [] j w x is e apart = tt
apart_set (v ∷ flights) zero w x is e apart = (ap (λ n. list_any (λ f. f.who == n) flights) (e ∙ ap (λ y. y.who) is) ∙ apart.0, apart.1)
apart_set (v ∷ flights) (suc j) w x is e apart = (any_set v.who flights j w x is e ∙ apart.0, apart_set flights j w x is e apart.1)

-- so taking the write of a session out leaves those of the others
all_stay : (s : ℕ) (flights : List FlyingWrite) → list_any (λ f. f.who == s) flights ≡ false → flights ≡ filter (λ f. not (f.who == s)) flights
all_stay s [] none = refl
all_stay s (w ∷ flights) none = let parts = or_false (w.who == s) (list_any (λ f. f.who == s) flights) none in
    ap (λ fs. w ∷ fs) (all_stay s flights parts.1) ∙ ap (λ b. cond (not b) (w ∷ filter (λ f. not (f.who == s)) flights) (filter (λ f. not (f.who == s)) flights)) (sym parts.0)

same_who : (m n : ℕ) → (m == n) ≡ true → m ≡ n
same_who m n h = grind (arith, nat_tests)

pub removed : (s : ℕ) (flights : List FlyingWrite) (j : ℕ) → OneOfEach flights → IsPlaceOf s flights j → remove flights j ≡ filter (λ f. not (f.who == s)) flights
removed s [] j apart h = absurd h
removed s (w ∷ flights) zero apart h =
    all_stay s flights (ap (λ n. list_any (λ f. f.who == n) flights) (sym (same_who w.who s h)) ∙ apart.0) ∙ ap (λ b. cond (not b) (w ∷ filter (λ f. not (f.who == s)) flights) (filter (λ f. not (f.who == s)) flights)) (sym h)
removed s (w ∷ flights) (suc j) apart h =
    ap (λ fs. w ∷ fs) (removed s flights j apart.1 h.1) ∙ ap (λ b. cond (not b) (w ∷ filter (λ f. not (f.who == s)) flights) (filter (λ f. not (f.who == s)) flights)) (sym h.0)

-- the engine's list of flying writes has a session where this one has it
pub rests_here : (s : ℕ) (flights : List FlyingWrite) → list_any (λ f. f.who == s) flights ≡ list_any (λ w. w.s == s) (map flown_by (map aloft_of flights))
rests_here s [] = refl
rests_here s (w ∷ flights) = ap (λ b. (w.who == s) || b) (rests_here s flights)

-- what is found of it
place_within : (s : ℕ) (flights : List FlyingWrite) → list_any (λ f. f.who == s) flights ≡ true → nat_lt (position_or_len (λ f. f.who == s) flights) (length flights) ≡ true
place_within s flights any = let lt = within s flights (position_or_len (λ f. f.who == s) flights) (placed_at s flights any) in grind (arith, nat_tests)

pub found_place : (s : ℕ) (flights : List FlyingWrite) → list_any (λ f. f.who == s) flights ≡ true → position (λ f. f.who == s) flights ≡ Some (position_or_len (λ f. f.who == s) flights)
found_place s flights any = ap (λ b. cond b (Some (position_or_len (λ f. f.who == s) flights)) None) (place_within s flights any)

some_place : (m n : ℕ) → Some m ≡ Some n → m ≡ n
some_place m n e = cc

none_place : (n : ℕ) → None ≡ Some n → ⊥
none_place n e = cc

pub place_found : (s m : ℕ) (flights : List FlyingWrite) → list_any (λ f. f.who == s) flights ≡ true → Some m ≡ position (λ f. f.who == s) flights → m ≡ position_or_len (λ f. f.who == s) flights
place_found s m flights any found = some_place m _ (found ∙ found_place s flights any)

pub place_there : (s : ℕ) (flights : List FlyingWrite) → list_any (λ f. f.who == s) flights ≡ true → None ≡ position (λ f. f.who == s) flights → ⊥
place_there s flights any none = none_place _ (none ∙ found_place s flights any)

-- it is none of another session
pub of_another : (s : ℕ) (flights : List FlyingWrite) (j : ℕ) → IsPlaceOf s flights j → (k : ℕ) → (k ≡ s → ⊥) → IsOfAnother j (map aloft_of flights) k
of_another s [] j h k ne = tt
of_another s (w ∷ flights) zero h k ne = λ e. ne (sym e ∙ same_who w.who s h)
of_another s (w ∷ flights) (suc j) h k ne = of_another s flights j h.1 k ne

-- ---- what they have written for the log

pub place_own : (s : ℕ) (flights : List FlyingWrite) (j : ℕ) (w : FlyingWrite) → IsPlaceOf s flights j → w ≡ get_or flights j w → w.who ≡ s
place_own s [] j w h is = absurd h
place_own s (v ∷ flights) zero w h is = ap (λ y. y.who) is ∙ same_who v.who s h
place_own s (v ∷ flights) (suc j) w h is = place_own s flights j w h.1 is

pub aloft_there : (flights : List FlyingWrite) (j : ℕ) (w : FlyingWrite) → j < length flights → w ≡ get_or flights j w → slice_get (map aloft_of flights) j ≡ Some (aloft_of w)
aloft_there [] j w lt is = absurd (omega (arith, lt))
aloft_there (v ∷ flights) zero w lt is = ap (λ x. Some (aloft_of x)) (sym is)
aloft_there (v ∷ flights) (suc j) w lt is = aloft_there flights j w (omega (arith, lt)) is

pub notes_there : (flights : List FlyingWrite) (j : ℕ) (w : FlyingWrite) → j < length flights → w ≡ get_or flights j w → slice_get (map rows_of flights) j ≡ Some w.rows.items
notes_there [] j w lt is = absurd (omega (arith, lt))
notes_there (v ∷ flights) zero w lt is = ap (λ x. Some (rows_of x)) (sym is)
notes_there (v ∷ flights) (suc j) w lt is = notes_there flights j w (omega (arith, lt)) is

pub notes_set : (flights : List FlyingWrite) (j : ℕ) (w x : FlyingWrite) (row : CommitRow) → w ≡ get_or flights j w → x.rows.items ≡ w.rows.items ++ row ∷ [] → map rows_of (slice_set flights j x) ≡ on_nth j (λ rows. rows ++ row ∷ []) (map rows_of flights)
notes_set [] j w x row is e = refl
notes_set (v ∷ flights) zero w x row is e = ap (λ rows. rows ∷ map rows_of flights) (e ∙ ap (λ y. rows_of y ++ row ∷ []) is)
notes_set (v ∷ flights) (suc j) w x row is e = ap (λ notes. rows_of v ∷ notes) (notes_set flights j w x row is e)

pub notes_removed : (flights : List FlyingWrite) (j : ℕ) → map rows_of (remove flights j) ≡ remove (map rows_of flights) j
notes_removed [] zero = refl
notes_removed [] (suc j) = refl
notes_removed (w ∷ flights) zero = refl
notes_removed (w ∷ flights) (suc j) = ap (λ notes. rows_of w ∷ notes) (notes_removed flights j)

-- ---- the places of their REPLICATEs

pub places_set : (flights : List FlyingWrite) (j : ℕ) (w x : FlyingWrite) → w ≡ get_or flights j w → placed_of x ≡ placed_of w → map placed_of (slice_set flights j x) ≡ map placed_of flights
places_set [] j w x is e = refl
places_set (v ∷ flights) zero w x is e = ap (λ y. y ∷ map placed_of flights) (e ∙ ap placed_of is)
places_set (v ∷ flights) (suc j) w x is e = ap (λ y. placed_of v ∷ y) (places_set flights j w x is e)

-- each is of the write's session
pub places_own : (flights : List FlyingWrite) → map (λ p. p.0) (map placed_of flights) ≡ map (λ w. w.s) (map aloft_of flights)
places_own [] = refl
places_own (w ∷ flights) = ap (λ ss. w.who ∷ ss) (places_own flights)

-- a session that has one has a flying write
pub place_flies : (s : ℕ) (flights : List FlyingWrite) (place : ℕ) → place_at s (map placed_of flights) ≡ Some place → list_any (λ f. f.who == s) flights ≡ true
place_flies s [] place h = cc
place_flies s (w ∷ flights) place h = elim (w.who == s) as (λ b. cond b (Some w.place) (place_at s (map placed_of flights)) ≡ Some place → (b || list_any (λ f. f.who == s) flights) ≡ true) [
  | true ↦ λ e. refl
  | false ↦ λ e. place_flies s flights place e
] h

-- and it is that write's
pub place_here : (s : ℕ) (flights : List FlyingWrite) (j : ℕ) (w : FlyingWrite) → IsPlaceOf s flights j → w ≡ get_or flights j w → place_at s (map placed_of flights) ≡ Some w.place
place_here s [] j w h is = absurd h
place_here s (v ∷ flights) zero w h is = ap (λ b. cond b (Some v.place) (place_at s (map placed_of flights))) h ∙ ap (λ x. Some x.place) (sym is)
place_here s (v ∷ flights) (suc j) w h is = ap (λ b. cond b (Some v.place) (place_at s (map placed_of flights))) h.0 ∙ place_here s flights j w h.1 is

pub place_shown : (s j : ℕ) (flights shown : List FlyingWrite) (place : ℕ) → place_at s (map placed_of flights) ≡ Some place → shown ≡ flights → j ≡ position_or_len (λ f. f.who == s) shown → IsPlaceOf s flights j
place_shown s j flights shown place h same is = subst (IsPlaceOf s flights) (sym (is ∙ ap (position_or_len (λ f. f.who == s)) same)) (placed_at s flights (place_flies s flights place h))
