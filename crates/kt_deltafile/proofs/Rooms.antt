-- Room for the records that are still to come.
use Rattle.std.proofs.Common.{◌≡◌, ◌≢◌, ℕ, suc, ◌+◌, ◌-◌, ◌^◌, ◌<◌, ◌≤◌, Bool, true, false, not, ◌||◌, eqb, leb, ltb, List, [], ◌∷◌, ◌++◌, length, get_or, refl, sym, ap, subst, ◌∙◌, arith, inl, inr}
use Rattle.std.specs.Prelude.{◌⊎◌}
use Rattle.std.proofs.lemmas.Bool.{ltb-true, lt-ltb, leb-true, le-leb, eq-eqb, ne_eqb}
use Rattle.std.proofs.lemmas.List.{length_push}
use Rattle.kt_history.specs.declared.changes.Delta.{Delta}
use Rattle.kt_cells.specs.Rules.{EachAfter}
use Rattle.kt_deltafile.specs.declared.file.Way.{Way}
use Rattle.kt_deltafile.specs.declared.file.Way.TheVariants.{Redo, Undo}
use Rattle.kt_deltafile.specs.Order.{in_order, ordinal_at, ts_at, last_ordinal, last_ts, may_come, may_follow}
use Rattle.kt_deltafile.specs.Rules.{Follows}
use Rattle.kt_deltafile.specs.Reading.{behind, later, has_next_row, has_room, may_go_on, has_ts, is_ordinal, is_ts}
use Rattle.kt_deltafile.proofs.Sorted.{both, both_left, both_right, follows_last, some_none, last_ordinal_is, last_ts_is}

-- ---- tests

or_cases : (a b : Bool) → (a || b) ≡ true → (a ≡ true) ⊎ (b ≡ true)
or_cases true b e = inl refl
or_cases false b e = inr e

or_left : (a b : Bool) → a ≡ true → (a || b) ≡ true
or_left a b e = ap (λ (x : Bool). x || b) e

or_right : (a b : Bool) → b ≡ true → (a || b) ≡ true
or_right true b e = refl
or_right false b e = e

-- ---- room

abbrev HasNext : ℕ → ℕ → Type 0
HasNext rows ordinal = (ordinal + 1 < rows) × (ordinal + 1 < 2 ^ 32)

abbrev pub Room : ℕ → ℕ → ℕ → ℕ → Type 0
Room rows ordinal left n = HasNext rows ordinal ⊎ (n ≤ left)

pub room_true : (rows ordinal left n : ℕ) → Room rows ordinal left n → has_room rows ordinal left n ≡ true
room_true rows ordinal left n (inl next) = or_left (has_next_row rows ordinal) (leb n left) (both (ltb (ordinal + 1) rows) (ltb (ordinal + 1) (2 ^ 32)) (lt-ltb _ _ next.0) (lt-ltb _ _ next.1))
room_true rows ordinal left n (inr le) = or_right (has_next_row rows ordinal) (leb n left) (le-leb n left le)

pub room_of : (rows ordinal left n : ℕ) → has_room rows ordinal left n ≡ true → Room rows ordinal left n
room_of rows ordinal left n e = elim (or_cases (has_next_row rows ordinal) (leb n left) e) [
  | inl next ↦ inl (ltb-true _ _ (both_left (ltb (ordinal + 1) rows) (ltb (ordinal + 1) (2 ^ 32)) next), ltb-true _ _ (both_right (ltb (ordinal + 1) rows) (ltb (ordinal + 1) (2 ^ 32)) next))
  | inr le ↦ inr (leb-true n left le)
]

-- less is needed where more is left
room_less : (rows ordinal left n more k : ℕ) → Room rows ordinal left n → k + left ≤ n + more ⊎ (n ≤ left → k ≤ more) → Room rows ordinal more k
room_less rows ordinal left n more k (inl next) h = inl next
room_less rows ordinal left n more k (inr le) (inl h) = inr (omega (arith, le, h))
room_less rows ordinal left n more k (inr le) (inr h) = inr (h le)

-- ---- timestamps

-- the first timestamp in the order of the way
first_ts : Way → ℕ
first_ts Redo = 0
first_ts Undo = 2 ^ 64 - 1

first_fits : (way : Way) → first_ts way < 2 ^ 64
unfolding first_ts
first_fits Redo = omega arith
first_fits Undo = omega arith

first_later : (way : Way) → later way (first_ts way) ≡ 2 ^ 64 - 1
unfolding first_ts
first_later Redo = refl
first_later Undo = refl

-- the one after this
next_ts : Way → ℕ → ℕ
next_ts Redo ts = ts + 1
next_ts Undo ts = ts - 1

later_next : (way : Way) (ts : ℕ) → 1 ≤ later way ts → later way (next_ts way ts) + 1 ≡ later way ts
unfolding next_ts
later_next Redo ts some = omega (arith, some)
later_next Undo ts some = omega (arith, some)

next_in_order : (way : Way) (ts : ℕ) → 1 ≤ later way ts → in_order way ts (next_ts way ts) ≡ true
unfolding next_ts
next_in_order Redo ts some = lt-ltb ts (ts + 1) (omega arith)
next_in_order Undo ts some = lt-ltb (ts - 1) ts (omega (arith, some))

next_fits : (way : Way) (ts : ℕ) → 1 ≤ later way ts → ts < 2 ^ 64 → next_ts way ts < 2 ^ 64
unfolding next_ts
next_fits Redo ts some lt = omega (arith, some, lt)
next_fits Undo ts some lt = omega (arith, some, lt)

-- fewer come after a later one
later_less : (way : Way) (t u : ℕ) → in_order way t u ≡ true → u < 2 ^ 64 → later way u + 1 ≤ later way t
later_less Redo t u e lt = omega (arith, ltb-true t u e, lt)
later_less Undo t u e lt = omega (arith, ltb-true u t e, lt)

-- ---- the last record

ordinal_push : (front : List Delta) (d : Delta) → ordinal_at (front ++ d ∷ []) (length front) ≡ d.ordinal
ordinal_push [] d = refl
ordinal_push (e ∷ front) d = ordinal_push front d

ts_push : (front : List Delta) (d : Delta) → ts_at (front ++ d ∷ []) (length front) ≡ d.ts
ts_push [] d = refl
ts_push (e ∷ front) d = ts_push front d

pub last_ordinal_push : (front : List Delta) (d : Delta) → last_ordinal (front ++ d ∷ []) ≡ d.ordinal
last_ordinal_push front d =
    let at : length (front ++ d ∷ []) - 1 ≡ length front = omega (arith, length_push front d) in
    ap (ordinal_at (front ++ d ∷ [])) at ∙ ordinal_push front d

pub last_ts_push : (front : List Delta) (d : Delta) → last_ts (front ++ d ∷ []) ≡ d.ts
last_ts_push front d =
    let at : length (front ++ d ∷ []) - 1 ≡ length front = omega (arith, length_push front d) in
    ap (ts_at (front ++ d ∷ [])) at ∙ ts_push front d

-- ---- what can still come

-- a record that follows, with room for those behind it
pub record NextRecord (way : Way) (rows n : ℕ) (front : List Delta) (d : Delta) : Type 0 where
  pub follows : Follows way rows front d
  pub room : Room rows d.ordinal (later way d.ts) (behind n front)

-- so many of n records can stand behind these
pub record Space (way : Way) (rows n k : ℕ) (front : List Delta) : Type 0 where
  pub count : length front + k ≡ n
  pub few : n < 2 ^ 32
  pub some : length front ≡ 0 → 0 < k → 0 < rows
  pub ordinal : 0 < length front → (last_ordinal front < rows) × (last_ordinal front < 2 ^ 32)
  pub ts : last_ts front < 2 ^ 64
  pub room : 0 < length front → Room rows (last_ordinal front) (later way (last_ts front)) k

pub space_start : (way : Way) (rows n : ℕ) → n < 2 ^ 32 → (0 < n → 0 < rows) → Space way rows n n []
space_start way rows n few some = record {
  count = omega arith;
  few = few;
  some = λ none more. some more;
  ordinal = λ bad. absurd (omega (arith, bad));
  ts = omega arith;
  room = λ bad. absurd (omega (arith, bad));
}

pub space_next : (way : Way) (rows n k : ℕ) (front : List Delta) (d : Delta) → Space way rows n (suc k) front → NextRecord way rows n front d → Space way rows n k (front ++ d ∷ [])
space_next way rows n k front d s next =
    let longer = length_push front d in
    let o = last_ordinal_push front d in
    let t = last_ts_push front d in
    let below : d.ordinal < rows = ltb-true _ _ (both_right (leb (last_ordinal front) d.ordinal) (ltb d.ordinal rows) next.follows.comes) in
    let left : behind n front ≡ k = omega (arith, s.count) in
    record {
      count = omega (arith, s.count, longer);
      few = s.few;
      some = λ none more. absurd (omega (arith, none, longer));
      ordinal = λ has. (omega (arith, o, below), omega (arith, o, next.follows.ordinal));
      ts = omega (arith, t, next.follows.ts);
      room = λ has. subst (λ (p : ℕ). Room rows p (later way (last_ts (front ++ d ∷ []))) k) (sym o) (subst (λ (p : ℕ). Room rows d.ordinal (later way p) k) (sym t) (subst (Room rows d.ordinal (later way d.ts)) left next.room));
    }

-- an ordinal can follow
pub some_ordinal : (way : Way) (rows n k : ℕ) (front : List Delta) → Space way rows n (suc k) front → (o : ℕ) × (is_ordinal way rows n front o ≡ true) × (o < 2 ^ 32)
some_ordinal way rows n k [] s =
    (0, both (may_come rows [] 0) (has_ts way rows n [] 0) (both (leb 0 0) (ltb 0 rows) (le-leb 0 0 (omega arith)) (lt-ltb 0 rows (s.some refl (omega arith)))) refl, omega arith)
some_ordinal way rows n k (e ∷ front) s = which (s.room (omega arith))
  where
    f : List Delta
    f = e ∷ front

    last : (last_ordinal (e ∷ front) < rows) × (last_ordinal (e ∷ front) < 2 ^ 32)
    last = s.ordinal (omega arith)

    which : Room rows (last_ordinal (e ∷ front)) (later way (last_ts (e ∷ front))) (suc k) → (o : ℕ) × (is_ordinal way rows n (e ∷ front) o ≡ true) × (o < 2 ^ 32)
    which (inl next) =
        let o : ℕ = last_ordinal (e ∷ front) + 1 in
        let comes : may_come rows (e ∷ front) o ≡ true = both (leb (last_ordinal (e ∷ front)) o) (ltb o rows) (le-leb _ _ (omega arith)) (lt-ltb _ _ next.0) in
        let apart : not (eqb (last_ordinal (e ∷ front)) o) ≡ true = ap not (ne_eqb (last_ordinal (e ∷ front)) o (λ same. omega (arith, same))) in
        let has : has_ts way rows n (e ∷ front) o ≡ true = or_right (eqb (length (e ∷ front)) 0) _ (or_left (not (eqb (last_ordinal (e ∷ front)) o)) (may_go_on way rows o (last_ts (e ∷ front)) (behind n (e ∷ front))) apart) in
        (o, both (may_come rows (e ∷ front) o) (has_ts way rows n (e ∷ front) o) comes has, next.1)
    which (inr le) =
        let o : ℕ = last_ordinal (e ∷ front) in
        let comes : may_come rows (e ∷ front) o ≡ true = both (leb o o) (ltb o rows) (le-leb _ _ (omega arith)) (lt-ltb _ _ last.0) in
        let left : behind n (e ∷ front) + 1 ≤ later way (last_ts (e ∷ front)) = omega (arith, s.count, le) in
        let goes : may_go_on way rows o (last_ts (e ∷ front)) (behind n (e ∷ front)) ≡ true =
        both (leb 1 (later way (last_ts (e ∷ front)))) (has_room rows o (later way (last_ts (e ∷ front))) (behind n (e ∷ front) + 1)) (le-leb _ _ (omega (arith, le))) (room_true rows o (later way (last_ts (e ∷ front))) (behind n (e ∷ front) + 1) (inr left)) in
        let has : has_ts way rows n (e ∷ front) o ≡ true = or_right (eqb (length (e ∷ front)) 0) _ (or_right (not (eqb (last_ordinal (e ∷ front)) o)) (may_go_on way rows o (last_ts (e ∷ front)) (behind n (e ∷ front))) goes) in
        (o, both (may_come rows (e ∷ front) o) (has_ts way rows n (e ∷ front) o) comes has, last.1)

-- a timestamp can stand behind an ordinal that can
pub some_ts : (way : Way) (rows n k : ℕ) (front : List Delta) (o : ℕ) → Space way rows n (suc k) front → is_ordinal way rows n front o ≡ true → (t : ℕ) × (is_ts way rows n front o t ≡ true) × (t < 2 ^ 64)
some_ts way rows n k front o s e = elim (or_cases (eqb (length front) 0) _ has) [
  | inl none ↦ fresh (or_left (eqb (length front) 0) _ none)
  | inr more ↦ elim (or_cases (not (eqb (last_ordinal front) o)) (may_go_on way rows o (last_ts front) (behind n front)) more) [
    | inl other ↦ fresh (or_right (eqb (length front) 0) _ (or_left (not (eqb (last_ordinal front) o)) (in_order way (last_ts front) (first_ts way)) other))
    | inr same ↦ again same
  ]
]
  where
    has : has_ts way rows n front o ≡ true
    has = both_right (may_come rows front o) (has_ts way rows n front o) e

    left : behind n front ≡ k
    left = omega (arith, s.count)

    fresh : may_follow way front o (first_ts way) ≡ true → (t : ℕ) × (is_ts way rows n front o t ≡ true) × (t < 2 ^ 64)
    fresh follows =
        let room : Room rows o (later way (first_ts way)) (behind n front) = inr (omega (arith, first_later way, left, s.count, s.few)) in
        (first_ts way, both (may_follow way front o (first_ts way)) (has_room rows o (later way (first_ts way)) (behind n front)) follows (room_true rows o (later way (first_ts way)) (behind n front) room), first_fits way)

    again : may_go_on way rows o (last_ts front) (behind n front) ≡ true → (t : ℕ) × (is_ts way rows n front o t ≡ true) × (t < 2 ^ 64)
    again goes =
        let some : 1 ≤ later way (last_ts front) = leb-true _ _ (both_left (leb 1 (later way (last_ts front))) (has_room rows o (later way (last_ts front)) (behind n front + 1)) goes) in
        let room = room_of rows o (later way (last_ts front)) (behind n front + 1) (both_right (leb 1 (later way (last_ts front))) (has_room rows o (later way (last_ts front)) (behind n front + 1)) goes) in
        let t : ℕ = next_ts way (last_ts front) in
        let order : may_follow way front o t ≡ true = or_right (eqb (length front) 0) _ (or_right (not (eqb (last_ordinal front) o)) (in_order way (last_ts front) t) (next_in_order way (last_ts front) some)) in
        let less : Room rows o (later way t) (behind n front) = room_less rows o (later way (last_ts front)) (behind n front + 1) (later way t) (behind n front) room (inr (λ le. omega (arith, le, later_next way (last_ts front) some))) in
        (t, both (may_follow way front o t) (has_room rows o (later way t) (behind n front)) order (room_true rows o (later way t) (behind n front) less), next_fits way (last_ts front) some s.ts)

-- where a record follows, its ordinal can stand there
pub ordinal_stands : (way : Way) (rows n : ℕ) (front : List Delta) (d : Delta) → NextRecord way rows n front d → is_ordinal way rows n front d.ordinal ≡ true
ordinal_stands way rows n front d next = both (may_come rows front d.ordinal) (has_ts way rows n front d.ordinal) next.follows.comes (elim (or_cases (eqb (length front) 0) _ next.follows.order) [
  | inl none ↦ or_left (eqb (length front) 0) _ none
  | inr more ↦ or_right (eqb (length front) 0) _ (elim (or_cases (not (eqb (last_ordinal front) d.ordinal)) (in_order way (last_ts front) d.ts) more) [
    | inl other ↦ or_left (not (eqb (last_ordinal front) d.ordinal)) (may_go_on way rows d.ordinal (last_ts front) (behind n front)) other
    | inr order ↦ or_right (not (eqb (last_ordinal front) d.ordinal)) (may_go_on way rows d.ordinal (last_ts front) (behind n front)) (goes order)
  ])
])
  where
    goes : in_order way (last_ts front) d.ts ≡ true → may_go_on way rows d.ordinal (last_ts front) (behind n front) ≡ true
    goes order =
        let less = later_less way (last_ts front) d.ts order next.follows.ts in
        both (leb 1 (later way (last_ts front))) (has_room rows d.ordinal (later way (last_ts front)) (behind n front + 1)) (le-leb _ _ (omega (arith, less)))
        (room_true rows d.ordinal (later way (last_ts front)) (behind n front + 1) (room_less rows d.ordinal (later way d.ts) (behind n front) (later way (last_ts front)) (behind n front + 1) next.room (inr (λ le. omega (arith, le, less)))))

-- ---- records in order have room

follows_room : (way : Way) (rows m : ℕ) (front : List Delta) (d e : Delta) → Follows way rows (front ++ d ∷ []) e → Room rows e.ordinal (later way e.ts) m → Room rows d.ordinal (later way d.ts) (suc m)
follows_room way rows m front d e follows room =
    let longer : 0 < length (front ++ d ∷ []) = omega (arith, length_push front d) in
    let below : e.ordinal < rows = ltb-true _ _ (both_right (leb (last_ordinal (front ++ d ∷ [])) e.ordinal) (ltb e.ordinal rows) follows.comes) in
    let o = last_ordinal_push front d in
    let t = last_ts_push front d in
    elim (follows_last way rows (length (front ++ d ∷ [])) (last_ordinal (front ++ d ∷ [])) (last_ts (front ++ d ∷ [])) e.ordinal e.ts longer follows.comes follows.order) [
      | inl less ↦ inl (omega (arith, less, o, below), omega (arith, less, o, follows.ordinal))
      | inr same ↦
          let order : in_order way d.ts e.ts ≡ true = subst (λ (k : ℕ). in_order way k e.ts ≡ true) t same.1 in
          let ordinals : e.ordinal ≡ d.ordinal = sym same.0 ∙ o in
          let here : Room rows d.ordinal (later way e.ts) m = subst (λ (k : ℕ). Room rows k (later way e.ts) m) ordinals room in
          room_less rows d.ordinal (later way e.ts) m (later way d.ts) (suc m) here (inr (λ le. omega (arith, le, later_less way d.ts e.ts order follows.ts)))
    ]

records_room : (way : Way) (rows : ℕ) (front : List Delta) (d : Delta) (list : List Delta) → EachAfter (Follows way rows) front (d ∷ list) → Room rows d.ordinal (later way d.ts) (length list)
records_room way rows front d [] each = inr (omega arith)
records_room way rows front d (e ∷ list) each = follows_room way rows (length list) front d e each.1.0 (records_room way rows (front ++ d ∷ []) e list each.1)

pub each_next : (way : Way) (rows n : ℕ) (front list : List Delta) → length front + length list ≡ n → EachAfter (Follows way rows) front list → EachAfter (NextRecord way rows n) front list
each_next way rows n front [] len each = tt
each_next way rows n front (d ∷ list) len each =
    let left : length list ≡ behind n front = omega (arith, len) in
    (record { follows = each.0; room = subst (Room rows d.ordinal (later way d.ts)) left (records_room way rows front d list each) }, each_next way rows n (front ++ d ∷ []) list (omega (arith, len, length_push front d)) each.1)

pub each_follows : (way : Way) (rows n : ℕ) (front list : List Delta) → EachAfter (NextRecord way rows n) front list → EachAfter (Follows way rows) front list
each_follows way rows n front [] each = tt
each_follows way rows n front (d ∷ list) each = (each.0.follows, each_follows way rows n (front ++ d ∷ []) list each.1)

-- ---- what code reads of the last record

pub ts_other : (way : Way) (rows n : ℕ) (list : List Delta) (d : Delta) (ordinal : ℕ) → 1 ≤ length list → d ≡ get_or list (length list - 1) d → d.ordinal ≢ ordinal → not (eqb d.ordinal ordinal) ≡ has_ts way rows n list ordinal
ts_other way rows n list d ordinal some is other =
    let apart : eqb d.ordinal ordinal ≡ false = ne_eqb d.ordinal ordinal other in
    let here : eqb (last_ordinal list) ordinal ≡ false = rw (← last_ordinal_is list d some is) apart in
    rw (some_none (length list) some, here, apart) refl

pub ts_same : (way : Way) (rows n : ℕ) (list : List Delta) (d : Delta) (ordinal m : ℕ) (r : Bool) → 1 ≤ length list → d ≡ get_or list (length list - 1) d → d.ordinal ≡ ordinal → m ≡ behind n list → r ≡ may_go_on way rows ordinal d.ts m → r ≡ has_ts way rows n list ordinal
ts_same way rows n list d ordinal m r some is same left e =
    let here : eqb (last_ordinal list) ordinal ≡ true = eq-eqb (last_ordinal list) ordinal (sym (last_ordinal_is list d some is) ∙ same) in
    let tested : r ≡ may_go_on way rows ordinal (last_ts list) (behind n list) = e ∙ ap (may_go_on way rows ordinal d.ts) left ∙ ap (λ (t : ℕ). may_go_on way rows ordinal t (behind n list)) (last_ts_is list d some is) in
    rw (some_none (length list) some, here) tested
