-- The order of a file's records.
use Rattle.std.proofs.Common.{◌≡◌, ◌≢◌, ℕ, zero, suc, ◌+◌, ◌-◌, ◌^◌, ◌<◌, ◌≤◌, Bool, true, false, not, ◌&&◌, ◌||◌, eqb, leb, ltb, List, [], ◌∷◌, ◌++◌, length, get_or, take, refl, sym, ap, subst, ◌∙◌, arith, inl, inr}
use Rattle.std.specs.Prelude.{◌⊎◌}
use Rattle.std.proofs.lemmas.Bool.{cases_lt, ltb-true, lt-ltb, leb-true, eq-eqb, ne_eqb}
use Rattle.std.proofs.lemmas.List.{length-take}
use Rattle.kt_cells.proofs.Items.{each_at}
use Rattle.kt_history.specs.declared.changes.Delta.{Delta}
use Rattle.kt_cells.specs.Rules.{EachAfter}
use Rattle.kt_deltafile.specs.declared.file.Way.{Way}
use Rattle.kt_deltafile.specs.declared.file.Way.TheVariants.{Redo, Undo}
use Rattle.kt_deltafile.specs.Order.{in_order, ordinal_at, ts_at, last_ordinal, last_ts, may_follow, IsSorted}
use Rattle.kt_deltafile.specs.Rules.{Follows, FileFits, IsFile}

pub ordinal_is : (list : List Delta) (i : ℕ) (d : Delta) → i < length list → ordinal_at list i ≡ (get_or list i d).ordinal
ordinal_is [] i d lt = absurd (omega arith)
ordinal_is (e ∷ list) zero d lt = refl
ordinal_is (e ∷ list) (suc i) d lt = ordinal_is list i d (omega arith)

pub ts_is : (list : List Delta) (i : ℕ) (d : Delta) → i < length list → ts_at list i ≡ (get_or list i d).ts
ts_is [] i d lt = absurd (omega arith)
ts_is (e ∷ list) zero d lt = refl
ts_is (e ∷ list) (suc i) d lt = ts_is list i d (omega arith)

-- the second record stands behind the first
abbrev pub Behind : Way → ℕ → ℕ → ℕ → ℕ → Type 0
Behind way o t p u = (o < p) ⊎ ((o ≡ p) × (in_order way t u ≡ true))

order_trans : (way : Way) (a b c : ℕ) → in_order way a b ≡ true → in_order way b c ≡ true → in_order way a c ≡ true
order_trans Redo a b c h k = lt-ltb a c (omega (arith, ltb-true a b h, ltb-true b c k))
order_trans Undo a b c h k = lt-ltb c a (omega (arith, ltb-true b a h, ltb-true c b k))

behind_trans : (way : Way) (o t p u q v : ℕ) → Behind way o t p u → Behind way p u q v → Behind way o t q v
behind_trans way o t p u q v (inl a) (inl b) = inl (omega (arith, a, b))
behind_trans way o t p u q v (inl a) (inr b) = inl (omega (arith, a, b.0))
behind_trans way o t p u q v (inr a) (inl b) = inl (omega (arith, a.0, b))
behind_trans way o t p u q v (inr a) (inr b) = inr (a.0 ∙ b.0, order_trans way t u v a.1 b.1)

-- ---- from each record behind those before it

ordinal-take : (list : List Delta) (n k : ℕ) → k < n → ordinal_at (take n list) k ≡ ordinal_at list k
ordinal-take list zero k lt = absurd (omega arith)
ordinal-take [] (suc n) k lt = refl
ordinal-take (d ∷ list) (suc n) zero lt = refl
ordinal-take (d ∷ list) (suc n) (suc k) lt = ordinal-take list n k (omega arith)

ts-take : (list : List Delta) (n k : ℕ) → k < n → ts_at (take n list) k ≡ ts_at list k
ts-take list zero k lt = absurd (omega arith)
ts-take [] (suc n) k lt = refl
ts-take (d ∷ list) (suc n) zero lt = refl
ts-take (d ∷ list) (suc n) (suc k) lt = ts-take list n k (omega arith)

pub both_left : (a b : Bool) → (a && b) ≡ true → a ≡ true
both_left true b e = refl
both_left false b e = absurd cc

other_one : (a b : Bool) → a ≡ false → (a || b) ≡ true → b ≡ true
other_one a b is e = sym (ap (λ (a : Bool). a || b) is) ∙ e

-- what may follow stands behind the last record
pub follows_last : (way : Way) (rows n o t p u : ℕ) → 0 < n → (leb o p && ltb p rows) ≡ true → (eqb n 0 || (not (eqb o p) || in_order way t u)) ≡ true → Behind way o t p u
follows_last way rows n o t p u some comes follows =
    let le : o ≤ p = leb-true o p (both_left (leb o p) (ltb p rows) comes) in
    elim (cases_lt o p) [
      | inl lt ↦ inl lt
      | inr ge ↦
          let same : o ≡ p = omega arith in
          let not_none : eqb n 0 ≡ false = ne_eqb n 0 (λ e. omega (arith, e, some)) in
          let rest = other_one (eqb n 0) (not (eqb o p) || in_order way t u) not_none follows in
          let is : not (eqb o p) ≡ false = ap not (eq-eqb o p same) in
          inr (same, other_one (not (eqb o p)) (in_order way t u) is rest)
    ]

next_behind : (way : Way) (rows : ℕ) (list : List Delta) (d : Delta) → EachAfter (Follows way rows) [] list → (k : ℕ) → suc k < length list → Behind way (ordinal_at list k) (ts_at list k) (ordinal_at list (suc k)) (ts_at list (suc k))
next_behind way rows list d each k lt =
    let f : Follows way rows (take (suc k) list) (get_or list (suc k) d) = each_at (Follows way rows) list [] (suc k) d each lt in
    let n : length (take (suc k) list) ≡ suc k = omega (arith, length-take (suc k) list) in
    let at : length (take (suc k) list) - 1 ≡ k = omega arith in
    let o : last_ordinal (take (suc k) list) ≡ ordinal_at list k = ap (ordinal_at (take (suc k) list)) at ∙ ordinal-take list (suc k) k (omega arith) in
    let t : last_ts (take (suc k) list) ≡ ts_at list k = ap (ts_at (take (suc k) list)) at ∙ ts-take list (suc k) k (omega arith) in
    let b = follows_last way rows (length (take (suc k) list)) (last_ordinal (take (suc k) list)) (last_ts (take (suc k) list)) (get_or list (suc k) d).ordinal (get_or list (suc k) d).ts (omega arith) f.comes f.order in
    subst2 o t b
  where
    Goal : ℕ → ℕ → Type 0
    Goal x y = Behind way x y (ordinal_at list (suc k)) (ts_at list (suc k))

    here_o : ordinal_at list (suc k) ≡ (get_or list (suc k) d).ordinal
    here_o = ordinal_is list (suc k) d lt

    here_t : ts_at list (suc k) ≡ (get_or list (suc k) d).ts
    here_t = ts_is list (suc k) d lt

    subst2 : {x y : ℕ} → x ≡ ordinal_at list k → y ≡ ts_at list k → Behind way x y (get_or list (suc k) d).ordinal (get_or list (suc k) d).ts → Behind way (ordinal_at list k) (ts_at list k) (ordinal_at list (suc k)) (ts_at list (suc k))
    subst2 {x} {y} ex ey b = rw (← ex, ← ey, here_o, here_t) b

far_behind : (way : Way) (list : List Delta) → ((k : ℕ) → suc k < length list → Behind way (ordinal_at list k) (ts_at list k) (ordinal_at list (suc k)) (ts_at list (suc k)))
    → (n i : ℕ) → suc i + n < length list → Behind way (ordinal_at list i) (ts_at list i) (ordinal_at list (suc i + n)) (ts_at list (suc i + n))
far_behind way list next zero i lt = let same : suc i + 0 ≡ suc i = omega arith in rw same (next i (omega arith))
far_behind way list next (suc n) i lt =
    let same : suc i + suc n ≡ suc (suc i + n) = omega arith in
    let before = far_behind way list next n i (omega arith) in
    rw same (behind_trans way (ordinal_at list i) (ts_at list i) (ordinal_at list (suc i + n)) (ts_at list (suc i + n)) (ordinal_at list (suc (suc i + n))) (ts_at list (suc (suc i + n))) before (next (suc i + n) (omega arith)))

pub is_sorted : (way : Way) (rows : ℕ) (list : List Delta) → EachAfter (Follows way rows) [] list → IsSorted way list
is_sorted way rows [] each i j lt less = absurd (omega arith)
is_sorted way rows (d ∷ list) each i j lt less =
    let gap : suc i + (j - suc i) ≡ j = omega arith in
    let b = far_behind way (d ∷ list) (next_behind way rows (d ∷ list) d each) (j - suc i) i (omega arith) in
    subst (λ (k : ℕ). Behind way (ordinal_at (d ∷ list) i) (ts_at (d ∷ list) i) (ordinal_at (d ∷ list) k) (ts_at (d ∷ list) k)) gap b

pub ordinals_rise : (way : Way) (rows : ℕ) (list : List Delta) → EachAfter (Follows way rows) [] list → (i j : ℕ) → i ≤ j → j < length list → ordinal_at list i ≤ ordinal_at list j
ordinals_rise way rows list each i j le lt = elim (cases_lt i j) [
  | inl less ↦ at_most (is_sorted way rows list each i j less lt)
  | inr ge ↦ let same : i ≡ j = omega arith in subst (λ (k : ℕ). ordinal_at list i ≤ ordinal_at list k) same (omega arith)
]
  where
    at_most : Behind way (ordinal_at list i) (ts_at list i) (ordinal_at list j) (ts_at list j) → ordinal_at list i ≤ ordinal_at list j
    at_most (inl a) = omega (arith, a)
    at_most (inr a) = omega (arith, a.0)

-- ---- more rows

pub both : (a b : Bool) → a ≡ true → b ≡ true → (a && b) ≡ true
both a b p q = ap (λ (a : Bool). a && b) p ∙ q

pub both_right : (a b : Bool) → (a && b) ≡ true → b ≡ true
both_right true b e = e
both_right false b e = absurd cc

follows_more : (way : Way) (rows more : ℕ) → rows ≤ more → (front : List Delta) (d : Delta) → Follows way rows front d → Follows way more front d
follows_more way rows more le front d f =
    let below : d.ordinal < rows = ltb-true d.ordinal rows (both_right (leb (last_ordinal front) d.ordinal) (ltb d.ordinal rows) f.comes) in
    record {
      comes = both (leb (last_ordinal front) d.ordinal) (ltb d.ordinal more) (both_left (leb (last_ordinal front) d.ordinal) (ltb d.ordinal rows) f.comes) (lt-ltb d.ordinal more (omega arith));
      ordinal = f.ordinal;
      order = f.order;
      ts = f.ts;
      change = f.change;
    }

each_more : (way : Way) (rows more : ℕ) → rows ≤ more → (front list : List Delta) → EachAfter (Follows way rows) front list → EachAfter (Follows way more) front list
each_more way rows more le front [] each = tt
each_more way rows more le front (d ∷ list) each = (follows_more way rows more le front d each.0, each_more way rows more le (front ++ d ∷ []) list each.1)

pub is_file : (way : Way) (rows : ℕ) (list : List Delta) → rows ≤ 2 ^ 32 → FileFits way rows list → IsFile way list
is_file way rows list le fits = record { count = fits.count; each = each_more way rows (2 ^ 32) le [] list fits.each }

-- ---- what code reads of a record

-- the last record's fields
pub last_ordinal_is : (list : List Delta) (d : Delta) → 1 ≤ length list → d ≡ get_or list (length list - 1) d → d.ordinal ≡ last_ordinal list
last_ordinal_is list d some is = ap (λ (e : Delta). e.ordinal) is ∙ sym (ordinal_is list (length list - 1) d (omega arith))

pub last_ts_is : (list : List Delta) (d : Delta) → 1 ≤ length list → d ≡ get_or list (length list - 1) d → d.ts ≡ last_ts list
last_ts_is list d some is = ap (λ (e : Delta). e.ts) is ∙ sym (ts_is list (length list - 1) d (omega arith))

pub some_none : (n : ℕ) → 1 ≤ n → eqb n 0 ≡ false
some_none n some = ne_eqb n 0 (λ e. omega (arith, e, some))

-- another row's record may have any timestamp
pub follows_other : (way : Way) (list : List Delta) (d : Delta) (ordinal ts : ℕ) → 1 ≤ length list → d ≡ get_or list (length list - 1) d → d.ordinal ≢ ordinal → not (eqb d.ordinal ordinal) ≡ may_follow way list ordinal ts
follows_other way list d ordinal ts some is other =
    let apart : eqb d.ordinal ordinal ≡ false = ne_eqb d.ordinal ordinal other in
    let here : eqb (last_ordinal list) ordinal ≡ false = rw (← last_ordinal_is list d some is) apart in
    rw (some_none (length list) some, here, apart) refl

-- a record of the same row stands in order
pub follows_same : (way : Way) (list : List Delta) (d : Delta) (ordinal ts : ℕ) (r : Bool) → 1 ≤ length list → d ≡ get_or list (length list - 1) d → d.ordinal ≡ ordinal → r ≡ in_order way d.ts ts → r ≡ may_follow way list ordinal ts
follows_same way list d ordinal ts r some is same e =
    let here : eqb (last_ordinal list) ordinal ≡ true = eq-eqb (last_ordinal list) ordinal (sym (last_ordinal_is list d some is) ∙ same) in
    rw (some_none (length list) some, here, ← last_ts_is list d some is) e

-- the halves of a search
pub all_before : (list : List Delta) (ordinal mid : ℕ) → ((i j : ℕ) → i ≤ j → j < length list → ordinal_at list i ≤ ordinal_at list j) → mid < length list → ordinal_at list mid < ordinal → (i : ℕ) → i < mid + 1 → ordinal_at list i < ordinal
all_before list ordinal mid rise within below i lt = omega (arith, rise i mid (omega arith) within, below)

pub all_behind : (list : List Delta) (ordinal mid : ℕ) → ((i j : ℕ) → i ≤ j → j < length list → ordinal_at list i ≤ ordinal_at list j) → ordinal ≤ ordinal_at list mid → (i : ℕ) → mid ≤ i → i < length list → ordinal ≤ ordinal_at list i
all_behind list ordinal mid rise above i le lt = omega (arith, rise mid i le lt, above)
