-- Whether a row is there after records, told by the newest that is no update.
use Rattle.std.proofs.Common.{◌≡◌, ◌≤◌, ◌<◌, ◌+◌, ℕ, suc, Bool, true, false, cond, List, [], ◌∷◌, ◌++◌, drop, length, get_or, drop-cons, Option, Some, None, inl, inr, refl, sym, ap, ◌∙◌, arith}
use Rattle.std.specs.Prelude.{nat_lt, is_some}
use Rattle.std.specs.List.{AllByRecursion}
use Rattle.std.proofs.lemmas.Bool.{cases_lt, lt-ltb, le-ltb}
use Rattle.kt_history.specs.declared.change.Change.{Change}
use Rattle.kt_history.specs.declared.change.Change.TheVariants.{Ins, Upd, Del}
use Rattle.kt_history.specs.declared.changes.Delta.{Delta}
use Rattle.kt_history.specs.Rows.{Row, apply}
use Rattle.kt_history.specs.Stores.{Steps, apply_all}
use Rattle.kt_rowfiles.specs.Files.{records_for, records_in, put_rising, rising}
use Rattle.kt_rowfiles.specs.Reading.{step_in, steps_in}
use Rattle.kt_diskrowset.specs.declared.alive.Verdict.{Verdict}
use Rattle.kt_diskrowset.specs.declared.files.FileHeld.{FileHeld}
use Rattle.kt_diskrowset.specs.Alive.{tells, later_of, joined_by, with_record, verdict_of, alive_by}
use Rattle.kt_diskrowset.specs.Files.{lists_of}

pub verdict-append : (xs ys : Steps) (v : Option Verdict) → verdict_of (xs ++ ys) v ≡ verdict_of xs (verdict_of ys v)
verdict-append [] ys v = refl
verdict-append (c ∷ xs) ys v = ap (with_record c) (verdict-append xs ys v)

-- ---- a record in its place

-- of two verdicts in front of others the newer one may come first
module _ (a b : ℕ) (less : a < b) where
  below : (x y : Bool) (v : Option Verdict) → later_of (record { ts = a; there = x }) (Some (later_of (record { ts = b; there = y }) v)) ≡ later_of (record { ts = b; there = y }) (Some (later_of (record { ts = a; there = x }) v))
  below x y None =
      ap (λ t. cond t (record { ts = a; there = x }) (record { ts = b; there = y })) (le-ltb b a (omega arith))
      ∙ sym (ap (λ t. cond t (record { ts = b; there = y }) (record { ts = a; there = x })) (lt-ltb a b less))
  below x y (Some w) = elim (cases_lt w.ts b) [
    | inl under ↦
        ap (λ t. later_of (record { ts = a; there = x }) (Some (cond t (record { ts = b; there = y }) w))) (lt-ltb w.ts b under)
        ∙ ap (λ t. cond t (record { ts = a; there = x }) (record { ts = b; there = y })) (le-ltb b a (omega arith))
        ∙ sym (elim (cases_lt w.ts a) [
          | inl low ↦
              ap (λ t. later_of (record { ts = b; there = y }) (Some (cond t (record { ts = a; there = x }) w))) (lt-ltb w.ts a low)
              ∙ ap (λ t. cond t (record { ts = b; there = y }) (record { ts = a; there = x })) (lt-ltb a b less)
          | inr high ↦
              ap (λ t. later_of (record { ts = b; there = y }) (Some (cond t (record { ts = a; there = x }) w))) (le-ltb w.ts a high)
              ∙ ap (λ t. cond t (record { ts = b; there = y }) w) (lt-ltb w.ts b under)
        ])
    | inr above ↦
        ap (λ t. later_of (record { ts = a; there = x }) (Some (cond t (record { ts = b; there = y }) w))) (le-ltb w.ts b above)
        ∙ ap (λ t. cond t (record { ts = a; there = x }) w) (le-ltb w.ts a (omega arith))
        ∙ sym (ap (λ t. later_of (record { ts = b; there = y }) (Some (cond t (record { ts = a; there = x }) w))) (le-ltb w.ts a (omega arith))
        ∙ ap (λ t. cond t (record { ts = b; there = y }) w) (le-ltb w.ts b above))
  ]

  swapped_by : (o p : Option Bool) (v : Option Verdict) → joined_by a o (joined_by b p v) ≡ joined_by b p (joined_by a o v)
  swapped_by None p v = refl
  swapped_by (Some x) None v = refl
  swapped_by (Some x) (Some y) v = ap (λ w. Some w) (below x y v)

put_verdict : (c : ℕ × Change) (steps : Steps) (v : Option Verdict) → verdict_of (put_rising c steps) v ≡ with_record c (verdict_of steps v)
put_verdict c [] v = refl
put_verdict c (d ∷ steps) v = elim (cases_lt d.0 c.0) [
  | inl less ↦
      ap (λ t. verdict_of (cond t (d ∷ put_rising c steps) (c ∷ d ∷ steps)) v) (lt-ltb d.0 c.0 less)
      ∙ ap (with_record d) (put_verdict c steps v)
      ∙ swapped_by d.0 c.0 less (tells d.1) (tells c.1) (verdict_of steps v)
  | inr more ↦ ap (λ t. verdict_of (cond t (d ∷ put_rising c steps) (c ∷ d ∷ steps)) v) (le-ltb d.0 c.0 more)
]

pub rising_verdict : (steps : Steps) (v : Option Verdict) → verdict_of (rising steps) v ≡ verdict_of steps v
rising_verdict [] v = refl
rising_verdict (c ∷ steps) v = put_verdict c (rising steps) v ∙ ap (with_record c) (rising_verdict steps v)

-- ---- records that rise

abbrev AllFrom : ℕ → Steps → Type 0
AllFrom ts steps = AllByRecursion (λ (d : ℕ × Change). ts ≤ d.0) steps

abbrev Rise : Steps → Type 0
Rise [] = Unit {0}
Rise (c ∷ steps) = AllFrom c.0 steps × Rise steps

lower : (a b : ℕ) (steps : Steps) → a ≤ b → AllFrom b steps → AllFrom a steps
lower a b [] le h = tt
lower a b (d ∷ steps) le h = (let k = h.0 in omega arith, lower a b steps le h.1)

all_put : (ts : ℕ) (c : ℕ × Change) (steps : Steps) → ts ≤ c.0 → AllFrom ts steps → AllFrom ts (put_rising c steps)
all_put ts c [] le h = (le, tt)
all_put ts c (d ∷ steps) le h = elim (nat_lt d.0 c.0) as (λ b. AllFrom ts (cond b (d ∷ put_rising c steps) (c ∷ d ∷ steps))) [ true ↦ (h.0, all_put ts c steps le h.1) | false ↦ (le, h) ]

rise_put : (c : ℕ × Change) (steps : Steps) → Rise steps → Rise (put_rising c steps)
rise_put c [] h = (tt, tt)
rise_put c (d ∷ steps) h = elim (cases_lt d.0 c.0) [
  | inl less ↦ rw (lt-ltb d.0 c.0 less) (all_put d.0 c steps (omega arith) h.0, rise_put c steps h.1)
  | inr more ↦ rw (le-ltb d.0 c.0 more) ((more, lower c.0 d.0 steps more h.0), h)
]

rise_rising : (steps : Steps) → Rise (rising steps)
rise_rising [] = tt
rise_rising (c ∷ steps) = rise_put c (rising steps) (rise_rising steps)

-- a verdict, if there is one, is of a time from here on
abbrev NotBelow : ℕ → Option Verdict → Type 0
NotBelow ts None = Unit {0}
NotBelow ts (Some v) = ts ≤ v.ts

later_not_below : (ts : ℕ) (v : Verdict) (w : Option Verdict) → ts ≤ v.ts → NotBelow ts w → ts ≤ (later_of v w).ts
later_not_below ts v None le h = le
later_not_below ts v (Some w) le h = elim (nat_lt w.ts v.ts) as (λ b. ts ≤ (cond b v w).ts) [ true ↦ le | false ↦ h ]

joined_not_below : (ts time : ℕ) (o : Option Bool) (v : Option Verdict) → ts ≤ time → NotBelow ts v → NotBelow ts (joined_by time o v)
joined_not_below ts time None v le h = h
joined_not_below ts time (Some there) v le h = later_not_below ts (record { ts = time; there = there }) v le h

not_below : (ts : ℕ) (steps : Steps) → AllFrom ts steps → NotBelow ts (verdict_of steps None)
not_below ts [] h = tt
not_below ts (c ∷ steps) h = joined_not_below ts c.0 (tells c.1) (verdict_of steps None) h.0 (not_below ts steps h.1)

one_alive : (ts : ℕ) (c : Change) (row : Option Row) (v : Option Verdict) → NotBelow ts v → alive_by v (is_some (apply c row)) ≡ alive_by (joined_by ts (tells c) v) (is_some row)
one_alive ts (Upd cells) None v h = refl
one_alive ts (Upd cells) (Some old) v h = refl
one_alive ts (Ins cells) None None h = refl
one_alive ts (Ins cells) (Some old) None h = refl
one_alive ts (Ins cells) row (Some w) h = sym (ap (λ b. (cond b (record { ts = ts; there = true }) w).there) (le-ltb w.ts ts h))
one_alive ts Del row None h = refl
one_alive ts Del row (Some w) h = sym (ap (λ b. (cond b (record { ts = ts; there = false }) w).there) (le-ltb w.ts ts h))

alive_rise : (steps : Steps) (row : Option Row) → Rise steps → is_some (apply_all steps row) ≡ alive_by (verdict_of steps None) (is_some row)
alive_rise [] row h = refl
alive_rise (c ∷ steps) row h = alive_rise steps (apply c.1 row) h.1 ∙ one_alive c.0 c.1 row (verdict_of steps None) (not_below c.0 steps h.0)

-- a row is there after its records as their verdict says
pub alive_after : (steps : Steps) (row : Option Row) → is_some (apply_all (rising steps) row) ≡ alive_by (verdict_of steps None) (is_some row)
alive_after steps row = alive_rise (rising steps) row (rise_rising steps) ∙ ap (λ v. alive_by v (is_some row)) (rising_verdict steps None)

-- ---- one record, and one file, more

rest_is : {X : Type 0} (xs : List X) (i : ℕ) (x : X) → i < length xs → x ≡ get_or xs i x → drop i xs ≡ x ∷ drop (i + 1) xs
rest_is xs i x low is = drop-cons xs i x low ∙ ap (λ y. y ∷ drop (suc i) xs) (sym is) ∙ (let e : suc i ≡ i + 1 = omega arith in ap (λ k. x ∷ drop k xs) e)

pub record_next : (records : List Delta) (i : ℕ) (x : Delta) (behind now new : Option Verdict) → i < length records → x ≡ get_or records i x
    → now ≡ verdict_of (steps_in (drop (i + 1) records)) behind → new ≡ with_record (step_in x) now → new ≡ verdict_of (steps_in (drop i records)) behind
record_next records i x behind now new low is so e = e ∙ ap (with_record (step_in x)) so ∙ sym (ap (λ ds. verdict_of (steps_in ds) behind) (rest_is records i x low is))

pub file_next : (n : ℕ) (files : List FileHeld) (i : ℕ) (f : FileHeld) (steps : Steps) (now new : Option Verdict) → i < length files → f ≡ get_or files i f → steps ≡ records_for n f.deltas.value.list
    → now ≡ verdict_of (records_in n (lists_of (drop (i + 1) files))) None → new ≡ verdict_of steps now → new ≡ verdict_of (records_in n (lists_of (drop i files))) None
file_next n files i f steps now new low is own so e =
    e ∙ ap (verdict_of steps) so ∙ ap (λ s. verdict_of s (verdict_of (records_in n (lists_of (drop (i + 1) files))) None)) own
    ∙ sym (verdict-append (records_for n f.deltas.value.list) (records_in n (lists_of (drop (i + 1) files))) None)
    ∙ sym (ap (λ fs. verdict_of (records_in n (lists_of fs)) None) (rest_is files i f low is))
