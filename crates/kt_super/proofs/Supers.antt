-- The superblock of an image, by what its two slots tell.
use Rattle.std.proofs.Common.{◌≡◌, ◌≢◌, ◌⊎◌, ℕ, ◌+◌, ◌%◌, Bool, true, false, cond, eqb, ltb, List, Option, Some, None, Result, Ok, Err, inl, inr, refl, sym, ◌∙◌, ap, subst, arith}
use Rattle.std.proofs.lemmas.Bool.{cases_eq, eqb-true, eqb-false, le-ltb, lt-ltb}
use Rattle.kt_disk.specs.Disk.{Files, bytes_of, held}
use Rattle.kt_super.specs.declared.refusal.Place.{Place}
use Rattle.kt_super.specs.declared.meta.Meta.{Meta}
use Rattle.kt_super.specs.Body.{slot_for}
use Rattle.kt_super.specs.Spellings.{superblock_is_told}
use Rattle.kt_super.specs.Slots.{slot_at, of_both, super_of, IsSlot, next_number, IsNext, IsOldOrNone}
use Rattle.kt_super.proofs.SlotLaws.{slot_fits}

-- a number and the one above it have different slots
turns_even : (n : ℕ) → (n % 2 ≡ 1 → ⊥) → ((n + 1) % 2 ≡ 1 → ⊥) → ⊥
turns_even n even next_even = elim (cases_eq (n % 2) 0) [
  | inl zero_is ↦ next_even (omega (arith, zero_is))
  | inr other ↦ even (omega (arith, other))
]

abbrev slot_if : Bool → ℕ
slot_if b = cond b 1 2

turns : (n : ℕ) (b c : Bool) → eqb (n % 2) 1 ≡ b → eqb ((n + 1) % 2) 1 ≡ c → slot_if c ≡ slot_if b → ⊥
turns n true true was is same =
    let odd : n % 2 ≡ 1 = eqb-true (n % 2) 1 was in
    let odd_next : (n + 1) % 2 ≡ 1 = eqb-true ((n + 1) % 2) 1 is in
    omega (arith, odd, odd_next)
turns n true false was is same = absurd cc
turns n false true was is same = absurd cc
turns n false false was is same =
    turns_even n (eqb-false (n % 2) 1 was) (eqb-false ((n + 1) % 2) 1 is)

takes_turns : (n : ℕ) → slot_for (n + 1) ≡ slot_for n → ⊥
takes_turns n same = turns n (eqb (n % 2) 1) (eqb ((n + 1) % 2) 1) refl refl same

-- what a slot tells has a number that fits it
abbrev pub Fits : ℕ → Result (Option Meta) ℕ → Type 0
Fits slot told = (m : Meta) → told ≡ Ok (Some m) → slot_for m.number ≡ slot

ok_is : (x y : Option Meta) → of_both (Ok x) (Ok None) ≡ of_both (Ok y) (Ok None) → x ≡ y
ok_is None None e = refl
ok_is None (Some y) e = absurd cc
ok_is (Some x) None e = absurd cc
ok_is (Some x) (Some y) e = cc

module _ (number : ℕ) where
  -- of the two, the one with the next number's slot does not count
  first_closes : (one two : Result (Option Meta) ℕ) → Fits 1 one → IsNext (of_both one two) number → slot_for number ≡ 1 → of_both (Ok None) two ≡ of_both one two
  first_closes (Err offset) two fits next here = absurd (let e = next.found_is in cc)
  first_closes (Ok None) two fits next here = refl
  first_closes (Ok (Some m)) (Err offset) fits next here = absurd (let e = next.found_is in cc)
  first_closes (Ok (Some m)) (Ok None) fits next here =
      let is : next.open_one ≡ Some m = let e = next.found_is in cc in
      let above : number ≡ m.number + 1 = next.number_is ∙ ap next_number is in
      absurd (takes_turns m.number (ap slot_for (sym above) ∙ here ∙ sym (fits m refl)))
  first_closes (Ok (Some m)) (Ok (Some k)) fits next here = pick (ltb m.number k.number) refl
    where
      pick : (b : Bool) → ltb m.number k.number ≡ b → of_both (Ok None) (Ok (Some k)) ≡ of_both (Ok (Some m)) (Ok (Some k))
      pick true below = rw below refl
      pick false below =
          let found : of_both (Ok (Some m)) (Ok (Some k)) ≡ Ok (Some m) = rw below refl in
          let is : next.open_one ≡ Some m = let e = sym found ∙ next.found_is in cc in
          let above : number ≡ m.number + 1 = next.number_is ∙ ap next_number is in
          absurd (takes_turns m.number (ap slot_for (sym above) ∙ here ∙ sym (fits m refl)))

  second_closes : (one two : Result (Option Meta) ℕ) → Fits 2 two → IsNext (of_both one two) number → slot_for number ≡ 2 → of_both one (Ok None) ≡ of_both one two
  second_closes (Err offset) two fits next here = refl
  second_closes (Ok one) (Err offset) fits next here = absurd (let e = next.found_is in cc)
  second_closes (Ok one) (Ok None) fits next here = refl
  second_closes (Ok None) (Ok (Some k)) fits next here =
      let is : next.open_one ≡ Some k = let e = next.found_is in cc in
      let above : number ≡ k.number + 1 = next.number_is ∙ ap next_number is in
      absurd (takes_turns k.number (ap slot_for (sym above) ∙ here ∙ sym (fits k refl)))
  second_closes (Ok (Some m)) (Ok (Some k)) fits next here = pick (ltb m.number k.number) refl
    where
      pick : (b : Bool) → ltb m.number k.number ≡ b → of_both (Ok (Some m)) (Ok None) ≡ of_both (Ok (Some m)) (Ok (Some k))
      pick false below = rw below refl
      pick true below =
          let found : of_both (Ok (Some m)) (Ok (Some k)) ≡ Ok (Some k) = rw below refl in
          let is : next.open_one ≡ Some k = let e = sym found ∙ next.found_is in cc in
          let above : number ≡ k.number + 1 = next.number_is ∙ ap next_number is in
          absurd (takes_turns k.number (ap slot_for (sym above) ∙ here ∙ sym (fits k refl)))

-- a slot that is closed in an image leaves the superblock as it was, where it is the next one's
module _ (base c : Files) (number : ℕ) (next : IsNext (super_of base) number) where
  first_kept : slot_for number ≡ 1 → c 2 ≡ base 2 → IsOldOrNone (slot_at 1 (held base 1)) (slot_at 1 (held c 1)) → super_of c ≡ super_of base
  first_kept here same told =
      let two : slot_at 2 (held c 2) ≡ slot_at 2 (held base 2) = ap (λ (x : Option (List ℕ)). slot_at 2 (bytes_of x)) same in
      elim told [
        | inl kept ↦ ap (λ (r : Result (Option Meta) ℕ). of_both r (slot_at 2 (held c 2))) kept ∙ ap (λ (r : Result (Option Meta) ℕ). of_both (slot_at 1 (held base 1)) r) two
        | inr none ↦
            ap (λ (r : Result (Option Meta) ℕ). of_both r (slot_at 2 (held c 2))) none ∙ ap (λ (r : Result (Option Meta) ℕ). of_both (Ok None) r) two
            ∙ first_closes number (slot_at 1 (held base 1)) (slot_at 2 (held base 2)) (λ m e. slot_fits 1 (held base 1) m e) next here
      ]

  second_kept : slot_for number ≡ 2 → c 1 ≡ base 1 → IsOldOrNone (slot_at 2 (held base 2)) (slot_at 2 (held c 2)) → super_of c ≡ super_of base
  second_kept here same told =
      let one : slot_at 1 (held c 1) ≡ slot_at 1 (held base 1) = ap (λ (x : Option (List ℕ)). slot_at 1 (bytes_of x)) same in
      elim told [
        | inl kept ↦ ap (λ (r : Result (Option Meta) ℕ). of_both r (slot_at 2 (held c 2))) one ∙ ap (λ (r : Result (Option Meta) ℕ). of_both (slot_at 1 (held base 1)) r) kept
        | inr none ↦
            ap (λ (r : Result (Option Meta) ℕ). of_both r (slot_at 2 (held c 2))) one ∙ ap (λ (r : Result (Option Meta) ℕ). of_both (slot_at 1 (held base 1)) r) none
            ∙ second_closes number (slot_at 1 (held base 1)) (slot_at 2 (held base 2)) (λ m e. slot_fits 2 (held base 2) m e) next here
      ]

  pub kept : (slot : ℕ) → IsSlot slot → slot_for number ≡ slot → ((n : ℕ) → IsSlot n → n ≢ slot → c n ≡ base n) → IsOldOrNone (slot_at slot (held base slot)) (slot_at slot (held c slot)) → super_of c ≡ super_of base
  kept slot (inl one) here others told =
      first_kept (here ∙ one) (others 2 (inr refl) (λ e. let f : 2 ≡ 1 = e ∙ one in absurd cc)) (subst (λ (k : ℕ). IsOldOrNone (slot_at k (held base k)) (slot_at k (held c k))) one told)
  kept slot (inr two) here others told =
      second_kept (here ∙ two) (others 1 (inl refl) (λ e. let f : 1 ≡ 2 = e ∙ two in absurd cc)) (subst (λ (k : ℕ). IsOldOrNone (slot_at k (held base k)) (slot_at k (held c k))) two told)

-- ---- opening

abbrev IsOldOrNew : Result (Option Meta) Place → Meta → Result (Option Meta) Place → Type 0
IsOldOrNew old m s = (s ≡ old) ⊎ (s ≡ Ok (Some m))

-- a superblock with the next number is the newer one
first_opens : (m : Meta) (two : Result (Option Meta) ℕ) → IsNext (of_both (Ok None) two) m.number → of_both (Ok (Some m)) two ≡ Ok (Some m)
first_opens m (Err offset) next = absurd (let e = next.found_is in cc)
first_opens m (Ok None) next = refl
first_opens m (Ok (Some k)) next =
    let is : next.open_one ≡ Some k = let e = next.found_is in cc in
    let above : m.number ≡ k.number + 1 = next.number_is ∙ ap next_number is in
    let less : ltb m.number k.number ≡ false = le-ltb m.number k.number (omega (arith, above)) in
    rw less refl

second_opens : (m : Meta) (one : Result (Option Meta) ℕ) → IsNext (of_both one (Ok None)) m.number → of_both one (Ok (Some m)) ≡ Ok (Some m)
second_opens m (Err offset) next = absurd (let e = next.found_is in cc)
second_opens m (Ok None) next = refl
second_opens m (Ok (Some k)) next =
    let is : next.open_one ≡ Some k = let e = next.found_is in cc in
    let above : m.number ≡ k.number + 1 = next.number_is ∙ ap next_number is in
    let less : ltb k.number m.number ≡ true = lt-ltb k.number m.number (omega (arith, above)) in
    rw less refl

module _ (base c : Files) (m : Meta) (next : IsNext (super_of base) m.number) where
  first_new : slot_at 1 (held base 1) ≡ Ok None → c 2 ≡ base 2 → slot_at 1 (held c 1) ≡ Ok (Some m) → super_of c ≡ Ok (Some m)
  first_new closed same told =
      ap (λ (r : Result (Option Meta) ℕ). of_both r (slot_at 2 (held c 2))) told ∙ ap (λ (x : Option (List ℕ)). of_both (Ok (Some m)) (slot_at 2 (bytes_of x))) same
      ∙ first_opens m (slot_at 2 (held base 2)) (subst (λ (r : Result (Option Meta) ℕ). IsNext (of_both r (slot_at 2 (held base 2))) m.number) closed next)

  second_new : slot_at 2 (held base 2) ≡ Ok None → c 1 ≡ base 1 → slot_at 2 (held c 2) ≡ Ok (Some m) → super_of c ≡ Ok (Some m)
  second_new closed same told =
      ap (λ (r : Result (Option Meta) ℕ). of_both (slot_at 1 (held c 1)) r) told ∙ ap (λ (x : Option (List ℕ)). of_both (slot_at 1 (bytes_of x)) (Ok (Some m))) same
      ∙ second_opens m (slot_at 1 (held base 1)) (subst (λ (r : Result (Option Meta) ℕ). IsNext (of_both (slot_at 1 (held base 1)) r) m.number) closed next)

  pub new : (slot : ℕ) → IsSlot slot → slot_at slot (held base slot) ≡ Ok None → ((n : ℕ) → IsSlot n → n ≢ slot → c n ≡ base n) → slot_at slot (held c slot) ≡ Ok (Some m) → super_of c ≡ Ok (Some m)
  new slot (inl one) closed others told =
      first_new (subst (λ (k : ℕ). slot_at k (held base k) ≡ Ok None) one closed) (others 2 (inr refl) (λ e. let f : 2 ≡ 1 = e ∙ one in absurd cc)) (subst (λ (k : ℕ). slot_at k (held c k) ≡ Ok (Some m)) one told)
  new slot (inr two) closed others told =
      second_new (subst (λ (k : ℕ). slot_at k (held base k) ≡ Ok None) two closed) (others 1 (inl refl) (λ e. let f : 1 ≡ 2 = e ∙ two in absurd cc)) (subst (λ (k : ℕ). slot_at k (held c k) ≡ Ok (Some m)) two told)

-- the slot of a number is one of the two
pub slot_is : (n : ℕ) → IsSlot (slot_for n)
slot_is n = pick (eqb (n % 2) 1)
  where
    pick : (b : Bool) → IsSlot (cond b 1 2)
    pick true = inl refl
    pick false = inr refl

-- the same number comes next where the superblock is the same
pub next_is : (number : ℕ) (old same : Result (Option Meta) Place) → old ≡ same → IsNext old number → IsNext same number
next_is number old same is next = record { open_one = next.open_one; found_is = sym is ∙ next.found_is; number_is = next.number_is }

-- the superblock of both slots is that of one
told_by_one : (m : Meta) (one two : Result (Option Meta) ℕ) → of_both one two ≡ Ok (Some m) → (one ≡ Ok (Some m)) ⊎ (two ≡ Ok (Some m))
told_by_one m (Err offset) two e = absurd cc
told_by_one m (Ok one) (Err offset) e = absurd cc
told_by_one m (Ok None) (Ok two) e = inr (let same : two ≡ Some m = cc in ap Ok same)
told_by_one m (Ok (Some one)) (Ok None) e = inl (let same : Some one ≡ Some m = cc in ap Ok same)
told_by_one m (Ok (Some one)) (Ok (Some two)) e = by (ltb one.number two.number) refl
  where
    by : (b : Bool) → ltb one.number two.number ≡ b → ◌≡◌ {A = Result (Option Meta) ℕ} (Ok (Some one)) (Ok (Some m)) ⊎ ◌≡◌ {A = Result (Option Meta) ℕ} (Ok (Some two)) (Ok (Some m))
    by true below = inr (let found : of_both (Ok (Some one)) (Ok (Some two)) ≡ Ok (Some two) = rw below refl in let same : Some two ≡ Some m = (let both = sym found ∙ e in cc) in ap Ok same)
    by false below = inl (let found : of_both (Ok (Some one)) (Ok (Some two)) ≡ Ok (Some one) = rw below refl in let same : Some one ≡ Some m = (let both = sym found ∙ e in cc) in ap Ok same)

pub superblock_told : superblock_is_told
superblock_told files m e = elim (told_by_one m (slot_at 1 (held files 1)) (slot_at 2 (held files 2)) e) [
  | inl one ↦ (1, inl refl, one)
  | inr two ↦ (2, inr refl, two)
]
