-- The places of the stores that names still need.
use Rattle.std.proofs.Common.{◌≡◌, ◌≢◌, ◌<◌, ◌≤◌, ◌+◌, ◌⊎◌, ℕ, zero, suc, Bool, true, false, cond, List, [], ◌∷◌, length, map, get_or, inl, inr, Option, Some, None, refl, sym, ap, ◌∙◌, arith}
use Rattle.std.specs.Prelude.{◌==◌, ◌||◌, not, nat_lt, IfSome}
use Rattle.std.specs.Bool.{then_some}
use Rattle.std.specs.Option.{option_map}
use Rattle.std.specs.List.{cons_option, position, position_or_len}
use Rattle.std.proofs.lemmas.List.{length-map}
use Rattle.std.proofs.lemmas.List.Quantifiers.{position-Some}
use Rattle.std.proofs.lemmas.Bool.{cases_lt, cases_eq}
use Rattle.std.proofs.lemmas.Bool.Decides.{nat_tests}
use Rattle.kt_history.specs.declared.target.Target.{Target}
use Rattle.kt_super.specs.declared.meta.Meta.{Meta}
use Rattle.kt_super.specs.declared.meta.MetaRowset.{MetaRowset}
use Rattle.kt_rowfiles.specs.Files.{DiskRowset}
use Rattle.kt_content.specs.Places.{Super, Place, memory, disk, same_place, last_dms_of, newer, needs, and_place, needed_in}
use Rattle.kt_reopen.specs.declared.needed.Needed.{Needed}
use Rattle.kt_reopen.specs.Bare.{bare, bare_rowset, place_at, places_under, places_needed, LacksPlace, PlacesApart}

-- ---- the last durable DeltaMemStore of a rowset, by its place

last_at : (rs : List MetaRowset) (r i : ℕ) (x : MetaRowset) → i < length rs → x ≡ get_or rs i x → (x.rowset == r) ≡ true → ((k : ℕ) → k < i → ((get_or rs k x).rowset == r) ≡ false)
    → last_dms_of r (map bare_rowset rs) ≡ Some x.last_dms
last_at [] r i x low is here before = absurd (omega arith)
last_at (y ∷ rs) r zero x low is here before =
    ap (λ b. cond b (Some y.last_dms) (last_dms_of r (map bare_rowset rs))) (ap (λ (z : MetaRowset). z.rowset == r) (sym is) ∙ here) ∙ ap (λ (z : MetaRowset). Some z.last_dms) (sym is)
last_at (y ∷ rs) r (suc i) x low is here before =
    ap (λ b. cond b (Some y.last_dms) (last_dms_of r (map bare_rowset rs))) (before 0 (omega arith))
    ∙ last_at rs r i x (omega arith) is here (λ k lt. before (suc k) (omega arith))

-- the position that is found, or none
within : (at n : ℕ) → cond (nat_lt at n) (Some at) None ≡ None → n ≤ at
within at n h = by (nat_lt at n) refl h
  where
    by : (b : Bool) → nat_lt at n ≡ b → cond b (Some at) None ≡ None → n ≤ at
    by true e f = absurd (cc)
    by false e f = grind (arith, nat_tests)

last_past : (rs : List MetaRowset) (r : ℕ) → length rs ≤ position_or_len (λ (x : MetaRowset). x.rowset == r) rs → last_dms_of r (map bare_rowset rs) ≡ None
last_past [] r h = refl
last_past (y ∷ rs) r h = by (y.rowset == r) h (λ past. last_past rs r past)
  where
    by : (b : Bool) → suc (length rs) ≤ cond (not b) (1 + position_or_len (λ (x : MetaRowset). x.rowset == r) rs) 0 → (length rs ≤ position_or_len (λ (x : MetaRowset). x.rowset == r) rs → last_dms_of r (map bare_rowset rs) ≡ None)
        → cond b (Some y.last_dms) (last_dms_of r (map bare_rowset rs)) ≡ None
    by true past more = absurd (omega arith)
    by false past more = more (omega arith)

last_nowhere : (rs : List MetaRowset) (r : ℕ) → position (λ (x : MetaRowset). x.rowset == r) rs ≡ None → last_dms_of r (map bare_rowset rs) ≡ None
last_nowhere rs r h = last_past rs r (within (position_or_len (λ (x : MetaRowset). x.rowset == r) rs) (length rs) h)

disk_at : (rs : List MetaRowset) (i : ℕ) (x : MetaRowset) → i < length rs → x ≡ get_or rs i x → get_or (map (λ (d : DiskRowset). disk d.rowset) (map bare_rowset rs)) i memory ≡ disk x.rowset
disk_at [] i x low is = absurd (omega arith)
disk_at (y ∷ rs) zero x low is = ap (λ (z : MetaRowset). disk z.rowset) (sym is)
disk_at (y ∷ rs) (suc i) x low is = disk_at rs i x (omega arith) is

same_number : (a b : ℕ) → (a == b) ≡ true → a ≡ b
same_number a b h = grind (arith, nat_tests)

by_test : (super : Super) (at : ℕ) (p : Place) (b : Bool) → place_at super at ≡ p → option_map (place_at super) (then_some b at) ≡ cond b (Some p) None
by_test super at p true e = ap (λ q. Some q) e
by_test super at p false e = refl

module _ (m : Meta) (r n : ℕ) where
  -- no rowset has the number
  pub needs_none : position (λ (x : MetaRowset). x.rowset == r) m.rowsets ≡ None → newer (disk r) n (last_dms_of r (bare m).rowsets) ≡ None
  needs_none h = ap (newer (disk r) n) (last_nowhere m.rowsets r h)

  -- the first that has it
  pub needs_at : (i : ℕ) (x : MetaRowset) → position (λ (y : MetaRowset). y.rowset == r) m.rowsets ≡ Some i → x ≡ get_or m.rowsets i x
      → option_map (place_at (bare m)) (then_some (nat_lt x.last_dms n) (1 + i)) ≡ newer (disk r) n (last_dms_of r (bare m).rowsets)
  needs_at i x found is =
      let at = position-Some (λ (y : MetaRowset). y.rowset == r) m.rowsets i x found in
      let here : (x.rowset == r) ≡ true = ap (λ (y : MetaRowset). y.rowset == r) is ∙ at.1 in
      let e : 1 + i ≡ suc i = omega arith in
      let place : place_at (bare m) (1 + i) ≡ disk r = ap (place_at (bare m)) e ∙ disk_at m.rowsets i x at.0 is ∙ ap disk (same_number x.rowset r here) in
      by_test (bare m) (1 + i) (disk r) (nat_lt x.last_dms n) place ∙ sym (ap (newer (disk r) n) (last_at m.rowsets r i x at.0 is here at.2))

-- ---- places, each once

lacks_at : (p : Place) (places : List Place) → LacksPlace p places → (j : ℕ) → j < length places → (d : Place) → same_place p (get_or places j d) ≡ false
lacks_at p [] h j lt d = absurd (omega arith)
lacks_at p (q ∷ places) h zero lt d = h.0
lacks_at p (q ∷ places) h (suc j) lt d = lacks_at p places h.1 j (omega arith) d

apart_at : (places : List Place) → PlacesApart places → (i j : ℕ) → i < j → j < length places → (d : Place) → same_place (get_or places i d) (get_or places j d) ≡ false
apart_at [] h i j lt low d = absurd (omega arith)
apart_at (p ∷ places) h zero zero lt low d = absurd (omega arith)
apart_at (p ∷ places) h zero (suc j) lt low d = lacks_at p places h.0 j (omega arith) d
apart_at (p ∷ places) h (suc i) zero lt low d = absurd (omega arith)
apart_at (p ∷ places) h (suc i) (suc j) lt low d = apart_at places h.1 i j (omega arith) (omega arith) d

turned : (p q : Place) → same_place p q ≡ same_place q p
turned memory memory = refl
turned memory (disk r) = refl
turned (disk r) memory = refl
turned (disk r) (disk s) = grind (arith, nat_tests)

itself : (p : Place) → same_place p p ≡ true
itself memory = refl
itself (disk r) = grind (arith, nat_tests)

pub two_apart : (super : Super) → PlacesApart (places_under super) → (a b : ℕ) → a ≢ b → a < length (places_under super) → b < length (places_under super) → same_place (place_at super a) (place_at super b) ≡ false
two_apart super apart a b differ low low' = elim (cases_lt a b) [
  | inl less ↦ apart_at (places_under super) apart a b less low' memory
  | inr more ↦ turned (place_at super a) (place_at super b) ∙ apart_at (places_under super) apart b a (let e = differ in omega arith) low memory
]

module _ (super : Super) (apart : PlacesApart (places_under super)) where
  -- one place
  pub one_needed : (b : Option ℕ) → map (place_at super) (cons_option b []) ≡ and_place (option_map (place_at super) b) []
  one_needed None = refl
  one_needed (Some b) = refl

  -- two places that are one
  pub same_needed : (b : Option ℕ) → map (place_at super) (cons_option b []) ≡ and_place (option_map (place_at super) b) (and_place (option_map (place_at super) b) [])
  same_needed None = refl
  same_needed (Some b) = ap (λ t. cond (t || false) (place_at super b ∷ []) (place_at super b ∷ place_at super b ∷ [])) (sym (itself (place_at super b)))

  -- two places that are not
  pub two_needed : (a b : Option ℕ) → a ≢ b → IfSome a (λ at. at < length (places_under super)) → IfSome b (λ at. at < length (places_under super))
      → map (place_at super) (cons_option a (cons_option b [])) ≡ and_place (option_map (place_at super) a) (and_place (option_map (place_at super) b) [])
  two_needed None b differ low low' = one_needed b
  two_needed (Some a) None differ low low' = refl
  two_needed (Some a) (Some b) differ low low' =
      let other = two_apart super apart a b (λ e. differ (ap (λ n. Some n) e)) low low' in
      ap (λ t. cond (t || false) (place_at super b ∷ []) (place_at super a ∷ place_at super b ∷ [])) (sym other)

-- ---- the places of two names

same_or : (a b : Option ℕ) → (a ≡ b) ⊎ (a ≢ b)
same_or None None = inl refl
same_or None (Some b) = inr (λ e. cc)
same_or (Some a) None = inr (λ e. cc)
same_or (Some a) (Some b) = elim (cases_eq a b) [
  | inl same ↦ inl (ap (λ n. Some n) same)
  | inr other ↦ inr (λ e. other (cc))
]

pub pair_is : (xs : List Target) (d e : Target) → length xs ≡ 2 → xs ≡ get_or xs 0 d ∷ get_or xs 1 e ∷ []
pair_is [] d e two = absurd (omega arith)
pair_is (x ∷ []) d e two = absurd (omega arith)
pair_is (x ∷ y ∷ []) d e two = refl
pair_is (x ∷ y ∷ z ∷ xs) d e two = absurd (omega arith)

module _ (super : Super) (apart : PlacesApart (places_under super)) (one two : Target) (a b : Option ℕ) (n : Needed) (first_is : option_map (place_at super) a ≡ needs super one) (second_is : option_map (place_at super) b ≡ needs super two) where
  named : needed_in super (one ∷ two ∷ []) ≡ and_place (option_map (place_at super) a) (and_place (option_map (place_at super) b) [])
  named = λ k. and_place (sym first_is k) (and_place (sym second_is k) [])

  pub in_two : IfSome a (λ at. at < length (places_under super)) → IfSome b (λ at. at < length (places_under super)) → n.second ≡ b → (a ≡ b → n.first ≡ None) → (a ≢ b → n.first ≡ a)
      → (targets : List Target) → targets ≡ one ∷ two ∷ [] → map (place_at super) (places_needed n) ≡ needed_in super targets
  in_two low low' second same other targets are = elim (same_or a b) [
    | inl e ↦
        (λ k. map (place_at super) (cons_option (same e k) (cons_option (second k) [])))
        ∙ same_needed super apart b
        ∙ ap (λ o. and_place (option_map (place_at super) o) (and_place (option_map (place_at super) b) [])) (sym e)
        ∙ sym (ap (needed_in super) are ∙ named)
    | inr e ↦ (λ k. map (place_at super) (cons_option (other e k) (cons_option (second k) []))) ∙ two_needed super apart a b e low low' ∙ sym (ap (needed_in super) are ∙ named)
  ]

-- a place among the MemRowSet and the rowsets
pub within_all : (m : Meta) (o : Option ℕ) → IfSome o (λ at. at < 1 + length m.rowsets) → IfSome o (λ at. at < length (places_under (bare m)))
within_all m None h = tt
within_all m (Some at) h =
    let len = length-map (map bare_rowset m.rowsets) (λ (d : DiskRowset). disk d.rowset) ∙ length-map m.rowsets bare_rowset in
    omega arith
