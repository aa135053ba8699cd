-- Changes held as bytes stay what they are as bytes are added.
use Rattle.std.proofs.Common.{◌≡◌, ℕ, zero, suc, ◌-◌, map, ◌<◌, ◌≤◌, Bool, true, false, ◌&&◌, List, [], ◌∷◌, ◌++◌, length, take, drop, get_or, Result, Ok, Err, Some, None, refl, sym, ap, subst, ◌∙◌, arith, inl, inr, ◌⊎◌, ◌+◌, length-append}
use Rattle.std.specs.Prelude.{OnErr, nat_le, slice_get}
use Rattle.std.specs.Option.{option_map}
use Rattle.std.proofs.lemmas.Option.{slice_get-map, slice_get-get_or, slice_get_read, slice_get_past}
use Rattle.std.proofs.lemmas.Bool.{cases_lt, and_parts, false≢true}
use Rattle.std.proofs.lemmas.Bool.Decides.{nat_tests}
use Rattle.std.proofs.lemmas.List.{get_or_append_left, get_or_default, length_push, length-map, length-drop, take_all, drop_at, take-append-le, drop-append-le, map-append}
use Rattle.std.proofs.Math.Seq.{get_or-append_seam}
use Rattle.std.proofs.Math.ListN.{get_or-map}
use Rattle.std.specs.List.Sorted.{IsPartitionedBy, IsPartitionPoint}
use Rattle.kt_cells.specs.Reading.{cells_behind}
use Rattle.kt_history.specs.declared.changes.KeyChange.{KeyChange}
use Rattle.kt_history.specs.declared.change_list.Part.{Part}
use Rattle.kt_history.specs.declared.change_list.Head.{Head}
use Rattle.kt_history.specs.declared.target.Kindly.{Kindly}
use Rattle.kt_history.specs.declared.target.Kindly.TheVariants.{Ins}
use Rattle.kt_history.specs.AsBytes.{change_with, part_of, change_at, changes_at, is_part, is_inside, are_inside, last_key, AreTold, IsToldNext}

pub on_err : {A E P : Type 0} (r : Result A E) → P → OnErr r P
on_err (Ok x) p = tt
on_err (Err e) p = p

both : (a b : Bool) → a ≡ true → b ≡ true → (a && b) ≡ true
both a b p q = rw (p, q) refl

is_le : (a b : ℕ) → a ≤ b → nat_le a b ≡ true
is_le a b h = grind (arith, nat_tests)

from_le : (a b : ℕ) → nat_le a b ≡ true → a ≤ b
from_le a b h = grind (arith, nat_tests)

abbrev ends : Part → ℕ
ends p = p.from + p.len

inside_at : (n : ℕ) (h : Head) (heads : List Head) → are_inside n (h ∷ heads) ≡ true → (ends h.key ≤ n) × (ends h.cells ≤ n) × (are_inside n heads ≡ true)
inside_at n h heads e =
    let all = and_parts (is_inside n h) (are_inside n heads) e in
    let one = and_parts (is_part n h.key) (is_part n h.cells) all.0 in
    (from_le (ends h.key) n one.0, from_le (ends h.cells) n one.1, all.1)

is_in : (n : ℕ) (h : Head) → ends h.key ≤ n → ends h.cells ≤ n → is_inside n h ≡ true
is_in n h key cells = both (is_part n h.key) (is_part n h.cells) (is_le (ends h.key) n key) (is_le (ends h.cells) n cells)

-- ---- bytes more

module _ (bytes more : List ℕ) where
  -- a part of the bytes before stays
  pub stays : (p : Part) → ends p ≤ length bytes → part_of (bytes ++ more) p ≡ part_of bytes p
  stays p le = ap (take p.len) (drop-append-le p.from bytes more (omega arith)) ∙ take-append-le p.len (drop p.from bytes) more (omega (arith, length-drop p.from bytes))

  -- and what was added is a part
  pub last_part : (at n : ℕ) → at ≡ length bytes → n ≡ length more → take n (drop at (bytes ++ more)) ≡ more
  last_part at n is size = ap (take n) (drop_at bytes more at (sym is)) ∙ take_all n more (omega (arith, size))

  longer : length bytes ≤ length (bytes ++ more)
  longer = omega (arith, length-append bytes more)

  pub inside_more : (heads : List Head) → are_inside (length bytes) heads ≡ true → are_inside (length (bytes ++ more)) heads ≡ true
  inside_more [] e = refl
  inside_more (h ∷ heads) e =
      let i = inside_at (length bytes) h heads e in
      both (is_inside (length (bytes ++ more)) h) (are_inside (length (bytes ++ more)) heads) (is_in (length (bytes ++ more)) h (omega (arith, i.0, longer)) (omega (arith, i.1, longer))) (inside_more heads i.2)

  change_stays : (h : Head) → ends h.key ≤ length bytes → ends h.cells ≤ length bytes → change_at (bytes ++ more) h ≡ change_at bytes h
  change_stays h key cells = λ i. record { key = stays h.key key i; ts = h.ts; change = change_with h.kind (cells_behind (stays h.cells cells i)) }

  pub kept_more : (heads : List Head) → are_inside (length bytes) heads ≡ true → changes_at (bytes ++ more) heads ≡ changes_at bytes heads
  kept_more [] e = refl
  kept_more (h ∷ heads) e =
      let i = inside_at (length bytes) h heads e in
      ap (λ (c : KeyChange). c ∷ changes_at (bytes ++ more) heads) (change_stays h i.0 i.1) ∙ ap (λ (cs : List KeyChange). change_at bytes h ∷ cs) (kept_more heads i.2)

  -- a change more, whose cells are what was added
  module _ (key : Part) (at n ts : ℕ) (kind : Kindly) (known : ends key ≤ length bytes) (is : at ≡ length bytes) (size : n ≡ length more) where
    abbrev new_head : Head
    new_head = record { key = key; cells = record { from = at; len = n }; ts = ts; kind = kind }

    new_is : change_at (bytes ++ more) (record { key = key; cells = record { from = at; len = n }; ts = ts; kind = kind }) ≡ record { key = part_of bytes key; ts = ts; change = change_with kind (cells_behind more) }
    new_is = λ i. record { key = stays key known i; ts = ts; change = change_with kind (cells_behind (last_part at n is size i)) }

    pub added : (heads : List Head) → are_inside (length bytes) heads ≡ true
        → changes_at (bytes ++ more) (heads ++ (record { key = key; cells = record { from = at; len = n }; ts = ts; kind = kind }) ∷ []) ≡ changes_at bytes heads ++ (record { key = part_of bytes key; ts = ts; change = change_with kind (cells_behind more) }) ∷ []
    added heads e =
        map-append (change_at (bytes ++ more)) heads (new_head ∷ []) ∙ ap (λ (cs : List KeyChange). cs ++ change_at (bytes ++ more) new_head ∷ []) (kept_more heads e)
        ∙ ap (λ (c : KeyChange). changes_at bytes heads ++ c ∷ []) new_is

    pub inside_added : (heads : List Head) → are_inside (length bytes) heads ≡ true → are_inside (length (bytes ++ more)) (heads ++ (record { key = key; cells = record { from = at; len = n }; ts = ts; kind = kind }) ∷ []) ≡ true
    inside_added [] e = both (is_inside (length (bytes ++ more)) new_head) true (is_in (length (bytes ++ more)) new_head (omega (arith, known, longer)) (omega (arith, is, size, length-append bytes more))) refl
    inside_added (g ∷ heads) e =
        let i = inside_at (length bytes) g heads e in
        both (is_inside (length (bytes ++ more)) g) (are_inside (length (bytes ++ more)) (heads ++ new_head ∷ [])) (is_in (length (bytes ++ more)) g (omega (arith, i.0, longer)) (omega (arith, i.1, longer))) (inside_added heads i.2)

  -- what was added, as a key
  pub is_last : (at n : ℕ) → at ≡ length bytes → n ≡ length more → (at + n ≤ length (bytes ++ more)) × (take n (drop at (bytes ++ more)) ≡ more)
  is_last at n is size = (omega (arith, is, size, length-append bytes more), last_part at n is size)

-- a change whose key is this part
pub with_key : (bytes : List ℕ) (heads : List Head) (at : Part) (ts : ℕ) (kind : Kindly) (key cells : List ℕ) (now new : List KeyChange) → changes_at bytes heads ≡ now → part_of bytes at ≡ key
    → new ≡ changes_at bytes heads ++ (record { key = part_of bytes at; ts = ts; change = change_with kind (cells_behind cells) }) ∷ []
    → new ≡ now ++ (record { key = key; ts = ts; change = change_with kind (cells_behind cells) }) ∷ []
with_key bytes heads at ts kind key cells now new view is h =
    h ∙ ap (λ (k : List ℕ). changes_at bytes heads ++ (record { key = k; ts = ts; change = change_with kind (cells_behind cells) }) ∷ []) is
    ∙ ap (λ (cs : List KeyChange). cs ++ (record { key = key; ts = ts; change = change_with kind (cells_behind cells) }) ∷ []) view

-- parts that begin and end alike are one
pub same_part : (a b : Part) → a.from ≡ b.from → a.len ≡ b.len → a ≡ b
same_part a b from len = λ i. record { from = from i; len = len i }

-- ---- the key of the last change

key_inside : (n : ℕ) (heads : List Head) (k : ℕ) (d : Head) → are_inside n heads ≡ true → k < length heads → ends (get_or heads k d).key ≤ n
key_inside n [] k d e lt = absurd (omega arith)
key_inside n (h ∷ heads) zero d e lt = (inside_at n h heads e).0
key_inside n (h ∷ heads) (suc k) d e lt = key_inside n heads k d (inside_at n h heads e).2 (omega arith)

pub last_is : (bytes : List ℕ) (heads : List Head) (h : Head) → 0 < length heads → h ≡ get_or heads (length heads - 1) h → are_inside (length bytes) heads ≡ true → (h.key.from + h.key.len ≤ length bytes) × (part_of bytes h.key ≡ last_key (changes_at bytes heads))
last_is bytes heads h some is inside = (
  subst (λ (g : Head). ends g.key ≤ length bytes) (sym is) (key_inside (length bytes) heads (length heads - 1) h inside (omega arith)),
  sym (ap (λ (n : ℕ). get_or keys n []) (ap (λ (n : ℕ). n - 1) (length-map heads (change_at bytes)))
      ∙ get_or_default keys (length heads - 1) [] ((change_at bytes h).key) (omega (arith, some, length-map (changes_at bytes heads) (λ (c : KeyChange). c.key), length-map heads (change_at bytes)))
      ∙ get_or-map (λ (c : KeyChange). c.key) (changes_at bytes heads) (length heads - 1) (change_at bytes h)
      ∙ ap (λ (c : KeyChange). c.key) (get_or-map (change_at bytes) heads (length heads - 1) h ∙ ap (change_at bytes) (sym is))),
)
  where
    keys : List (List ℕ)
    keys = map (λ (c : KeyChange). c.key) (changes_at bytes heads)

-- ---- neighbours that are told by the parts of their keys

module _ (bytes more : List ℕ) (heads : List Head) (inside : are_inside (length bytes) heads ≡ true) where
  key_stays : (k : ℕ) (d : Head) → k < length heads → part_of (bytes ++ more) (get_or heads k d).key ≡ part_of bytes (get_or heads k d).key
  key_stays k d lt = stays bytes more (get_or heads k d).key (key_inside (length bytes) heads k d inside lt)

  pub told_more : AreTold bytes heads → AreTold (bytes ++ more) heads
  told_more told = λ k d lt same. told k d lt (sym (key_stays k d (omega arith)) ∙ same ∙ key_stays (k + 1) d lt)

  pub next_more : (p : Part) → p.from + p.len ≤ length bytes → IsToldNext bytes heads p → IsToldNext (bytes ++ more) heads p
  next_more p known next = λ d some same. next d some (sym (key_stays (length heads - 1) d (omega arith)) ∙ same ∙ stays bytes more p known)

  -- bytes that are other ones than the last key
  pub next_new : (last : Part) (at n : ℕ) → at ≡ length bytes → n ≡ length more → ((d : Head) → 0 < length heads → (get_or heads (length heads - 1) d).key ≡ last) → ((last.from + last.len ≤ length bytes) × (part_of bytes last ≡ more) → ⊥) → IsToldNext (bytes ++ more) heads (record { from = at; len = n })
  next_new last at n is size names other = λ d some same.
      let known : ends last ≤ length bytes = subst (λ (p : Part). ends p ≤ length bytes) (names d some) (key_inside (length bytes) heads (length heads - 1) d inside (omega arith)) in
      absurd (other (known, ap (part_of bytes) (sym (names d some)) ∙ sym (key_stays (length heads - 1) d (omega arith)) ∙ same ∙ last_part bytes more at n is size))

pub told_added : (bytes : List ℕ) (heads : List Head) (h : Head) → AreTold bytes heads → IsToldNext bytes heads h.key → AreTold bytes (heads ++ h ∷ [])
told_added bytes heads h told next = λ k d lt same. by k d lt same (cases_lt (k + 1) (length heads))
  where
    left : (k : ℕ) (d : Head) → k < length heads → get_or (heads ++ h ∷ []) k d ≡ get_or heads k d
    left k d lt = get_or_append_left heads (h ∷ []) d k lt

    here : (k : ℕ) (d : Head) → k ≡ length heads → get_or (heads ++ h ∷ []) k d ≡ h
    here k d is = ap (λ (n : ℕ). get_or (heads ++ h ∷ []) n d) is ∙ get_or-append_seam heads h [] d

    by : (k : ℕ) (d : Head) → k + 1 < length (heads ++ h ∷ []) → part_of bytes (get_or (heads ++ h ∷ []) k d).key ≡ part_of bytes (get_or (heads ++ h ∷ []) (k + 1) d).key → (k + 1 < length heads) ⊎ (length heads ≤ k + 1) → (get_or (heads ++ h ∷ []) k d).key ≡ (get_or (heads ++ h ∷ []) (k + 1) d).key
    by k d lt same (inl within) =
        let a = left k d (omega arith) in
        let b = left (k + 1) d within in
        ap (λ (h : Head). h.key) a ∙ told k d within (ap (λ (h : Head). part_of bytes h.key) (sym a) ∙ same ∙ ap (λ (h : Head). part_of bytes h.key) b) ∙ ap (λ (h : Head). h.key) (sym b)
    by k d lt same (inr past) =
        let n = length_push heads h in
        let at : k ≡ length heads - 1 = omega arith in
        let a = left k d (omega arith) ∙ ap (λ (n : ℕ). get_or heads n d) at in
        let b = here (k + 1) d (omega arith) in
        ap (λ (h : Head). h.key) a ∙ next d (omega arith) (ap (λ (h : Head). part_of bytes h.key) (sym a) ∙ same ∙ ap (λ (h : Head). part_of bytes h.key) b) ∙ ap (λ (h : Head). h.key) (sym b)

-- ---- the keys of two neighbours

some_is : {x y : List ℕ} → Some x ≡ Some y → x ≡ y
some_is e = cc

some_none : {x : List ℕ} → Some x ≡ None → ⊥
some_none e = cc

module _ (bytes : List ℕ) (heads : List Head) (now : List KeyChange) (view : changes_at bytes heads ≡ now) (at : ℕ) (here : at < length now) where
  key_read : (k : ℕ) (h : Head) → slice_get heads k ≡ Some h → option_map (λ (c : KeyChange). c.key) (slice_get now k) ≡ Some (part_of bytes h.key)
  key_read k h is = ap (λ (cs : List KeyChange). option_map (λ (c : KeyChange). c.key) (slice_get cs k)) (sym view) ∙ ap (option_map (λ (c : KeyChange). c.key)) (slice_get-map (change_at bytes) heads k ∙ ap (option_map (change_at bytes)) is)

  key_past : (k : ℕ) → slice_get heads k ≡ None → option_map (λ (c : KeyChange). c.key) (slice_get now k) ≡ None
  key_past k is = ap (λ (cs : List KeyChange). option_map (λ (c : KeyChange). c.key) (slice_get cs k)) (sym view) ∙ ap (option_map (λ (c : KeyChange). c.key)) (slice_get-map (change_at bytes) heads k ∙ ap (option_map (change_at bytes)) is)

  within : at < length heads
  within = omega (arith, here, ap length view, length-map heads (change_at bytes))

  -- they are the same where they are one part
  pub next_is_same : (one behind : Head) (same : Bool) → AreTold bytes heads → one ≡ get_or heads at one → at + 1 < length heads → behind ≡ get_or heads (at + 1) behind → (same ≡ true → one.key ≡ behind.key) → (one.key ≡ behind.key → same ≡ true)
      → (same ≡ true → option_map (λ (c : KeyChange). c.key) (slice_get now at) ≡ option_map (λ (c : KeyChange). c.key) (slice_get now (at + 1))) × (option_map (λ (c : KeyChange). c.key) (slice_get now at) ≡ option_map (λ (c : KeyChange). c.key) (slice_get now (at + 1)) → same ≡ true)
  next_is_same one behind same told first inside second alike equal =
      let this = key_read at one (slice_get_read heads (length heads) at one refl within first) in
      let next = key_read (at + 1) behind (slice_get_read heads (length heads) (at + 1) behind refl inside second) in
      let behind_is : get_or heads (at + 1) one ≡ behind = get_or_default heads (at + 1) one behind inside ∙ sym second in (
        λ e. this ∙ ap (λ (p : Part). Some (part_of bytes p)) (alike e) ∙ sym next,
        λ e. equal (ap (λ (h : Head). h.key) first ∙ told at one inside (ap (λ (h : Head). part_of bytes h.key) (sym first) ∙ some_is (sym this ∙ e ∙ next) ∙ ap (λ (h : Head). part_of bytes h.key) (sym behind_is)) ∙ ap (λ (h : Head). h.key) behind_is),
      )

  -- behind the last change there is none
  pub none_is_next : length heads ≤ at + 1 → (false ≡ true → option_map (λ (c : KeyChange). c.key) (slice_get now at) ≡ option_map (λ (c : KeyChange). c.key) (slice_get now (at + 1))) × (option_map (λ (c : KeyChange). c.key) (slice_get now at) ≡ option_map (λ (c : KeyChange). c.key) (slice_get now (at + 1)) → false ≡ true)
  none_is_next past = (λ e. absurd (false≢true e), λ e. absurd (some_none (sym this ∙ e ∙ key_past (at + 1) (slice_get_past heads (at + 1) past))))
    where
      any : Head
      any = record { key = record { from = 0; len = 0 }; cells = record { from = 0; len = 0 }; ts = 0; kind = Ins }

      this : option_map (λ (c : KeyChange). c.key) (slice_get now at) ≡ Some (part_of bytes (get_or heads at any).key)
      this = key_read at (get_or heads at any) (slice_get-get_or heads at any within)

-- ---- where a test ends to pass

module _ (p : KeyChange → Bool) (bytes : List ℕ) (heads : List Head) where
  read_at : (k : ℕ) (h : Head) → get_or (changes_at bytes heads) k (change_at bytes h) ≡ change_at bytes (get_or heads k h)
  read_at k h = get_or-map (change_at bytes) heads k h

  pub parted : IsPartitionedBy p (changes_at bytes heads) → IsPartitionedBy (λ h. p (change_at bytes h)) heads
  parted parts i j h le within passes =
      let there : j < length (changes_at bytes heads) = omega (arith, within, length-map heads (change_at bytes)) in
      ap p (sym (read_at i h)) ∙ parts i j (change_at bytes h) le there (ap p (read_at j h) ∙ passes)

  pub parted_at : (n : ℕ) → n ≤ length heads → IsPartitionPoint (λ h. p (change_at bytes h) ≡ true) (λ h. p (change_at bytes h) ≡ false) heads n → IsPartitionPoint (λ c. p c ≡ true) (λ c. p c ≡ false) (changes_at bytes heads) n
  parted_at n bound point = (front, behind)
    where
      none : Head
      none = record { key = record { from = 0; len = 0 }; cells = record { from = 0; len = 0 }; ts = 0; kind = Ins }

      read : (k : ℕ) (d : KeyChange) → k < length heads → get_or (changes_at bytes heads) k d ≡ change_at bytes (get_or heads k none)
      read k d lt = get_or_default (changes_at bytes heads) k d (change_at bytes none) (omega (arith, lt, length-map heads (change_at bytes))) ∙ read_at k none

      front : (k : ℕ) (d : KeyChange) → 0 ≤ k → k < n → p (get_or (changes_at bytes heads) k d) ≡ true
      front k d low lt = ap p (read k d (omega (arith, lt, bound))) ∙ point.0 k none low lt

      behind : (k : ℕ) (d : KeyChange) → n ≤ k → k < length (changes_at bytes heads) → p (get_or (changes_at bytes heads) k d) ≡ false
      behind k d le lt = let within : k < length heads = omega (arith, lt, length-map heads (change_at bytes)) in ap p (read k d within) ∙ point.1 k none le within
