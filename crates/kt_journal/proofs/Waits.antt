-- Writes that wait, as a list by timestamp.
use Rattle.std.proofs.Common.{◌≡◌, ◌≢◌, ℕ, zero, suc, ◌+◌, ◌-◌, ◌<◌, ◌≤◌, List, [], ◌∷◌, ◌++◌, length, set, drop, get_or, Option, None, Some, Bool, true, false, cond, inl, inr, refl, sym, ap, ◌∙◌, subst, arith, length-set, length-append}
use Rattle.std.specs.Prelude.{◌==◌, nat_lt, IsSome}
use Rattle.std.specs.Option.{option_to_list}
use Rattle.std.specs.List.{All, AllPairs, HoldsAt}
use Rattle.std.specs.List.Sorted.{IsNonDecreasingBy, IsPartitionPoint}
use Rattle.std.proofs.lemmas.Bool.Decides.{nat_tests}
use Rattle.std.proofs.lemmas.Bool.{cases_eq, cases_lt}
use Rattle.std.proofs.lemmas.List.{get_or_append_left, get_or_push, get_or-set_same, get_or-set_other}
use Rattle.std.proofs.lemmas.List.Elements.{All-head, All-tail, All-push}
use Rattle.std.proofs.lemmas.List.Quantifiers.{all_pairs_push}
use Rattle.kt_journal.specs.declared.waiting.Held.{Held}
use Rattle.kt_journal.specs.Order.{is_above}
use Rattle.kt_journal.specs.Waiting.{number_in, IsRising, Keeps}

abbrev Older : Held → Held → Type 0
Older a b = a.ts < b.ts

-- ---- timestamps

below_apart : (a b : ℕ) → a < b → (a == b) ≡ false
below_apart a b lt = grind (arith, nat_tests)

above_apart : (a b : ℕ) → b < a → (a == b) ≡ false
above_apart a b lt = grind (arith, nat_tests)

itself : (a b : ℕ) → a ≡ b → (a == b) ≡ true
itself a b is = grind (arith, nat_tests)

-- a number that is not the first is the second only if it is not the first's equal
newer_apart : (a b t : ℕ) → (a == t) ≡ true → a < b → (b == t) ≡ false
newer_apart a b t is lt = grind (arith, nat_tests)

older_apart : (a b t : ℕ) → (b == t) ≡ true → a < b → (a == t) ≡ false
older_apart a b t is lt = grind (arith, nat_tests)

one_number : (a b t : ℕ) → a ≡ b → (a == t) ≡ (b == t)
one_number a b t is = ap (λ n. n == t) is

is_below : (a b : ℕ) → nat_lt a b ≡ true → a < b
is_below a b lt = grind (arith, nat_tests)

not_below : (a b : ℕ) → nat_lt a b ≡ false → b ≤ a
not_below a b lt = grind (arith, nat_tests)

unlike : (a b : ℕ) → a ≢ b → (a == b) ≡ false
unlike a b apart = grind (arith, nat_tests)

-- ---- the number of a timestamp

tail_pairs : (h : Held) (held : List Held) → AllPairs Older (h ∷ held) → AllPairs Older held
tail_pairs h held pairs i j d lt within = pairs (suc i) (suc j) d (omega arith) (omega arith)

head_older : (h : Held) (held : List Held) → AllPairs Older (h ∷ held) → All (λ (a : Held). h.ts < a.ts) held
head_older h held pairs k d lt = pairs zero (suc k) d (omega arith) (omega arith)

none_in : (held : List Held) (ts : ℕ) → All (λ (a : Held). (a.ts == ts) ≡ false) held → number_in held ts ≡ None
none_in [] ts apart = refl
none_in (h ∷ held) ts apart =
    ap (λ (b : Bool). cond b h.number (number_in held ts)) (All-head (λ (a : Held). (a.ts == ts) ≡ false) h held apart) ∙ none_in held ts (All-tail (λ (a : Held). (a.ts == ts) ≡ false) h held apart)

pushed_number : (held : List Held) (x : Held) (t : ℕ) → All (λ (a : Held). a.ts < x.ts) held → number_in (held ++ x ∷ []) t ≡ cond (x.ts == t) x.number (number_in held t)
pushed_number [] x t below = refl
pushed_number (h ∷ held) x t below =
    elim (h.ts == t) as (λ (b : Bool). (h.ts == t) ≡ b → cond b h.number (number_in (held ++ x ∷ []) t) ≡ cond (x.ts == t) x.number (cond b h.number (number_in held t))) [
      | true ↦ λ is. sym (ap (λ (b : Bool). cond b x.number h.number) (newer_apart h.ts x.ts t is (All-head (λ (a : Held). a.ts < x.ts) h held below)))
      | false ↦ λ is. pushed_number held x t (All-tail (λ (a : Held). a.ts < x.ts) h held below)
    ] refl

first_number : (x : Held) (held : List Held) (t : ℕ) → x.number ≡ None → All (λ (a : Held). x.ts < a.ts) held → number_in held t ≡ number_in (x ∷ held) t
first_number x held t taken above =
    elim (x.ts == t) as (λ (b : Bool). (x.ts == t) ≡ b → number_in held t ≡ cond b x.number (number_in held t)) [
      | true ↦ λ is. none_in held t (λ k d lt. newer_apart x.ts (get_or held k d).ts t is (above k d lt)) ∙ sym taken
      | false ↦ λ is. refl
    ] refl

none_either : (b : Bool) (o : Option ℕ) → o ≡ None → None ≡ cond b o None
none_either true o none = sym none
none_either false o none = refl

last_number : (held : List Held) (x : Held) (t : ℕ) → x.number ≡ None → number_in held t ≡ number_in (held ++ x ∷ []) t
last_number [] x t taken = none_either (x.ts == t) x.number taken
last_number (h ∷ held) x t taken = ap (λ (o : Option ℕ). cond (h.ts == t) h.number o) (last_number held x t taken)

pub number_at : (held : List Held) (i ts : ℕ) (d : Held) → AllPairs Older held → i < length held → (get_or held i d).ts ≡ ts → number_in held ts ≡ (get_or held i d).number
number_at [] i ts d pairs lt is = absurd (omega arith)
number_at (h ∷ held) zero ts d pairs lt is = ap (λ (b : Bool). cond b h.number (number_in held ts)) (itself h.ts ts is)
number_at (h ∷ held) (suc i) ts d pairs lt is =
    let low : h.ts < (get_or held i d).ts = pairs zero (suc i) d (omega arith) lt in
    ap (λ (b : Bool). cond b h.number (number_in held ts)) (below_apart h.ts ts (omega (arith, low, is))) ∙ number_at held i ts d (tail_pairs h held pairs) (omega arith) is

-- a write that is taken
taken_number : (held : List Held) (i t : ℕ) (x d : Held) → AllPairs Older held → i < length held → (get_or held i d).ts ≡ x.ts → x.number ≡ None
    → number_in (set held i x) t ≡ cond (x.ts == t) None (number_in held t)
taken_number [] i t x d pairs lt is taken = absurd (omega arith)
taken_number (h ∷ held) zero t x d pairs lt is taken =
    elim (x.ts == t) as (λ (b : Bool). (h.ts == t) ≡ b → cond b x.number (number_in held t) ≡ cond b None (cond (h.ts == t) h.number (number_in held t))) [
      | true ↦ λ e. taken
      | false ↦ λ e. sym (ap (λ (b : Bool). cond b h.number (number_in held t)) e)
    ] (one_number h.ts x.ts t is)
taken_number (h ∷ held) (suc i) t x d pairs lt is taken =
    let low : h.ts < (get_or held i d).ts = pairs zero (suc i) d (omega arith) lt in
    elim (h.ts == t) as (λ (b : Bool). (h.ts == t) ≡ b → cond b h.number (number_in (set held i x) t) ≡ cond (x.ts == t) None (cond b h.number (number_in held t))) [
      | true ↦ λ e. sym (ap (λ (b : Bool). cond b None h.number) (newer_apart h.ts x.ts t e (omega (arith, low, is))))
      | false ↦ λ e. taken_number held i t x d (tail_pairs h held pairs) (omega arith) is taken
    ] refl

pub missing : (held : List Held) (at ts : ℕ) → AllPairs Older held → IsPartitionPoint (λ (a : Held). nat_lt a.ts ts ≡ true) (λ (a : Held). nat_lt a.ts ts ≡ false) held at
    → ((d : Held) → at < length held → (get_or held at d).ts ≢ ts) → number_in held ts ≡ None
missing held at ts pairs parts apart = none_in held ts each
  where
    each : All (λ (a : Held). (a.ts == ts) ≡ false) held
    each k d lt = elim (cases_lt k at) [
      | inl low ↦ below_apart (get_or held k d).ts ts (is_below (get_or held k d).ts ts (parts.0 k d (omega arith) low))
      | inr high ↦ elim (cases_eq k at) [
        | inl same ↦ subst (λ (n : ℕ). ((get_or held n d).ts == ts) ≡ false) (sym same) (unlike (get_or held at d).ts ts (apart d (omega arith)))
        | inr other ↦
            let here : at < length held = omega arith in
            let up : (get_or held at d).ts < (get_or held k d).ts = pairs at k d (omega (arith, other)) lt in
            let from : ts ≤ (get_or held at d).ts = not_below (get_or held at d).ts ts (parts.1 at d (omega arith) here) in
            above_apart (get_or held k d).ts ts (omega arith)
      ]
    ]

-- timestamps rise, so a search by halves may look
pub searched : (held : List Held) → AllPairs Older held → IsNonDecreasingBy (λ (a : Held). a.ts) held
searched held pairs i j d le lt = elim (cases_eq i j) [
  | inl same ↦ subst (λ (n : ℕ). (get_or held i d).ts ≤ (get_or held n d).ts) same (omega arith)
  | inr other ↦ let up : (get_or held i d).ts < (get_or held j d).ts = pairs i j d (omega (arith, other)) lt in omega arith
]

-- ---- steps

pub keeps_all : (last : Option ℕ) (held : List Held) → IsRising last held → Keeps last held held
keeps_all last held rising = record { rising = rising; numbers = λ ts. refl }

pub first_gone : (last : Option ℕ) (old : List Held) (x : Held) (held : List Held) → x.number ≡ None → Keeps last old (x ∷ held) → Keeps last old held
first_gone last old x held taken keeps = record {
  rising = record {
    pairs = tail_pairs x held keeps.rising.pairs;
    below = λ ts above. All-tail (λ (a : Held). a.ts < ts) x held (keeps.rising.below ts above);
  };
  numbers = λ ts. first_number x held ts taken (head_older x held keeps.rising.pairs) ∙ keeps.numbers ts;
}

pub last_gone : (last : Option ℕ) (old held : List Held) (x : Held) → x.number ≡ None → Keeps last old (held ++ x ∷ []) → Keeps last old held
last_gone last old held x taken keeps =
    let long = length-append held (x ∷ []) in
    record {
      rising = record {
        pairs = λ i j d lt within. let up : (get_or (held ++ x ∷ []) i d).ts < (get_or (held ++ x ∷ []) j d).ts = keeps.rising.pairs i j d lt (omega arith) in
            let early : i < length held = omega arith in
            omega (arith, ap (λ (h : Held). h.ts) (get_or_append_left held (x ∷ []) d i early), ap (λ (h : Held). h.ts) (get_or_append_left held (x ∷ []) d j within));
        below = λ ts above k d lt. let low : (get_or (held ++ x ∷ []) k d).ts < ts = keeps.rising.below ts above k d (omega arith) in
            omega (arith, ap (λ (h : Held). h.ts) (get_or_append_left held (x ∷ []) d k lt));
      };
      numbers = λ ts. last_number held x ts taken ∙ keeps.numbers ts;
    }

-- the first was taken, and is let go of
pub first_popped : (last : Option ℕ) (old items new : List Held) → 0 < length items → HoldsAt (λ (a : Held). a.number ≡ None) items 0 → new ≡ drop 1 items → Keeps last old items → Keeps last old new
first_popped last old [] new some taken rest keeps = absurd (omega arith)
first_popped last old (x ∷ held) new some taken rest keeps = subst (λ (l : List Held). Keeps last old l) (sym rest) (first_gone last old x held (taken x) keeps)

-- the last was taken, and is let go of
pub last_popped : (last : Option ℕ) (old items new : List Held) (r : Option Held) → HoldsAt (λ (a : Held). a.number ≡ None) items (length items - 1) → items ≡ new ++ option_to_list r → IsSome r → Keeps last old items → Keeps last old new
last_popped last old items new None taken is some keeps = absurd (cc)
last_popped last old items new (Some x) taken is some keeps =
    let end : length items - 1 ≡ length new = omega (arith, ap length is, length-append new (x ∷ [])) in
    let there : get_or items (length items - 1) x ≡ x = ap (λ (n : ℕ). get_or items n x) end ∙ ap (λ (l : List Held). get_or l (length new) x) is ∙ get_or_push new x x (length new) refl in
    let none : x.number ≡ None = sym (ap (λ (h : Held). h.number) there) ∙ taken x in
    last_gone last old new x none (subst (λ (l : List Held). Keeps last old l) is keeps)

pub pushed : (last : Option ℕ) (held : List Held) (x : Held) → is_above last x.ts ≡ true → IsRising last held → IsRising (Some x.ts) (held ++ x ∷ [])
pushed last held x above rising = record {
  pairs = all_pairs_push Older held x rising.pairs (λ k d lt. rising.below x.ts above k d lt);
  below = λ ts up.
      let lt : x.ts < ts = is_below x.ts ts up in
      All-push (λ (a : Held). a.ts < ts) held x (λ k d within. let low : (get_or held k d).ts < x.ts = rising.below x.ts above k d within in omega arith) lt;
}

pub pushed_numbers : (last : Option ℕ) (held : List Held) (x : Held) → is_above last x.ts ≡ true → IsRising last held → (t : ℕ) → number_in (held ++ x ∷ []) t ≡ cond (x.ts == t) x.number (number_in held t)
pushed_numbers last held x above rising t = pushed_number held x t (rising.below x.ts above)

same_ts : (held : List Held) (i k : ℕ) (x d : Held) → i < length held → (get_or held i d).ts ≡ x.ts → (get_or (set held i x) k d).ts ≡ (get_or held k d).ts
same_ts held i k x d lt is = elim (cases_eq k i) [
  | inl same ↦ subst (λ (n : ℕ). (get_or (set held i x) n d).ts ≡ (get_or held n d).ts) (sym same) (ap (λ (h : Held). h.ts) (get_or-set_same held i x d lt) ∙ sym is)
  | inr other ↦ ap (λ (h : Held). h.ts) (get_or-set_other held i k x d other)
]

module _ (last : Option ℕ) (held : List Held) (i : ℕ) (x : Held) (lt : i < length held) (here : HoldsAt (λ (a : Held). a.ts ≡ x.ts) held i) (rising : IsRising last held) where
  pub marked : IsRising last (set held i x)
  marked = record {
    pairs = λ j k d up within.
        let long = length-set held i x in
        let old : (get_or held j d).ts < (get_or held k d).ts = rising.pairs j k d up (omega arith) in
        omega (arith, same_ts held i j x d lt (here d), same_ts held i k x d lt (here d));
    below = λ ts above k d within.
        let long = length-set held i x in
        let old : (get_or held k d).ts < ts = rising.below ts above k d (omega arith) in
        omega (arith, same_ts held i k x d lt (here d));
  }

  -- what is left once it was taken
  pub taken : (new : List Held) (t : ℕ) → x.number ≡ None → Keeps last (set held i x) new → number_in new t ≡ cond (x.ts == t) None (number_in held t)
  taken new t none keeps = keeps.numbers t ∙ taken_number held i t x x rising.pairs lt (here x) none
