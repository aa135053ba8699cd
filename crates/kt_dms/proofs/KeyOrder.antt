-- The order of keys is that of ordinals, and then of timestamps.
use Rattle.std.proofs.Common.{◌≡◌, ℕ, ◌^◌, ◌<◌, ◌≤◌, inl, inr, Bool, true, false, List, [], sym, ap, ◌∙◌, arith, Some}
use Rattle.std.specs.Prelude.{nat_lt, nat_le, ◌==◌, ◌&&◌, ◌||◌}
use Rattle.std.specs.Ordering.{nat_cmp, ordering_then, is_lt, is_eq, is_gt}
use Rattle.std.specs.Cmp.{nat_cmp_is}
use Rattle.std.specs.declared.cmp.Ordering.{Ordering}
use Rattle.std.specs.declared.cmp.Ordering.TheVariants.{Less, Equal, Greater}
use Rattle.std.proofs.lemmas.Bool.Decides.{nat_tests}
use Rattle.byteorder.specs.Endian.{big_bytes}
use Rattle.byteorder.specs.Numbers.{big_number-reads_back}
use Rattle.kt_key.proofs.Numbers.{bytes-cmp, then-equal, cases_cmp}
use Rattle.kt_tree.specs.Entries.{order, is_past}
use Rattle.kt_dms.specs.Keys.{key_of, ordinal_of, ts_of, IsKey}

-- ---- a key that is read again

pub ordinal_again : (o t : ℕ) → o < 2 ^ 32 → ordinal_of (key_of o t) ≡ o
ordinal_again o t h = big_number-reads_back 4 o (big_bytes 8 t) h

pub ts_again : (o t : ℕ) → t < 2 ^ 64 → ts_of (key_of o t) ≡ t
ts_again o t h = big_number-reads_back 8 t [] h

pub is_key : (o t : ℕ) → o < 2 ^ 32 → t < 2 ^ 64 → IsKey (key_of o t)
is_key o t h k =
    let a = ordinal_again o t h in let b = ts_again o t k in
    record { ordinal = omega arith; ts = omega arith; is = ap (λ n. key_of n t) (sym a) ∙ ap (λ n. key_of (ordinal_of (key_of o t)) n) (sym b) }

-- ---- the order of keys

pub key_order : (o t p u : ℕ) → o < 2 ^ 32 → t < 2 ^ 64 → p < 2 ^ 32 → u < 2 ^ 64 → order (key_of o t) (key_of p u) ≡ ordering_then (nat_cmp o p) (nat_cmp t u)
key_order o t p u a b c d =
    bytes-cmp 4 o p (big_bytes 8 t) (big_bytes 8 u) a c
    ∙ ap (λ x. ordering_then (nat_cmp o p) x) (bytes-cmp 8 t u [] [] b d ∙ then-equal (nat_cmp t u))

-- the keys of a row lie behind the bytes with which they begin
pub front_order : (o t p : ℕ) → o < 2 ^ 32 → p < 2 ^ 32 → order (key_of o t) (big_bytes 4 p) ≡ ordering_then (nat_cmp o p) Greater
front_order o t p a c = bytes-cmp 4 o p (big_bytes 8 t) [] a c

less_is : (a b : ℕ) → a < b → nat_cmp a b ≡ Less
less_is a b h = sym (nat_cmp_is a b Less h)

same_is : (a b : ℕ) → a ≡ b → nat_cmp a b ≡ Equal
same_is a b h = sym (nat_cmp_is a b Equal h)

more_is : (a b : ℕ) → b < a → nat_cmp a b ≡ Greater
more_is a b h = sym (nat_cmp_is a b Greater h)

pub lt_is : (a b : ℕ) → a < b → nat_lt a b ≡ true
lt_is a b h = grind (arith, nat_tests)

pub not_lt_is : (a b : ℕ) → b ≤ a → nat_lt a b ≡ false
not_lt_is a b h = grind (arith, nat_tests)

pub eq_is : (a b : ℕ) → a ≡ b → (a == b) ≡ true
eq_is a b h = grind (arith, nat_tests)

pub not_eq_is : (a b : ℕ) → (a ≡ b → ⊥) → (a == b) ≡ false
not_eq_is a b h = grind (arith, nat_tests)

pub le_is : (a b : ℕ) → a ≤ b → nat_le a b ≡ true
le_is a b h = grind (arith, nat_tests)

pub not_le_is : (a b : ℕ) → b < a → nat_le a b ≡ false
not_le_is a b h = grind (arith, nat_tests)

cmp_lt : (c d : ℕ) → is_lt (nat_cmp c d) ≡ nat_lt c d
cmp_lt c d = elim (cases_cmp c d) [
  | inl h ↦ ap is_lt (less_is c d h) ∙ sym (lt_is c d h)
  | inr r ↦ elim r [
    | inl h ↦ ap is_lt (same_is c d h) ∙ sym (not_lt_is c d (omega arith))
    | inr h ↦ ap is_lt (more_is c d h) ∙ sym (not_lt_is c d (omega arith))
  ]
]

cmp_gt : (c d : ℕ) → is_gt (nat_cmp c d) ≡ nat_lt d c
cmp_gt c d = elim (cases_cmp c d) [
  | inl h ↦ ap is_gt (less_is c d h) ∙ sym (not_lt_is d c (omega arith))
  | inr r ↦ elim r [
    | inl h ↦ ap is_gt (same_is c d h) ∙ sym (not_lt_is d c (omega arith))
    | inr h ↦ ap is_gt (more_is c d h) ∙ sym (lt_is d c h)
  ]
]

cmp_eq : (c d : ℕ) → is_eq (nat_cmp c d) ≡ (c == d)
cmp_eq c d = elim (cases_cmp c d) [
  | inl h ↦ ap is_eq (less_is c d h) ∙ sym (not_eq_is c d (λ e. absurd (omega arith)))
  | inr r ↦ elim r [
    | inl h ↦ ap is_eq (same_is c d h) ∙ sym (eq_is c d h)
    | inr h ↦ ap is_eq (more_is c d h) ∙ sym (not_eq_is c d (λ e. absurd (omega arith)))
  ]
]

-- an order, read off two tests
abbrev either : Bool → Bool → Bool → Bool
either b c d = b || (c && d)

then_lt : (a b : ℕ) (o : Ordering) → is_lt (ordering_then (nat_cmp a b) o) ≡ either (nat_lt a b) (a == b) (is_lt o)
then_lt a b o = elim (cases_cmp a b) [
  | inl h ↦ ap (λ x. is_lt (ordering_then x o)) (less_is a b h) ∙ sym (ap (λ x. either x (a == b) (is_lt o)) (lt_is a b h))
  | inr r ↦ elim r [
    | inl h ↦ ap (λ x. is_lt (ordering_then x o)) (same_is a b h) ∙ sym (ap (λ x. either x (a == b) (is_lt o)) (not_lt_is a b (omega arith)) ∙ ap (λ x. either false x (is_lt o)) (eq_is a b h))
    | inr h ↦ ap (λ x. is_lt (ordering_then x o)) (more_is a b h) ∙ sym (ap (λ x. either x (a == b) (is_lt o)) (not_lt_is a b (omega arith)) ∙ ap (λ x. either false x (is_lt o)) (not_eq_is a b (λ e. absurd (omega arith))))
  ]
]

then_gt : (a b : ℕ) (o : Ordering) → is_gt (ordering_then (nat_cmp a b) o) ≡ either (nat_lt b a) (b == a) (is_gt o)
then_gt a b o = elim (cases_cmp a b) [
  | inl h ↦ ap (λ x. is_gt (ordering_then x o)) (less_is a b h) ∙ sym (ap (λ x. either x (b == a) (is_gt o)) (not_lt_is b a (omega arith)) ∙ ap (λ x. either false x (is_gt o)) (not_eq_is b a (λ e. absurd (omega arith))))
  | inr r ↦ elim r [
    | inl h ↦ ap (λ x. is_gt (ordering_then x o)) (same_is a b h) ∙ sym (ap (λ x. either x (b == a) (is_gt o)) (not_lt_is b a (omega arith)) ∙ ap (λ x. either false x (is_gt o)) (eq_is b a (sym h)))
    | inr h ↦ ap (λ x. is_gt (ordering_then x o)) (more_is a b h) ∙ sym (ap (λ x. either x (b == a) (is_gt o)) (lt_is b a h))
  ]
]

then_eq : (a b : ℕ) (o : Ordering) → is_eq (ordering_then (nat_cmp a b) o) ≡ ((a == b) && is_eq o)
then_eq a b o = elim (cases_cmp a b) [
  | inl h ↦ ap (λ x. is_eq (ordering_then x o)) (less_is a b h) ∙ sym (ap (λ x. x && is_eq o) (not_eq_is a b (λ e. absurd (omega arith))))
  | inr r ↦ elim r [
    | inl h ↦ ap (λ x. is_eq (ordering_then x o)) (same_is a b h) ∙ sym (ap (λ x. x && is_eq o) (eq_is a b h))
    | inr h ↦ ap (λ x. is_eq (ordering_then x o)) (more_is a b h) ∙ sym (ap (λ x. x && is_eq o) (not_eq_is a b (λ e. absurd (omega arith))))
  ]
]

-- ---- what the order of two keys says of their rows and timestamps

module _ (a b : List ℕ) (ka : IsKey a) (kb : IsKey b) where
  order_is : order a b ≡ ordering_then (nat_cmp (ordinal_of a) (ordinal_of b)) (nat_cmp (ts_of a) (ts_of b))
  order_is = ap (λ x. order x b) ka.is ∙ ap (order (key_of (ordinal_of a) (ts_of a))) kb.is ∙ key_order (ordinal_of a) (ts_of a) (ordinal_of b) (ts_of b) ka.ordinal ka.ts kb.ordinal kb.ts

  pub key_lt : is_lt (order a b) ≡ (nat_lt (ordinal_of a) (ordinal_of b) || ((ordinal_of a == ordinal_of b) && nat_lt (ts_of a) (ts_of b)))
  key_lt = ap is_lt order_is ∙ then_lt (ordinal_of a) (ordinal_of b) (nat_cmp (ts_of a) (ts_of b)) ∙ ap (either (nat_lt (ordinal_of a) (ordinal_of b)) (ordinal_of a == ordinal_of b)) (cmp_lt (ts_of a) (ts_of b))

  pub key_gt : is_gt (order a b) ≡ (nat_lt (ordinal_of b) (ordinal_of a) || ((ordinal_of b == ordinal_of a) && nat_lt (ts_of b) (ts_of a)))
  key_gt = ap is_gt order_is ∙ then_gt (ordinal_of a) (ordinal_of b) (nat_cmp (ts_of a) (ts_of b)) ∙ ap (either (nat_lt (ordinal_of b) (ordinal_of a)) (ordinal_of b == ordinal_of a)) (cmp_gt (ts_of a) (ts_of b))

  pub key_eq : is_eq (order a b) ≡ ((ordinal_of a == ordinal_of b) && (ts_of a == ts_of b))
  key_eq = ap is_eq order_is ∙ then_eq (ordinal_of a) (ordinal_of b) (nat_cmp (ts_of a) (ts_of b)) ∙ ap (λ x. (ordinal_of a == ordinal_of b) && x) (cmp_eq (ts_of a) (ts_of b))

  -- a lesser key is not of a later row
  pub below_rows : order a b ≡ Less → ordinal_of a ≤ ordinal_of b
  below_rows e = elim (cases_cmp (ordinal_of a) (ordinal_of b)) [
    | inl h ↦ omega arith
    | inr r ↦ elim r [
      | inl h ↦ omega arith
      | inr h ↦
          let f = ap (λ x. ordering_then x (nat_cmp (ts_of a) (ts_of b))) (more_is (ordinal_of a) (ordinal_of b) h) in
          let g : Less ≡ Greater = sym e ∙ order_is ∙ f in absurd cc
    ]
  ]

  -- and of one row it has the lesser timestamp
  pub below_times : order a b ≡ Less → ordinal_of a ≡ ordinal_of b → ts_of a < ts_of b
  below_times e same = elim (cases_cmp (ts_of a) (ts_of b)) [
    | inl h ↦ h
    | inr r ↦
        let f = ap (λ x. ordering_then x (nat_cmp (ts_of a) (ts_of b))) (same_is (ordinal_of a) (ordinal_of b) same) in
        elim r [
          | inl h ↦ let g : Less ≡ Equal = sym e ∙ order_is ∙ f ∙ same_is (ts_of a) (ts_of b) h in absurd cc
          | inr h ↦ let g : Less ≡ Greater = sym e ∙ order_is ∙ f ∙ more_is (ts_of a) (ts_of b) h in absurd cc
        ]
  ]

-- ---- the entries behind a key

-- behind the key of a change, and behind the bytes with which a row's keys begin
pub past_key : (key : List ℕ) (o t : ℕ) → IsKey key → o < 2 ^ 32 → t < 2 ^ 64 → is_past (Some (key_of o t)) key ≡ (nat_lt o (ordinal_of key) || ((o == ordinal_of key) && nat_lt t (ts_of key)))
past_key key o t k a b =
    key_gt key (key_of o t) k (is_key o t a b)
    ∙ ap (λ x. nat_lt x (ordinal_of key) || ((x == ordinal_of key) && nat_lt (ts_of (key_of o t)) (ts_of key))) (ordinal_again o t a)
    ∙ ap (λ x. nat_lt o (ordinal_of key) || ((o == ordinal_of key) && nat_lt x (ts_of key))) (ts_again o t b)

le_by : (a b : ℕ) → (nat_lt a b || ((a == b) && true)) ≡ nat_le a b
le_by a b = elim (cases_cmp a b) [
  | inl h ↦ ap (λ x. either x (a == b) true) (lt_is a b h) ∙ sym (le_is a b (omega arith))
  | inr r ↦ elim r [
    | inl h ↦ ap (λ x. either x (a == b) true) (not_lt_is a b (omega arith)) ∙ ap (λ x. either false x true) (eq_is a b h) ∙ sym (le_is a b (omega arith))
    | inr h ↦ ap (λ x. either x (a == b) true) (not_lt_is a b (omega arith)) ∙ ap (λ x. either false x true) (not_eq_is a b (λ e. absurd (omega arith))) ∙ sym (not_le_is a b h)
  ]
]

pub past_front : (key : List ℕ) (o : ℕ) → IsKey key → o < 2 ^ 32 → is_past (Some (big_bytes 4 o)) key ≡ nat_le o (ordinal_of key)
past_front key o k a =
    ap (λ x. is_gt (order x (big_bytes 4 o))) k.is ∙ ap is_gt (front_order (ordinal_of key) (ts_of key) o k.ordinal a)
    ∙ then_gt (ordinal_of key) o Greater ∙ le_by o (ordinal_of key)
