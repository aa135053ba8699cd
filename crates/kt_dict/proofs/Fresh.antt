-- A byte string of some length that is not among others, and where there is none.
use Rattle.std.proofs.Common.{◌≡◌, ℕ, zero, suc, ◌+◌, ◌/◌, ◌%◌, ◌^◌, ◌<◌, ◌≤◌, Bool, true, false, cond, not, ◌||◌, ◌&&◌, List, [], ◌∷◌, ◌++◌, length, get_or, refl, sym, ap, subst, ◌∙◌, append_assoc, arith, inl, inr}
use Rattle.std.specs.Prelude.{◌⊎◌, nat_eq, nat_le, ◌==◌, replicate}
use Rattle.std.specs.List.{AllByRecursion}
use Rattle.std.proofs.lemmas.Bool.{cases_lt, leb-true}
use Rattle.std.proofs.lemmas.Bool.Decides.{nat_tests}
use Rattle.std.proofs.lemmas.List.{append-nil, length_push}
use Rattle.kt_dict.specs.Spelling.{AreBytes, same, has}
use Rattle.kt_dict.specs.Walk.{has_free, is_open, is_length}
use Rattle.kt_dict.proofs.Words.{Own, own_nil, own_push, same_is}

-- among m strings there is this one, or none of them is it
find : (k : List ℕ) (f : ℕ → List ℕ) (m : ℕ) → ((j : ℕ) × (j < m) × (same (f j) k ≡ true)) ⊎ ((i : ℕ) → i < m → same (f i) k ≡ false)
find k f zero = inr (λ i lt. absurd (omega arith))
find k f (suc m) =
    (elim (same (f m) k) as (λ b. same (f m) k ≡ b → ((j : ℕ) × (j < suc m) × (same (f j) k ≡ true)) ⊎ ((i : ℕ) → i < suc m → same (f i) k ≡ false)) [
      | true ↦ λ e. inl (m, omega arith, e)
      | false ↦ λ e. elim (find k f m) [
        | inl h ↦ inl (h.0, omega (arith, h.1), h.2)
        | inr none ↦ inr (λ i lt. elim (cases_lt i m) [
          | inl less ↦ none i less
          | inr le ↦ let is : m ≡ i = omega arith in subst (λ (a : ℕ). same (f a) k ≡ false) is e
        ])
      ]
    ]) refl

-- m different strings are not all among fewer
abbrev AreDifferent : (ℕ → List ℕ) → ℕ → Type 0
AreDifferent f m = (i j : ℕ) → i < m → j < m → f i ≡ f j → i ≡ j

-- the last takes the place of number j
instead : ℕ → ℕ → ℕ → ℕ
instead j m i = cond (nat_eq i j) m i

instead_below : (j m i : ℕ) → i < m → instead j m i < suc m
unfolding instead
instead_below j m i lt = elim (nat_eq i j) as (λ b. cond b m i < suc m) [ true ↦ omega arith | false ↦ omega arith ]

instead_one : (j m a b : ℕ) → a < m → b < m → instead j m a ≡ instead j m b → a ≡ b
unfolding instead
instead_one j m a b la lb e = grind (arith, nat_tests)

instead_not : (j m a : ℕ) → a < m → j < suc m → instead j m a ≡ j → ⊥
unfolding instead
instead_not j m a la lj e = grind (arith, nat_tests)

missing : (ks : List (List ℕ)) (f : ℕ → List ℕ) (m : ℕ) → length ks < m → AreDifferent f m → (i : ℕ) × (i < m) × (has ks (f i) ≡ false)
missing [] f m lt different = (0, omega arith, refl)
missing (k ∷ ks) f zero lt different = absurd (omega arith)
missing (k ∷ ks) f (suc m) lt different =
    elim (find k f (suc m)) [
      | inl h ↦
          let r = missing ks (λ i. f (instead h.0 m i)) m (omega arith) (λ a b la lb e. instead_one h.0 m a b la lb (different (instead h.0 m a) (instead h.0 m b) (instead_below h.0 m a la) (instead_below h.0 m b lb) e)) in
          let t : ℕ = instead h.0 m r.0 in
          let low : t < suc m = instead_below h.0 m r.0 r.1 in (
            t,
            low,
            (elim (same (f t) k) as (λ b. same (f t) k ≡ b → (b || has ks (f t)) ≡ false) [
              | true ↦ λ e.
                  let twice : f t ≡ f h.0 = same_is (f t) k e ∙ sym (same_is (f h.0) k h.2) in
                  absurd (instead_not h.0 m r.0 r.1 h.1 (different t h.0 low h.1 twice))
              | false ↦ λ e. r.2
            ]) refl,
          )
      | inr none ↦
          let r = missing ks f (suc m) (omega arith) different in
          (r.0, r.1, rw (none r.0 r.1) r.2)
    ]

-- so many strings of two bytes and more
numbered : ℕ → ℕ → List ℕ
numbered n i = (i % 256) ∷ (i / 256) ∷ replicate n 0

numbered_one : (n i j : ℕ) → numbered n i ≡ numbered n j → i ≡ j
unfolding numbered
numbered_one n i j e =
    let low : i % 256 ≡ j % 256 = cc in
    let high : i / 256 ≡ j / 256 = cc in
    omega arith

length-zeros : (n : ℕ) → length {A = ℕ} (replicate n 0) ≡ n
length-zeros zero = refl
length-zeros (suc n) = ap suc (length-zeros n)

zeros_bytes : (n i : ℕ) → get_or (replicate n 0) i 0 < 256
zeros_bytes zero i = omega arith
zeros_bytes (suc n) zero = omega arith
zeros_bytes (suc n) (suc i) = zeros_bytes n i

numbered_bytes : (n i : ℕ) → i < 65536 → AreBytes (numbered n i)
unfolding numbered
numbered_bytes n i lt zero = omega arith
numbered_bytes n i lt (suc zero) = omega arith
numbered_bytes n i lt (suc (suc j)) = zeros_bytes n j

length-numbered : (n i : ℕ) → length (numbered n i) ≡ suc (suc n)
unfolding numbered
length-numbered n i = ap (λ k. suc (suc k)) (length-zeros n)

-- ---- one byte

free_byte : (known : List (List ℕ)) (m : ℕ) → has_free known m ≡ true → (b : ℕ) × (b < m) × (has known (b ∷ []) ≡ false)
unfolding has_free
free_byte known zero e = absurd cc
free_byte known (suc m) e =
    (elim (has known (m ∷ [])) as (λ b. has known (m ∷ []) ≡ b → (not b || has_free known m) ≡ true → (b : ℕ) × (b < suc m) × (has known (b ∷ []) ≡ false)) [
      | true ↦ λ h t. let r = free_byte known m t in (r.0, omega (arith, r.1), r.2)
      | false ↦ λ h t. (m, omega arith, h)
    ]) refl e

no_free_byte : (known : List (List ℕ)) (m b : ℕ) → has_free known m ≡ false → b < m → has known (b ∷ []) ≡ true
unfolding has_free
no_free_byte known zero b e lt = absurd (omega arith)
no_free_byte known (suc m) b e lt =
    (elim (has known (m ∷ [])) as (λ t. has known (m ∷ []) ≡ t → (not t || has_free known m) ≡ false → has known (b ∷ []) ≡ true) [
      | true ↦ λ h t. elim (cases_lt b m) [
        | inl less ↦ no_free_byte known m b t less
        | inr le ↦ let is : m ≡ b = omega arith in subst (λ (a : ℕ). has known (a ∷ []) ≡ true) is h
      ]
      | false ↦ λ h t. absurd cc
    ]) refl e

pub free_more : (known : List (List ℕ)) (m n : ℕ) → has_free known m ≡ true → m ≤ n → has_free known n ≡ true
unfolding has_free
free_more known m zero e le = let is : m ≡ zero = omega arith in subst (λ (a : ℕ). has_free known a ≡ true) is e
free_more known m (suc n) e le =
    elim (cases_lt n m) [
      | inl lt ↦ let is : m ≡ suc n = omega arith in subst (λ (a : ℕ). has_free known a ≡ true) is e
      | inr less ↦ elim (not (has known (n ∷ []))) as (λ b. (b || has_free known n) ≡ true) [ true ↦ refl | false ↦ free_more known m n e less ]
    ]

pub free_here : (known : List (List ℕ)) (b : ℕ) → b < 256 → has known (b ∷ []) ≡ false → has_free known 256 ≡ true
unfolding has_free
free_here known b lt new = free_more known (suc b) 256 (rw new refl) (omega arith)

pub no_free_more : (known : List (List ℕ)) (b : ℕ) → has known (b ∷ []) ≡ true → has_free known b ≡ false → has_free known (b + 1) ≡ false
unfolding has_free
no_free_more known b old none =
    let next : b + 1 ≡ suc b = omega arith in
    rw next (rw (old, none) refl)

pub no_free_zero : (known : List (List ℕ)) → has_free known 0 ≡ false
unfolding has_free
no_free_zero known = refl

one_bytes : (b : ℕ) → b < 256 → AreBytes (b ∷ [])
one_bytes b lt zero = lt
one_bytes b lt (suc i) = omega arith

no_bytes : AreBytes []
no_bytes i = omega arith

-- ---- a string of this length

pub record IsFresh (known : List (List ℕ)) (len : ℕ) (x : List ℕ) : Type 0 where
  pub length_is : length x ≡ len
  pub bytes : AreBytes x
  pub is_new : has known x ≡ false

not_true : (b : Bool) → not b ≡ true → b ≡ false
not_true true e = absurd cc
not_true false e = refl

not_false : (b : Bool) → not b ≡ false → b ≡ true
not_false true e = refl
not_false false e = absurd cc

pub fresh : (known : List (List ℕ)) (len : ℕ) → length known < 65536 → is_open known len ≡ true → (x : List ℕ) × IsFresh known len x
unfolding is_open
fresh known zero lt e = ([], record { length_is = refl; bytes = no_bytes; is_new = not_true (has known []) e })
fresh known (suc zero) lt e =
    let r = free_byte known 256 e in
    (r.0 ∷ [], record { length_is = refl; bytes = one_bytes r.0 r.1; is_new = r.2 })
fresh known (suc (suc n)) lt e =
    let r = missing known (numbered n) 65536 lt (λ i j li lj same. numbered_one n i j same) in
    (numbered n r.0, record { length_is = length-numbered n r.0; bytes = numbered_bytes n r.0 r.1; is_new = r.2 })

not_eq : (m n : ℕ) → n < m → (m == n) ≡ false
not_eq m n lt = grind (arith, nat_tests)

long_length : (known : List (List ℕ)) (len : ℕ) → 2 ≤ len → is_open known len ≡ true
unfolding is_open
long_length known len le = rw (not_eq len 0 (omega arith), not_eq len 1 (omega arith)) refl

pub none_fresh : (known : List (List ℕ)) (len : ℕ) (x : List ℕ) → is_open known len ≡ false → IsFresh known len x → ⊥
unfolding is_open
none_fresh known zero [] e f = let t : true ≡ false = sym (not_false (has known []) e) ∙ f.is_new in cc
none_fresh known zero (b ∷ x) e f = absurd (omega (arith, f.length_is))
none_fresh known (suc zero) [] e f = absurd (omega (arith, f.length_is))
none_fresh known (suc zero) (b ∷ []) e f = let t : true ≡ false = sym (no_free_byte known 256 b e (f.bytes 0)) ∙ f.is_new in cc
none_fresh known (suc zero) (b ∷ c ∷ x) e f = absurd (omega (arith, f.length_is))
none_fresh known (suc (suc n)) x e f = let t : true ≡ false = sym (long_length known (suc (suc n)) (omega arith)) ∙ e in cc

-- a length at which one string is new is one that can stand
pub fresh_length : (known : List (List ℕ)) (x : List ℕ) → AreBytes x → has known x ≡ false → is_open known (length x) ≡ true
fresh_length known x bytes new =
    (elim (is_open known (length x)) as (λ b. is_open known (length x) ≡ b → b ≡ true) [
      | true ↦ λ e. refl
      | false ↦ λ e. absurd (none_fresh known (length x) x e (record { length_is = refl; bytes = bytes; is_new = new }))
    ]) refl

-- ---- a limit of the length

pub and_both : (a b : Bool) → (a && b) ≡ true → (a ≡ true) × (b ≡ true)
and_both true b e = (refl, e)
and_both false b e = absurd cc

pub upto_test : (a b : ℕ) → a ≤ b → nat_le a b ≡ true
upto_test a b h = grind (arith, nat_tests)

pub within_length : (most : ℕ) (known : List (List ℕ)) (len : ℕ) → is_length most known len ≡ true → (len ≤ most) × (is_open known len ≡ true)
within_length most known len e = let p = and_both (nat_le len most) (is_open known len) e in (leb-true len most p.0, p.1)

pub can_length : (most : ℕ) (known : List (List ℕ)) (len : ℕ) → len ≤ most → is_open known len ≡ true → is_length most known len ≡ true
can_length most known len le stands = rw (upto_test len most le, stands) refl

-- entries have room for two bytes, and the length has room in its field
pub record Limit (most : ℕ) : Type 0 where
  pub two : 2 ≤ most
  pub room : most < 2 ^ 32

-- ---- entries that stand in a dictionary

pub record Good (most : ℕ) (known : List (List ℕ)) : Type 0 where
  pub limit : Limit most
  pub own : Own known
  pub each : AllByRecursion (λ x. length x ≤ most) known
  pub bytes : AllByRecursion AreBytes known

pub all_push : {A : Type 0} (P : A → Type 0) (xs : List A) (x : A) → AllByRecursion P xs → P x → AllByRecursion P (xs ++ x ∷ [])
all_push P [] x all here = (here, tt)
all_push P (y ∷ xs) x all here = (all.0, all_push P xs x all.1 here)

pub good_push : {most : ℕ} (known : List (List ℕ)) (x : List ℕ) → Good most known → has known x ≡ false → length x ≤ most → AreBytes x → Good most (known ++ x ∷ [])
good_push {most = most} known x g new lt bytes = record { limit = g.limit; own = own_push known x g.own new; each = all_push (λ y. length y ≤ most) known x g.each lt; bytes = all_push AreBytes known x g.bytes bytes }

pub good_nil : {most : ℕ} → Limit most → Good most []
good_nil limit = record { limit = limit; own = own_nil; each = tt; bytes = tt }

pub two_bytes : (known : List (List ℕ)) → length known < 65536 → (x : List ℕ) × IsFresh known 2 x
unfolding is_open
two_bytes known lt = fresh known 2 lt refl

-- so many entries more
pub grow : {most : ℕ} (m : ℕ) (known : List (List ℕ)) → Good most known → length known + m ≤ 4096 → (more : List (List ℕ)) × (length more ≡ m) × Good most (known ++ more)
grow {most = most} zero known g few = ([], refl, rw append-nil g)
grow {most = most} (suc m) known g few =
    let x = two_bytes known (omega arith) in
    let r = grow m (known ++ x.0 ∷ []) (good_push known x.0 g x.1.is_new (omega (arith, x.1.length_is, g.limit.two)) x.1.bytes) (omega (arith, length_push known x.0)) in
    (x.0 ∷ r.0, one_more r.0 m r.1, subst (Good most) (append_assoc known (x.0 ∷ []) r.0) r.2)
  where
    one_more : (xs : List (List ℕ)) (k : ℕ) → length xs ≡ k → suc (length xs) ≡ suc k
    one_more xs k e = ap suc e
