-- Sets of candidates: their members, and what they sum up to.
use Rattle.std.proofs.Common.{◌≡◌, ◌≢◌, ℕ, zero, suc, ◌+◌, ◌*◌, ◌<◌, ◌≤◌, List, [], ◌∷◌, ◌++◌, refl, true, false, Bool, ◌&&◌, ◌||◌, cond, sym, ap, ◌∙◌, subst, length, get_or, take, arith, ◌⊎◌, inl, inr, zero-add, add-zero}
use Rattle.std.specs.Prelude.{◌==◌, not}
use Rattle.std.specs.List.{sum_by, filter, All, AllPairs}
use Rattle.std.proofs.lemmas.List.Sums.{sum_by-cons, sum_by-append}
use Rattle.std.proofs.lemmas.List.Elements.{filter-append}
use Rattle.std.proofs.lemmas.Bool.{eq-eqb, ne_eqb, eqb-true}
use Rattle.kt_policy.specs.declared.candidate.Candidate.{Candidate}
use Rattle.kt_policy.specs.Gain.{chosen, is_known}

abbrev pub In : Candidate → List Candidate → Type 0
In x [] = ⊥
In x (c ∷ cs) = (x ≡ c) ⊎ In x cs

-- none of these has the number
abbrev pub Absent : ℕ → List Candidate → Type 0
Absent n [] = Unit {0}
Absent n (c ∷ cs) = (c.rowset ≢ n) × Absent n cs

abbrev pub Distinct : List Candidate → Type 0
Distinct [] = Unit {0}
Distinct (c ∷ cs) = Absent c.rowset cs × Distinct cs

pub absent_in : (n : ℕ) (x : Candidate) (cs : List Candidate) → Absent n cs → In x cs → x.rowset ≢ n
absent_in n x [] h i = absurd i
absent_in n x (c ∷ cs) h (inl e) = subst (λ y. y.rowset ≢ n) (sym e) h.0
absent_in n x (c ∷ cs) h (inr i) = absent_in n x cs h.1 i

pub absent_from : (n : ℕ) (cs : List Candidate) → ((x : Candidate) → In x cs → x.rowset ≢ n) → Absent n cs
absent_from n [] h = tt
absent_from n (c ∷ cs) h = (h c (inl refl), absent_from n cs (λ x i. h x (inr i)))

-- two members of one number are one
pub one_of : (x y : Candidate) (cs : List Candidate) → Distinct cs → In x cs → In y cs → x.rowset ≡ y.rowset → x ≡ y
one_of x y [] d i j e = absurd i
one_of x y (c ∷ cs) d (inl ex) (inl ey) e = ex ∙ sym ey
one_of x y (c ∷ cs) d (inl ex) (inr j) e = absurd (absent_in c.rowset y cs d.0 j (sym e ∙ ap (λ (z : Candidate). z.rowset) ex))
one_of x y (c ∷ cs) d (inr i) (inl ey) e = absurd (absent_in c.rowset x cs d.0 i (e ∙ ap (λ (z : Candidate). z.rowset) ey))
one_of x y (c ∷ cs) d (inr i) (inr j) e = one_of x y cs d.1 i j e

pub in_at : (cs : List Candidate) (k : ℕ) (d : Candidate) → k < length cs → In (get_or cs k d) cs
in_at [] k d lt = absurd (omega arith)
in_at (c ∷ cs) zero d lt = inl refl
in_at (c ∷ cs) (suc k) d lt = inr (in_at cs k d (omega arith))

pub place_in : (x : Candidate) (cs : List Candidate) → In x cs → (k : ℕ) × (k < length cs) × ((d : Candidate) → get_or cs k d ≡ x)
place_in x [] i = absurd i
place_in x (c ∷ cs) (inl e) = (0, omega arith, λ d. sym e)
place_in x (c ∷ cs) (inr i) = let p = place_in x cs i in (suc p.0, omega (arith, p.1), λ d. p.2 d)

pub in_take : (x : Candidate) (k : ℕ) (cs : List Candidate) → In x (take k cs) → In x cs
in_take x zero cs i = absurd i
in_take x (suc k) [] i = absurd i
in_take x (suc k) (c ∷ cs) (inl e) = inl e
in_take x (suc k) (c ∷ cs) (inr i) = inr (in_take x k cs i)

pub in_filter : (x : Candidate) (p : Candidate → Bool) (cs : List Candidate) → In x (filter p cs) → In x cs × (p x ≡ true)
in_filter x p [] i = absurd i
in_filter x p (c ∷ cs) i = one (p c) refl (in_filter x p cs) i
  where
    one : (b : Bool) → p c ≡ b → (In x (filter p cs) → In x cs × (p x ≡ true)) → In x (cond b (c ∷ filter p cs) (filter p cs)) → In x (c ∷ cs) × (p x ≡ true)
    one true is rest (inl e) = (inl e, ap p e ∙ is)
    one true is rest (inr j) = let r = rest j in (inr r.0, r.1)
    one false is rest j = let r = rest j in (inr r.0, r.1)

pub filter_in : (x : Candidate) (p : Candidate → Bool) (cs : List Candidate) → In x cs → p x ≡ true → In x (filter p cs)
filter_in x p [] i h = absurd i
filter_in x p (c ∷ cs) i h = one (p c) refl (filter_in x p cs) i
  where
    one : (b : Bool) → p c ≡ b → (In x cs → p x ≡ true → In x (filter p cs)) → In x (c ∷ cs) → In x (cond b (c ∷ filter p cs) (filter p cs))
    one true is rest (inl e) = inl e
    one true is rest (inr j) = inr (rest j h)
    one false is rest (inl e) = let no : true ≡ false = sym h ∙ ap p e ∙ is in cc
    one false is rest (inr j) = rest j h

pub absent_filter : (n : ℕ) (p : Candidate → Bool) (cs : List Candidate) → Absent n cs → Absent n (filter p cs)
absent_filter n p cs h = absent_from n (filter p cs) (λ x i. absent_in n x cs h (in_filter x p cs i).0)

pub distinct_filter : (p : Candidate → Bool) (cs : List Candidate) → Distinct cs → Distinct (filter p cs)
distinct_filter p [] d = tt
distinct_filter p (c ∷ cs) d = one (p c) (distinct_filter p cs d.1)
  where
    one : (b : Bool) → Distinct (filter p cs) → Distinct (cond b (c ∷ filter p cs) (filter p cs))
    one true rest = (absent_filter c.rowset p cs d.0, rest)
    one false rest = rest

pub distinct_take : (k : ℕ) (cs : List Candidate) → Distinct cs → Distinct (take k cs)
distinct_take zero cs d = tt
distinct_take (suc k) [] d = tt
distinct_take (suc k) (c ∷ cs) d = (absent_from c.rowset (take k cs) (λ x i. absent_in c.rowset x cs d.0 (in_take x k cs i)), distinct_take k cs d.1)

-- between pairs of places and the list's own recursion
pub distinct_from_pairs : (cs : List Candidate) → AllPairs (λ (c d : Candidate). c.rowset ≢ d.rowset) cs → Distinct cs
distinct_from_pairs [] h = tt
distinct_from_pairs (c ∷ cs) h = (
  absent_from c.rowset cs (λ x i e. let p = place_in x cs i in h 0 (suc p.0) c (omega arith) (omega (arith, p.1)) (sym e ∙ ap (λ (y : Candidate). y.rowset) (sym (p.2 c)))),
  distinct_from_pairs cs (λ i j d lt in_list. h (suc i) (suc j) d (omega arith) (omega arith)),
)

pub pairs_from_distinct : (cs : List Candidate) → Distinct cs → AllPairs (λ (c d : Candidate). c.rowset ≢ d.rowset) cs
pairs_from_distinct [] h i j d lt in_list = absurd (omega arith)
pairs_from_distinct (c ∷ cs) h zero zero d lt in_list = absurd (omega arith)
pairs_from_distinct (c ∷ cs) h zero (suc j) d lt in_list = λ e. absent_in c.rowset (get_or cs j d) cs h.0 (in_at cs j d (omega arith)) (sym e)
pairs_from_distinct (c ∷ cs) h (suc i) zero d lt in_list = absurd (omega arith)
pairs_from_distinct (c ∷ cs) h (suc i) (suc j) d lt in_list = pairs_from_distinct cs h.1 i j d (omega arith) (omega arith)

-- what holds at each place, and of each member
pub all_from_in : (P : Candidate → Type 0) (cs : List Candidate) → ((x : Candidate) → In x cs → P x) → All P cs
all_from_in P cs h k d lt = h (get_or cs k d) (in_at cs k d lt)

pub in_from_all : (P : Candidate → Type 0) (cs : List Candidate) → All P cs → (x : Candidate) → In x cs → P x
in_from_all P cs h x i = let p = place_in x cs i in subst P (p.2 x) (h p.0 x p.1)

-- a number that is known is that of a member
pub member_of : (cs : List Candidate) (n : ℕ) → is_known cs n ≡ true → (x : Candidate) × In x cs × (x.rowset ≡ n)
member_of [] n h = cc
member_of (c ∷ cs) n h = one (c.rowset == n) refl (member_of cs n) h
  where
    one : (b : Bool) → (c.rowset == n) ≡ b → (is_known cs n ≡ true → (x : Candidate) × In x cs × (x.rowset ≡ n)) → (b || is_known cs n) ≡ true → (x : Candidate) × In x (c ∷ cs) × (x.rowset ≡ n)
    one true is rest g = (c, inl refl, eqb-true c.rowset n is)
    one false is rest g = let r = rest g in (r.0, inr r.1, r.2)

pub known_of : (cs : List Candidate) (x : Candidate) → In x cs → is_known cs x.rowset ≡ true
known_of [] x i = absurd i
known_of (c ∷ cs) x (inl e) = ap (λ b. b || is_known cs x.rowset) (eq-eqb c.rowset x.rowset (ap (λ (y : Candidate). y.rowset) (sym e)))
known_of (c ∷ cs) x (inr i) = later (c.rowset == x.rowset) (known_of cs x i)
  where
    later : (b : Bool) → is_known cs x.rowset ≡ true → (b || is_known cs x.rowset) ≡ true
    later true g = refl
    later false g = g

-- two tests that agree on the members choose the same
pub filter_alike : (p q : Candidate → Bool) (cs : List Candidate) → ((x : Candidate) → In x cs → p x ≡ q x) → filter p cs ≡ filter q cs
filter_alike p q [] h = refl
filter_alike p q (c ∷ cs) h = ap (λ b. cond b (c ∷ filter p cs) (filter p cs)) (h c (inl refl)) ∙ ap (λ r. cond (q c) (c ∷ r) r) (filter_alike p q cs (λ x i. h x (inr i)))

-- the sum over a chosen set
pub total_cons : (f : Candidate → ℕ) (t : ℕ → Bool) (c : Candidate) (cs : List Candidate) → sum_by f (chosen t (c ∷ cs)) ≡ cond (t c.rowset) (f c) 0 + sum_by f (chosen t cs)
total_cons f t c cs = elim (t c.rowset) as (λ b. sum_by f (cond b (c ∷ chosen t cs) (chosen t cs)) ≡ cond b (f c) 0 + sum_by f (chosen t cs)) [
  | true ↦ sum_by-cons f c (chosen t cs)
  | false ↦ sym (zero-add (sum_by f (chosen t cs)))
]

pub total_push : (f : Candidate → ℕ) (t : ℕ → Bool) (cs : List Candidate) (x : Candidate) → sum_by f (chosen t (cs ++ x ∷ [])) ≡ sum_by f (chosen t cs) + cond (t x.rowset) (f x) 0
total_push f t cs x = ap (sum_by f) (filter-append (λ c. t c.rowset) cs (x ∷ [])) ∙ sum_by-append f (chosen t cs) (chosen t (x ∷ []))
    ∙ ap (λ n. sum_by f (chosen t cs) + n) (total_cons f t x [] ∙ add-zero (cond (t x.rowset) (f x) 0))

-- with one number more in a set, or without it, the others of it stay
abbrev pub with_number : ℕ → (ℕ → Bool) → ℕ → Bool
with_number n t m = t m || (m == n)

abbrev pub without_number : ℕ → (ℕ → Bool) → ℕ → Bool
without_number n t m = t m && not (m == n)

pub chosen_with : (n : ℕ) (t : ℕ → Bool) (cs : List Candidate) → Absent n cs → chosen (with_number n t) cs ≡ chosen t cs
chosen_with n t cs h = filter_alike (λ c. with_number n t c.rowset) (λ c. t c.rowset) cs (λ x i. ap (λ b. t x.rowset || b) (ne_eqb x.rowset n (absent_in n x cs h i)) ∙ or_false (t x.rowset))
  where
    or_false : (b : Bool) → (b || false) ≡ b
    or_false true = refl
    or_false false = refl

pub chosen_without : (n : ℕ) (t : ℕ → Bool) (cs : List Candidate) → Absent n cs → chosen (without_number n t) cs ≡ chosen t cs
chosen_without n t cs h = filter_alike (λ c. without_number n t c.rowset) (λ c. t c.rowset) cs (λ x i. ap (λ b. t x.rowset && not b) (ne_eqb x.rowset n (absent_in n x cs h i)) ∙ and_true (t x.rowset))
  where
    and_true : (b : Bool) → (b && true) ≡ b
    and_true true = refl
    and_true false = refl

pub has_with : (n : ℕ) (t : ℕ → Bool) → with_number n t n ≡ true
has_with n t = ap (λ b. t n || b) (eq-eqb n n refl) ∙ or_true (t n)
  where
    or_true : (b : Bool) → (b || true) ≡ true
    or_true true = refl
    or_true false = refl

pub lacks_without : (n : ℕ) (t : ℕ → Bool) → without_number n t n ≡ false
lacks_without n t = ap (λ b. t n && not b) (eq-eqb n n refl) ∙ and_false (t n)
  where
    and_false : (b : Bool) → (b && false) ≡ false
    and_false true = refl
    and_false false = refl

-- a sum over a chosen set is at most so much for each member of the whole
pub total_le : (f : Candidate → ℕ) (t : ℕ → Bool) (m : ℕ) (cs : List Candidate) → ((x : Candidate) → In x cs → f x ≤ m) → sum_by f (chosen t cs) ≤ m * length cs
total_le f t m [] h = omega arith
total_le f t m (c ∷ cs) h =
    let here : cond (t c.rowset) (f c) 0 ≤ m = elim (t c.rowset) as (λ b. cond b (f c) 0 ≤ m) [ true ↦ h c (inl refl) | false ↦ omega arith ] in
    omega (arith, total_cons f t c cs, here, total_le f t m cs (λ x i. h x (inr i)))

-- what a read past the end would give
abbrev pub blank : Candidate
blank = record { rowset = 0; least = 0; greatest = 0; units = 0 }
