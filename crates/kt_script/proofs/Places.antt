-- Places of faults: there is one, and how those of parts make those of a whole.
use Rattle.std.proofs.Common.{◌≡◌, ℕ, suc, ◌+◌, ◌<◌, ◌≤◌, List, [], ◌∷◌, ◌++◌, length, take, drop, refl, sym, ap, ap₂, subst, ◌∙◌, inl, inr, ◌⊎◌, arith, append_assoc, length-append}
use Rattle.std.proofs.lemmas.List.{append-nil, take-append-drop, take-take, length-take-le}
use Rattle.std.proofs.Math.Seq.{take-append_seam, take-append-add}
use Rattle.std.proofs.lemmas.Bool.{cases_order}
use Rattle.kt_script.specs.Places.{CanGoOn, IsFault}
use Rattle.kt_script.specs.Fronts.{IsFurther, Either, Chain, IsWord}

-- what goes on with more bytes goes on with fewer
pub shorter : (L : List ℕ → Type 0) (text : List ℕ) (m n : ℕ) → m ≤ n → CanGoOn L (take n text) → CanGoOn L (take m text)
shorter L text m n le c = (drop m (take n text) ++ c.0, subst L e c.1)
  where
    parts : take n text ≡ take m text ++ drop m (take n text)
    parts = sym (take-append-drop m (take n text)) ∙ ap (λ (x : List ℕ). x ++ drop m (take n text)) (take-take m n text le)

    e : take n text ++ c.0 ≡ take m text ++ (drop m (take n text) ++ c.0)
    e = ap (λ (x : List ℕ). x ++ c.0) parts ∙ append_assoc (take m text) (drop m (take n text)) c.0

not_below : (L : List ℕ → Type 0) (text : List ℕ) (m n : ℕ) → IsFault L text m → IsFault L text n → m < n → ⊥
not_below L text m n p q lt = p.ends (let w = q.within in omega arith) (shorter L text (suc m) n lt q.front)

-- a text has one first fault
pub one_place : (L : List ℕ → Type 0) (text : List ℕ) (m n : ℕ) → IsFault L text m → IsFault L text n → m ≡ n
one_place L text m n p q = by (cases_order m n)
  where
    by : (m ≡ n) ⊎ ((m < n) ⊎ (n < m)) → m ≡ n
    by (inl e) = e
    by (inr (inl lt)) = absurd (not_below L text m n p q lt)
    by (inr (inr lt)) = absurd (not_below L text n m q p lt)

-- kinds of spellings that begin alike
pub alike : (L M : List ℕ → Type 0) (text : List ℕ) (m : ℕ) → ((x : List ℕ) → L x → CanGoOn M x) → ((x : List ℕ) → M x → CanGoOn L x) → IsFault L text m → IsFault M text m
alike L M text m to back p = record {
  within = p.within;
  front = over L M to (take m text) p.front;
  ends = λ lt c. p.ends lt (over M L back (take (suc m) text) c);
}
  where
    over : (L M : List ℕ → Type 0) → ((x : List ℕ) → L x → CanGoOn M x) → (x : List ℕ) → CanGoOn L x → CanGoOn M x
    over L M to x c = let d = to (x ++ c.0) c.1 in (c.0 ++ d.0, subst M (append_assoc x c.0 d.0) d.1)

-- what is spelled goes on
pub whole : (M : List ℕ → Type 0) (x : List ℕ) → M x → CanGoOn M x
whole M x m = ([], subst M (sym (append-nil x)) m)

pub same_kind : (L M : List ℕ → Type 0) (text : List ℕ) (m : ℕ) → ((x : List ℕ) → L x → M x) → ((x : List ℕ) → M x → L x) → IsFault L text m → IsFault M text m
same_kind L M text m to back p = alike L M text m (λ x l. whole M x (to x l)) (λ x l. whole L x (back x l)) p

-- the greater of the places
pub either : (A B : List ℕ → Type 0) (text : List ℕ) (m n k : ℕ) → m ≤ k → n ≤ k → (k ≡ m) ⊎ (k ≡ n) → IsFault A text m → IsFault B text n → IsFault (Either A B) text k
either A B text m n k lm ln which p q = record {
  within = within which;
  front = front which;
  ends = λ lt c. ends lt c.0 c.1;
}
  where
    within : (k ≡ m) ⊎ (k ≡ n) → k ≤ length text
    within (inl e) = subst (λ i. i ≤ length text) (sym e) p.within
    within (inr e) = subst (λ i. i ≤ length text) (sym e) q.within

    front : (k ≡ m) ⊎ (k ≡ n) → CanGoOn (Either A B) (take k text)
    front (inl e) = subst (λ i. CanGoOn (Either A B) (take i text)) (sym e) (p.front.0, inl p.front.1)
    front (inr e) = subst (λ i. CanGoOn (Either A B) (take i text)) (sym e) (q.front.0, inr q.front.1)

    ends : k < length text → (rest : List ℕ) → Either A B (take (suc k) text ++ rest) → ⊥
    ends lt rest (inl a) = p.ends (omega arith) (shorter A text (suc m) (suc k) (omega arith) (rest, a))
    ends lt rest (inr b) = q.ends (omega arith) (shorter B text (suc n) (suc k) (omega arith) (rest, b))

-- ---- one spelling behind another

-- two ways to part one text
pub split_two : (p x a b : List ℕ) → p ++ x ≡ a ++ b → ((p ≡ a) × (x ≡ b)) ⊎ (((c : ℕ) × (z : List ℕ) × (p ≡ a ++ c ∷ z) × (b ≡ c ∷ (z ++ x))) ⊎ ((c : ℕ) × (z : List ℕ) × (a ≡ p ++ c ∷ z) × (x ≡ c ∷ (z ++ b))))
split_two [] x [] b e = inl (refl, e)
split_two [] x (c ∷ a) b e = inr (inr (c, a, refl, e))
split_two (c ∷ p) x [] b e = inr (inl (c, p, refl, sym e))
split_two (c ∷ p) x (d ∷ a) b e = by (split_two p x a b cc)
  where
    same : c ≡ d
    same = cc

    by : ((p ≡ a) × (x ≡ b)) ⊎ (((c : ℕ) × (z : List ℕ) × (p ≡ a ++ c ∷ z) × (b ≡ c ∷ (z ++ x))) ⊎ ((c : ℕ) × (z : List ℕ) × (a ≡ p ++ c ∷ z) × (x ≡ c ∷ (z ++ b))))
        → ((c ∷ p ≡ d ∷ a) × (x ≡ b)) ⊎ (((f : ℕ) × (z : List ℕ) × (c ∷ p ≡ (d ∷ a) ++ f ∷ z) × (b ≡ f ∷ (z ++ x))) ⊎ ((f : ℕ) × (z : List ℕ) × (d ∷ a ≡ (c ∷ p) ++ f ∷ z) × (x ≡ f ∷ (z ++ b))))
    by (inl q) = inl (ap₂ (λ (i : ℕ) (l : List ℕ). i ∷ l) same q.0, q.1)
    by (inr (inl q)) = inr (inl (q.0, q.1, ap₂ (λ (i : ℕ) (l : List ℕ). i ∷ l) same q.2, q.3))
    by (inr (inr q)) = inr (inr (q.0, q.1, ap₂ (λ (i : ℕ) (l : List ℕ). i ∷ l) (sym same) q.2, q.3))

-- no spelling of the one kind goes on as the other begins
abbrev pub Parted : (List ℕ → Type 0) → (List ℕ → Type 0) → Type 0
Parted A B = (a : List ℕ) (c : ℕ) (x y : List ℕ) → A a → A (a ++ c ∷ x) → B (c ∷ y) → ⊥

-- behind a front of the first part: the first part ends there, or goes on
chain_cut : (A B : List ℕ → Type 0) (f : List ℕ) (d : ℕ) (r : List ℕ) → Parted A B → CanGoOn A f → Chain A B (f ++ d ∷ r) → (A f × B (d ∷ r)) ⊎ CanGoOn A (f ++ d ∷ [])
chain_cut A B f d r parted on c = by (split_two f (d ∷ r) c.0 c.1 c.4)
  where
    by : ((f ≡ c.0) × (d ∷ r ≡ c.1)) ⊎ (((e : ℕ) × (z : List ℕ) × (f ≡ c.0 ++ e ∷ z) × (c.1 ≡ e ∷ (z ++ d ∷ r))) ⊎ ((e : ℕ) × (z : List ℕ) × (c.0 ≡ f ++ e ∷ z) × (d ∷ r ≡ e ∷ (z ++ c.1)))) → (A f × B (d ∷ r)) ⊎ CanGoOn A (f ++ d ∷ [])
    by (inl p) = inl (subst A (sym p.0) c.2, subst B (sym p.1) c.3)
    by (inr (inl p)) = absurd (parted c.0 p.0 (p.1 ++ on.0) (p.1 ++ d ∷ r) c.2 (subst A (ap (λ (x : List ℕ). x ++ on.0) p.2 ∙ append_assoc c.0 (p.0 ∷ p.1) on.0) on.1) (subst B p.3 c.3))
    by (inr (inr p)) = let same : d ≡ p.0 = let e = p.3 in cc in inr (p.1, subst A (p.2 ∙ ap (λ i. f ++ i ∷ p.1) (sym same) ∙ sym (append_assoc f (d ∷ []) p.1)) c.2)

next_byte : (f : List ℕ) (d : ℕ) (q : List ℕ) → take (suc (length f)) (f ++ d ∷ q) ≡ f ++ d ∷ []
next_byte f d q = let e : suc (length f) ≡ length f + 1 = omega arith in ap (λ n. take n (f ++ d ∷ q)) e ∙ take-append-add f (d ∷ q) 1

-- the first part is whole, and the fault is in the second
pub in_second : (A B : List ℕ → Type 0) (p q : List ℕ) (n : ℕ) → Parted A B → IsFault A (p ++ q) (length p) → A p → IsFault B q n → IsFault (Chain A B) (p ++ q) (length p + n)
in_second A B p q n parted first is second = record {
  within = let w = second.within in omega (arith, length-append p q);
  front = (second.front.0, (p, take n q ++ second.front.0, is, second.front.1, ap (λ (x : List ℕ). x ++ second.front.0) (take-append-add p q n) ∙ append_assoc p (take n q) second.front.0));
  ends = λ lt c. ends q refl (omega (arith, length-append p q)) c.0 (subst (λ (x : List ℕ). Chain A B (x ++ c.0)) (let e : suc (length p + n) ≡ length p + suc n = omega arith in ap (λ i. take i (p ++ q)) e ∙ take-append-add p q (suc n)) c.1);
}
  where
    ends : (q' : List ℕ) → q ≡ q' → n < length q → (r : List ℕ) → Chain A B ((p ++ take (suc n) q) ++ r) → ⊥
    ends [] e lt r c = let none : length q ≡ 0 = ap length e in omega arith
    ends (d ∷ q') e lt r c =
        let flat : (p ++ take (suc n) q) ++ r ≡ p ++ d ∷ (take n q' ++ r) = ap (λ (x : List ℕ). (p ++ take (suc n) x) ++ r) e ∙ append_assoc p (d ∷ take n q') r in
        by (chain_cut A B p d (take n q' ++ r) parted (whole A p is) (subst (Chain A B) flat c))
      where
        by : (A p × B (d ∷ (take n q' ++ r))) ⊎ CanGoOn A (p ++ d ∷ []) → ⊥
        by (inl two) = second.ends lt (r, subst (λ (x : List ℕ). B (take (suc n) x ++ r)) (sym e) two.1)
        by (inr on) = first.ends (omega (arith, length-append p q)) (subst (λ (x : List ℕ). CanGoOn A x) (sym (ap (λ (x : List ℕ). take (suc (length p)) (p ++ x)) e ∙ next_byte p d q')) on)

-- the fault is in the first part
pub in_first : (A B : List ℕ → Type 0) (p q b : List ℕ) → Parted A B → IsFault A (p ++ q) (length p) → (A p → ⊥) → B b → IsFault (Chain A B) (p ++ q) (length p)
in_first A B p q b parted first not some = record {
  within = first.within;
  front = (first.front.0 ++ b, (take (length p) (p ++ q) ++ first.front.0, b, first.front.1, some, sym (append_assoc (take (length p) (p ++ q)) first.front.0 b)));
  ends = λ lt c. ends q refl (omega (arith, length-append p q)) c.0 c.1;
}
  where
    on : CanGoOn A p
    on = subst (CanGoOn A) (take-append_seam p q) first.front

    ends : (q' : List ℕ) → q ≡ q' → 0 < length q → (r : List ℕ) → Chain A B (take (suc (length p)) (p ++ q) ++ r) → ⊥
    ends [] e lt r c = let none : length q ≡ 0 = ap length e in omega arith
    ends (d ∷ q') e lt r c =
        let here : take (suc (length p)) (p ++ q) ≡ p ++ d ∷ [] = ap (λ (x : List ℕ). take (suc (length p)) (p ++ x)) e ∙ next_byte p d q' in
        by (chain_cut A B p d r parted on (subst (Chain A B) (ap (λ (x : List ℕ). x ++ r) here ∙ append_assoc p (d ∷ []) r) c))
      where
        by : (A p × B (d ∷ r)) ⊎ CanGoOn A (p ++ d ∷ []) → ⊥
        by (inl two) = not two.0
        by (inr more) = first.ends (omega (arith, length-append p q)) (subst (CanGoOn A) (sym (ap (λ (x : List ℕ). take (suc (length p)) (p ++ x)) e ∙ next_byte p d q')) more)

-- ---- byte by byte

-- a spelling of one byte more
pub byte_on : (L M : List ℕ → Type 0) (b : ℕ) (bytes : List ℕ) (n : ℕ) → ((x : List ℕ) → M x → L (b ∷ x)) → ((x : List ℕ) → L (b ∷ x) → M x) → IsFault M bytes n → IsFault L (b ∷ bytes) (suc n)
byte_on L M b bytes n to back p = record {
  within = let w = p.within in omega arith;
  front = (p.front.0, to (take n bytes ++ p.front.0) p.front.1);
  ends = λ lt c. p.ends (omega arith) (c.0, back (take (suc n) bytes ++ c.0) c.1);
}

-- with this byte no spelling goes on
pub byte_off : (L : List ℕ → Type 0) (b : ℕ) (bytes x : List ℕ) → L x → ((y : List ℕ) → L (b ∷ y) → ⊥) → IsFault L (b ∷ bytes) 0
byte_off L b bytes x l none = record { within = omega arith; front = (x, l); ends = λ lt c. none c.0 c.1 }

pub no_bytes : (L : List ℕ → Type 0) (x : List ℕ) → L x → IsFault L [] 0
no_bytes L x l = record { within = omega arith; front = (x, l); ends = λ lt c. absurd (omega (arith, lt)) }

-- ---- the same at a place of a text

pub second_at : (A B : List ℕ → Type 0) (text : List ℕ) (m n : ℕ) → Parted A B → IsFault A text m → A (take m text) → IsFault B (drop m text) n → IsFault (Chain A B) text (m + n)
second_at A B text m n parted first is second =
    let within = first.within in
    let size : length (take m text) ≡ m = length-take-le m text within in
    let whole : take m text ++ drop m text ≡ text = take-append-drop m text in
    subst (λ (x : List ℕ). IsFault (Chain A B) x (m + n)) whole
    (subst (λ k. IsFault (Chain A B) (take m text ++ drop m text) (k + n)) size
    (in_second A B (take m text) (drop m text) n parted (subst (λ k. IsFault A (take m text ++ drop m text) k) (sym size) (subst (λ (x : List ℕ). IsFault A x m) (sym whole) first)) is second))

pub first_at : (A B : List ℕ → Type 0) (text b : List ℕ) (m : ℕ) → Parted A B → IsFault A text m → (A (take m text) → ⊥) → B b → IsFault (Chain A B) text m
first_at A B text b m parted first not some =
    let within = first.within in
    let size : length (take m text) ≡ m = length-take-le m text within in
    let whole : take m text ++ drop m text ≡ text = take-append-drop m text in
    subst (λ (x : List ℕ). IsFault (Chain A B) x m) whole
    (subst (λ k. IsFault (Chain A B) (take m text ++ drop m text) k) size
    (in_first A B (take m text) (drop m text) b parted (subst (λ k. IsFault A (take m text ++ drop m text) k) (sym size) (subst (λ (x : List ℕ). IsFault A x m) (sym whole) first)) not some))

-- a word goes on with nothing
pub word_parted : (word : List ℕ) (B : List ℕ → Type 0) → Parted (IsWord word) B
word_parted word B a c x y e f b = omega (arith, ap length e, ap length f, length-append a (c ∷ x))

-- the further of two places, for the one kind or the other
pub further_of : {A B : List ℕ → Type 0} {text : List ℕ} {m n k : ℕ} → IsFurther m n k → IsFault A text m → IsFault B text n → IsFault (Either A B) text k
further_of {A = A} {B = B} {text = text} {m = m} {n = n} {k = k} far p q = either A B text m n k far.first far.second far.one p q

-- ---- behind a front

-- what goes on behind this front as the other kind does
pub behind_front : (L M : List ℕ → Type 0) (front t : List ℕ) (m : ℕ) → ((x : List ℕ) → M x → L (front ++ x)) → ((x : List ℕ) → L (front ++ x) → M x) → IsFault M t m → IsFault L (front ++ t) (length front + m)
behind_front L M [] t m to back p = let e : m ≡ 0 + m = omega arith in subst (λ k. IsFault L t k) e (same_kind M L t m to back p)
behind_front L M (b ∷ front) t m to back p =
    let e : suc (length front + m) ≡ suc (length front) + m = omega arith in
    subst (λ k. IsFault L (b ∷ (front ++ t)) k) e
    (byte_on L (λ x. L (b ∷ x)) b (front ++ t) (length front + m) (λ x l. l) (λ x l. l) (behind_front (λ x. L (b ∷ x)) M front t m to back p))
