-- Lists of entries and of views.
use Rattle.std.proofs.Common.{◌≡◌, ℕ, zero, suc, ◌+◌, ◌<◌, ◌≤◌, leb, cond, Bool, true, false, ◌≢◌, ◌⊎◌, inl, inr, ⊎_elim, List, [], ◌∷◌, ◌++◌, length, set, sym, refl, ap, ◌∙◌, subst, arith, append_assoc, leb-true, ne_eqb, eq-eqb, length-append}
use Rattle.std.proofs.lemmas.List.{append-nil}
use Rattle.std.proofs.lemmas.List.Elements.{filter-append}
use Rattle.std.specs.Prelude.{Option, Some, None}
use mathlib.Core.Option.{some, some-injective, some-ne-none}
use lib.ListN.{get_elem?}
use Rattle.kt_seatlock.specs.Trails.{Each, longer, bears, own, Follows, Adds}
use Rattle.kt_seatlock.specs.Rule.{total}

abbrev tail_of : {A : Type 0} → List A → List A
tail_of [] = []
tail_of (x ∷ xs) = xs

module _ {A : Type 0} where
  pub each_map : (P Q : A → Type 0) → ((x : A) → P x → Q x) → (l : List A) → Each P l → Each Q l
  each_map P Q f [] e = tt
  each_map P Q f (x ∷ xs) e = (f x e.0, each_map P Q f xs e.1)

  pub each_append : (P : A → Type 0) (l m : List A) → Each P l → Each P m → Each P (l ++ m)
  each_append P [] m a b = b
  each_append P (x ∷ xs) m a b = (a.0, each_append P xs m a.1 b)

  pub each_behind : (P : A → Type 0) (l m : List A) → Each P (l ++ m) → Each P m
  each_behind P [] m a = a
  each_behind P (x ∷ xs) m a = each_behind P xs m a.1

  -- of two ends of one list, the shorter is a part of the longer
  each_shorter : (P : A → Type 0) (xs ys r t : List A) → xs ++ r ≡ ys ++ t → length xs ≤ length ys → Each P r → Each P t
  each_shorter P [] ys r t e le h = each_behind P ys t (subst (Each P) e h)
  each_shorter P (x ∷ xs) [] r t e le h = absurd (omega arith)
  each_shorter P (x ∷ xs) (y ∷ ys) r t e le h = each_shorter P xs ys r t (ap tail_of e) (omega arith) h

  -- the new last element, and its place
  pub at_end : (l : List A) (a b : A) (j : ℕ) → get_elem? (l ++ a ∷ []) j ≡ some b → (get_elem? l j ≡ some b) ⊎ ((j ≡ length l) × (a ≡ b))
  at_end [] a b zero e = inr (refl, some-injective a b e)
  at_end [] a b (suc j) e = absurd (some-ne-none b (sym e))
  at_end (x ∷ xs) a b zero e = inl e
  at_end (x ∷ xs) a b (suc j) e = ⊎_elim (λ (h : get_elem? xs j ≡ some b). inl h) (λ (h : (j ≡ length xs) × (a ≡ b)). let i = h.0 in inr (omega arith, h.1)) (at_end xs a b j e)

  pub within : (l : List A) (j : ℕ) (a : A) → get_elem? l j ≡ some a → j < length l
  within [] j a e = absurd (some-ne-none a (sym e))
  within (x ∷ xs) zero a e = omega arith
  within (x ∷ xs) (suc j) a e = let h = within xs j a e in omega arith

  pub only : (a b : A) (j : ℕ) → get_elem? (a ∷ []) j ≡ some b → (j ≡ 0) × (a ≡ b)
  only a b zero e = (refl, some-injective a b e)
  only a b (suc j) e = absurd (some-ne-none b (sym e))

  module _ (f : A → ℕ) where
    pub total_set : (l : List A) (i : ℕ) (v w : A) → get_elem? l i ≡ some v → total f (set l i w) + f v ≡ total f l + f w
    total_set [] i v w e = absurd (some-ne-none v (sym e))
    total_set (x ∷ xs) zero v w e = let h : f x ≡ f v = ap f (some-injective x v e) in omega arith
    total_set (x ∷ xs) (suc i) v w e = let h = total_set xs i v w e in omega arith

    pub total_snoc : (l : List A) (a : A) → total f (l ++ a ∷ []) ≡ total f l + f a
    total_snoc [] a = omega arith
    total_snoc (x ∷ xs) a = let h = total_snoc xs a in omega arith

    part_of_total : (l : List A) (j : ℕ) (w : A) → get_elem? l j ≡ some w → f w ≤ total f l
    part_of_total [] j w e = absurd (some-ne-none w (sym e))
    part_of_total (x ∷ xs) zero w e = let h : f x ≡ f w = ap f (some-injective x w e) in omega arith
    part_of_total (x ∷ xs) (suc j) w e = let h = part_of_total xs j w e in omega arith

    -- where one weighs all, the others weigh nothing
    pub others_none : (l : List A) (i j : ℕ) (v w : A) → get_elem? l i ≡ some v → total f l ≡ f v → j ≢ i → get_elem? l j ≡ some w → f w ≡ 0
    others_none [] i j v w e t ne at = absurd (some-ne-none v (sym e))
    others_none (x ∷ xs) zero zero v w e t ne at = absurd (ne refl)
    others_none (x ∷ xs) zero (suc j) v w e t ne at = let h : f x ≡ f v = ap f (some-injective x v e) in let p = part_of_total xs j w at in omega arith
    others_none (x ∷ xs) (suc i) zero v w e t ne at = let h : f x ≡ f w = ap f (some-injective x w at) in let p = part_of_total xs i v e in omega arith
    others_none (x ∷ xs) (suc i) (suc j) v w e t ne at = let p = part_of_total xs i v e in others_none xs i j v w e (omega arith) (λ s. ne (ap suc s)) at

abbrev head_or : {A : Type 0} → A → List A → A
head_or d [] = d
head_or d (x ∷ xs) = x

module _ {E : Type 0} (owner : E → Option ℕ) where
  pub follows_self : (n : ℕ) (t : List E) → Follows owner n t t
  follows_self n t = ([], sym (append-nil t), tt)

  follows_more : (n : ℕ) (seen t more : List E) → Follows owner n seen t → Each (λ e. owner e ≢ Some n) more → Follows owner n seen (t ++ more)
  follows_more n seen t more f h = (f.0 ++ more, ap (λ (z : List E). z ++ more) f.1 ∙ append_assoc seen f.0 more, each_append (λ e. owner e ≢ Some n) f.0 more f.2 h)

  number_of : Option ℕ → ℕ
  number_of None = 0
  number_of (Some n) = n

  foreign : (n m : ℕ) (o : Option ℕ) → m ≢ n → (o ≡ Some n) ⊎ (o ≡ None) → o ≢ Some m
  foreign n m o ne h e = ⊎_elim (λ (i : o ≡ Some n). let s : Some m ≡ Some n = sym e ∙ i in let q : m ≡ n = cc in ne q) (λ (i : o ≡ None). let s : Some m ≡ None = sym e ∙ i in absurd (cc)) h

  -- another's visit goes on by no entry that bears the number
  pub follows_visit : (n m : ℕ) (seen before after : List E) → m ≢ n → Adds owner n before after → Follows owner m seen before → Follows owner m seen after
  follows_visit n m seen before after ne a f = ⊎_elim
      (λ (same : after ≡ before). subst (Follows owner m seen) (sym same) f)
      (λ (h : (e : E) × (after ≡ before ++ e ∷ []) × ((owner e ≡ Some n) ⊎ (owner e ≡ None))). subst (Follows owner m seen) (sym h.1) (follows_more m seen before (h.0 ∷ []) f (foreign n m (owner h.0) ne h.2, tt)))
      a

  -- a number that the visitor does not have is borne by no entry, as before
  pub fresh_visit : (n k : ℕ) (before after : List E) → k ≢ n → Adds owner n before after → Each (λ e. owner e ≢ Some k) before → Each (λ e. owner e ≢ Some k) after
  fresh_visit n k before after ne a f = ⊎_elim
      (λ (same : after ≡ before). subst (Each (λ e. owner e ≢ Some k)) (sym same) f)
      (λ (h : (e : E) × (after ≡ before ++ e ∷ []) × ((owner e ≡ Some n) ⊎ (owner e ≡ None))). subst (Each (λ e. owner e ≢ Some k)) (sym h.1) (each_append (λ e. owner e ≢ Some k) before (h.0 ∷ []) f (foreign n k (owner h.0) ne h.2, tt)))
      a

  longer_at : (n : ℕ) (xs ys t : List E) → Follows owner n xs t → ((r : List E) × (t ≡ ys ++ r)) → (b : Bool) → leb (length xs) (length ys) ≡ b → Follows owner n (cond b ys xs) t
  longer_at n xs ys t f g true e = (g.0, g.1, each_shorter (λ e. owner e ≢ Some n) xs ys f.0 g.0 (sym f.1 ∙ g.1) (leb-true (length xs) (length ys) e) f.2)
  longer_at n xs ys t f g false e = f

  -- of two beginnings of one trail, the longer
  pub follows_longer : (n m : ℕ) (xs ys t : List E) → Follows owner n xs t → Follows owner m ys t → Follows owner n (longer xs ys) t
  follows_longer n m xs ys t f g = longer_at n xs ys t f (g.0, g.1) (leb (length xs) (length ys)) refl

  -- a visit adds at most one
  pub adds_length : (n : ℕ) (before after : List E) → Adds owner n before after → (length before ≤ length after) × (length after ≤ length before + 1)
  adds_length n before after a = ⊎_elim
      (λ (same : after ≡ before). let is : length after ≡ length before = ap length same in (omega arith, omega arith))
      (λ (h : (e : E) × (after ≡ before ++ e ∷ []) × ((owner e ≡ Some n) ⊎ (owner e ≡ None))).
      let long = length-append before (h.0 ∷ []) in let is : length after ≡ length (before ++ h.0 ∷ []) = ap length h.1 in (omega arith, omega arith))
      a

  bears_not : (o : Option ℕ) (n : ℕ) → o ≢ Some n → bears o n ≡ false
  bears_not None n ne = refl
  bears_not (Some m) n ne = ne_eqb m n (λ e. ne (ap Some e))

  own_none : (n : ℕ) (t : List E) → Each (λ e. owner e ≢ Some n) t → own owner n t ≡ []
  own_none n [] h = refl
  own_none n (e ∷ es) h = ap (λ b. cond b (e ∷ own owner n es) (own owner n es)) (bears_not (owner e) n h.0) ∙ own_none n es h.1

  -- a trail that goes on by entries of others has the same entries of one's own
  pub own_follows : (n : ℕ) (seen t : List E) → Follows owner n seen t → own owner n t ≡ own owner n seen
  own_follows n seen t f = ap (own owner n) f.1 ∙ (filter-append (λ e. bears (owner e) n) seen f.0 ∙ (ap (λ z. own owner n seen ++ z) (own_none n f.0 f.2) ∙ append-nil (own owner n seen)))

  -- an entry of one's own comes last among one's own
  pub own_visit : (n : ℕ) (before after : List E) (e : E) → after ≡ before ++ e ∷ [] → owner e ≡ Some n → own owner n after ≡ own owner n before ++ e ∷ []
  own_visit n before after e is bear =
      ap (own owner n) is ∙ (filter-append (λ e. bears (owner e) n) before (e ∷ []) ∙ ap (λ b. own owner n before ++ cond b (e ∷ []) []) (ap (λ o. bears o n) bear ∙ eq-eqb n n refl))

  -- the last of two lists that are alike before it
  last_same : (before : List E) (e d : E) → before ++ e ∷ [] ≡ before ++ d ∷ [] → e ≡ d
  last_same [] e d h = ap (head_or e) h
  last_same (x ∷ xs) e d h = last_same xs e d (ap tail_of h)

  pub refuses_anew : (n : ℕ) (before after : List E) → ((more : List E) → after ≢ before ++ more) → ¬ Adds owner n before after
  refuses_anew n before after none a = ⊎_elim
      (λ (same : after ≡ before). none [] (same ∙ sym (append-nil before)))
      (λ (h : (e : E) × (after ≡ before ++ e ∷ []) × ((owner e ≡ Some n) ⊎ (owner e ≡ None))). none (h.0 ∷ []) h.1)
      a

  pub refuses_foreign : (n m : ℕ) (before : List E) (e : E) → owner e ≡ Some m → m ≢ n → ¬ Adds owner n before (before ++ e ∷ [])
  refuses_foreign n m before e bears_m ne a = ⊎_elim
      (λ (same : before ++ e ∷ [] ≡ before). let long = length-append before (e ∷ []) in let is : length (before ++ e ∷ []) ≡ length before = ap length same in absurd (omega arith))
      (λ (h : (d : E) × (before ++ e ∷ [] ≡ before ++ d ∷ []) × ((owner d ≡ Some n) ⊎ (owner d ≡ None))).
      let is : e ≡ h.0 = last_same before e h.0 h.1 in foreign n m (owner h.0) ne h.2 (ap owner (sym is) ∙ bears_m))
      a

  pub refuses_two : (n : ℕ) (before : List E) (e d : E) → ¬ Adds owner n before (before ++ e ∷ d ∷ [])
  refuses_two n before e d a = let more = adds_length n before (before ++ e ∷ d ∷ []) a in let long = length-append before (e ∷ d ∷ []) in absurd (omega arith)
