-- Bytes have one first fault.
use Rattle.std.proofs.Common.{◌≡◌, ℕ, List, [], ◌∷◌, ◌++◌, length, take, drop, refl, sym, ap, subst, ◌∙◌, append_assoc, arith, inl, inr}
use Rattle.std.specs.List.{concat}
use Rattle.std.proofs.lemmas.List.{append-nil, take_at, drop_at}
use Rattle.kt_bytes.specs.Places.{Begins, GoesOn, Stands, IsPlace, IsFault, Delimited}

-- what begins with these fields goes on with the next of them
pub goes_on : (S : List (List ℕ) → Type 0) (front : List (List ℕ)) (field : List ℕ) (more : List (List ℕ)) → Begins S (front ++ field ∷ more) → GoesOn S front field
goes_on S front field more b = (more ++ b.0, subst S (append_assoc front (field ∷ more) b.0 ∙ sym (append_assoc front (field ∷ []) (more ++ b.0))) b.1)

-- two fronts of the same bytes, with none of whose rests a spelling goes on
pub record Meet (S : List (List ℕ) → Type 0) (front f g : List (List ℕ)) (r s : List ℕ) : Type 0 where
  pub begins_f : Begins S (front ++ f)
  pub begins_g : Begins S (front ++ g)
  pub ends_f : (field : List ℕ) → GoesOn S (front ++ f) field → ¬ Stands field r
  pub ends_g : (field : List ℕ) → GoesOn S (front ++ g) field → ¬ Stands field s
  pub same : concat f ++ r ≡ concat g ++ s

next : {A : Type 0} (front : List A) (a : A) (f : List A) → front ++ a ∷ f ≡ (front ++ a ∷ []) ++ f
next front a f = sym (append_assoc front (a ∷ []) f)

pub one_front : (S : List (List ℕ) → Type 0) (front f g : List (List ℕ)) (r s : List ℕ) → Delimited S → Meet S front f g r s → (f ≡ g) × (r ≡ s)
one_front S front [] [] r s d m = (refl, m.same)
one_front S front [] (b ∷ g) r s d m =
    absurd (m.ends_f b (rw append-nil (goes_on S front b g m.begins_g)) (concat g ++ s, m.same ∙ append_assoc b (concat g) s))
one_front S front (a ∷ f) [] r s d m =
    absurd (m.ends_g a (rw append-nil (goes_on S front a f m.begins_f)) (concat f ++ r, sym m.same ∙ append_assoc a (concat f) r))
one_front S front (a ∷ f) (b ∷ g) r s d m =
    let len : length a ≡ length b = d front a b (goes_on S front a f m.begins_f) (goes_on S front b g m.begins_g) in
    let whole : a ++ (concat f ++ r) ≡ b ++ (concat g ++ s) = sym (append_assoc a (concat f) r) ∙ m.same ∙ append_assoc b (concat g) s in
    let one : a ≡ b = sym (take_at a (concat f ++ r) (length b) len) ∙ ap (take (length b)) whole ∙ take_at b (concat g ++ s) (length b) refl in
    let rest : concat f ++ r ≡ concat g ++ s = sym (drop_at a (concat f ++ r) (length b) len) ∙ ap (drop (length b)) whole ∙ drop_at b (concat g ++ s) (length b) refl in
    let left : front ++ a ∷ f ≡ (front ++ a ∷ []) ++ f = next front a f in
    let right : front ++ b ∷ g ≡ (front ++ a ∷ []) ++ g = ap (λ (x : List ℕ). front ++ x ∷ g) (sym one) ∙ next front a g in
    let more : (f ≡ g) × (r ≡ s) = one_front S (front ++ a ∷ []) f g r s d (record {
      begins_f = subst (Begins S) left m.begins_f;
      begins_g = subst (Begins S) right m.begins_g;
      ends_f = λ field on. m.ends_f field (subst (λ (l : List (List ℕ)). GoesOn S l field) (sym left) on);
      ends_g = λ field on. m.ends_g field (subst (λ (l : List (List ℕ)). GoesOn S l field) (sym right) on);
      same = rest;
    }) in
    (ap (λ (x : List ℕ). x ∷ f) one ∙ ap (λ (l : List (List ℕ)). b ∷ l) more.0, more.1)

place_is : (S : List (List ℕ) → Type 0) (front : List (List ℕ)) (rest : List ℕ) (m n : ℕ) → IsPlace S front rest m → IsPlace S front rest n → m ≡ n
place_is S front rest m n (inl p) (inl q) = p.3 ∙ sym q.3
place_is S front rest m n (inl p) (inr q) = absurd (omega (arith, p.2, q.0 p.0 p.1))
place_is S front rest m n (inr p) (inl q) = absurd (omega (arith, q.2, p.0 q.0 q.1))
place_is S front rest m n (inr p) (inr q) = p.1 ∙ sym q.1

pub one_place : (S : List (List ℕ) → Type 0) (bytes : List ℕ) (m n : ℕ) → Delimited S → IsFault S bytes m → IsFault S bytes n → m ≡ n
one_place S bytes m n d p q =
    let same = one_front S [] p.front q.front p.rest q.rest d (record { begins_f = p.begins; begins_g = q.begins; ends_f = p.ends; ends_g = q.ends; same = sym p.parts ∙ q.parts }) in
    place_is S q.front q.rest m n (subst (λ (l : List (List ℕ)). IsPlace S l q.rest m) same.0 (subst (λ (l : List ℕ). IsPlace S p.front l m) same.1 p.at)) q.at
