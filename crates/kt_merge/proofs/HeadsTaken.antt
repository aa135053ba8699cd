-- Heads in turn.
use Rattle.std.proofs.Common.{◌≡◌, ◌≤◌, ◌<◌, ◌+◌, ℕ, zero, suc, List, [], ◌∷◌, ◌++◌, map, length, get_or, set, take, drop, drop-cons, append_assoc, Option, Some, None, refl, sym, ap, ◌∙◌, subst, arith}
use Rattle.std.proofs.lemmas.List.{append-nil, map-append, take_all, drop_all}
use Rattle.kt_history.specs.Rows.{Row}
use Rattle.kt_history.specs.Stores.{Steps, row_of}
use Rattle.kt_histlaws.specs.Histories.{first_some, or_else}
use Rattle.kt_rowfiles.specs.Taking.{spanned}
use Rattle.kt_rowfiles.specs.declared.taking.Span.{Span}
use Rattle.kt_merge.specs.Heads.{lesser, least_in, keys_next, hist_next, row_next, steps_next, passed, Stands, AllStand}
use Rattle.kt_merge.specs.declared.heads.Head.{Head}
use Rattle.kt_merge.proofs.Copying.{take_more_of}

pub stands_at : (heads : List Head) (i : ℕ) (h : Head) → AllStand heads → i < length heads → h ≡ get_or heads i h → Stands h.source
stands_at [] i h all low is = absurd (omega arith)
stands_at (x ∷ heads) zero h all low is = subst (λ (y : Head). Stands y.source) (sym is) all.0
stands_at (x ∷ heads) (suc i) h all low is = stands_at heads i h all.1 (omega arith) is

or_more : {A : Type 0} (xs : List (Option A)) (o : Option A) → first_some (xs ++ o ∷ []) ≡ or_else (first_some xs) o
or_more [] o = nothing o
  where
    nothing : {B : Type 0} (p : Option B) → or_else p None ≡ p
    nothing None = refl
    nothing (Some x) = refl
or_more (x ∷ xs) o = ap (or_else x) (or_more xs o) ∙ sym (joined x (first_some xs) o)
  where
    joined : {B : Type 0} (a b c : Option B) → or_else (or_else a b) c ≡ or_else a (or_else b c)
    joined None b c = refl
    joined (Some y) b c = refl

module _ (span : Span) (q : List ℕ) where
  steps-more : (xs : List Head) (h : Head) → steps_next span q (xs ++ h ∷ []) ≡ steps_next span q xs ++ spanned span (hist_next q h).steps
  steps-more [] h = append-nil (spanned span (hist_next q h).steps)
  steps-more (x ∷ xs) h = ap (λ (l : Steps). spanned span (hist_next q x).steps ++ l) (steps-more xs h) ∙ sym (append_assoc (spanned span (hist_next q x).steps) (steps_next span q xs) (spanned span (hist_next q h).steps))

  pub row_more : (heads : List Head) (i : ℕ) (h : Head) (row row2 : Option Row) → i < length heads → h ≡ get_or heads i h → row ≡ row_next span q (take i heads) → row2 ≡ or_else row (row_of span.mark (hist_next q h)) → row2 ≡ row_next span q (take (i + 1) heads)
  row_more heads i h row row2 low is so e =
      e ∙ ap (λ (o : Option Row). or_else o (row_of span.mark (hist_next q h))) so
      ∙ sym (ap (row_next span q) (take_more_of heads i h low is) ∙ ap first_some (map-append (λ (x : Head). row_of span.mark (hist_next q x)) (take i heads) (h ∷ [])) ∙ or_more (map (λ (x : Head). row_of span.mark (hist_next q x)) (take i heads)) (row_of span.mark (hist_next q h)))

  pub steps_more : (heads : List Head) (i : ℕ) (h : Head) (first old new : Steps) → i < length heads → h ≡ get_or heads i h → old ≡ first ++ steps_next span q (take i heads) → new ≡ old ++ spanned span (hist_next q h).steps
      → new ≡ first ++ steps_next span q (take (i + 1) heads)
  steps_more heads i h first old new low is so e =
      e ∙ ap (λ (l : Steps). l ++ spanned span (hist_next q h).steps) so ∙ append_assoc first (steps_next span q (take i heads)) (spanned span (hist_next q h).steps)
      ∙ ap (λ (l : Steps). first ++ l) (sym (ap (steps_next span q) (take_more_of heads i h low is) ∙ steps-more (take i heads) h))

  pub row_over : (heads : List Head) (i : ℕ) (row : Option Row) → length heads ≤ i → row ≡ row_next span q (take i heads) → row ≡ row_next span q heads
  row_over heads i row past so = so ∙ ap (row_next span q) (take_all i heads past)

  pub steps_over : (heads : List Head) (i : ℕ) (first steps : Steps) → length heads ≤ i → steps ≡ first ++ steps_next span q (take i heads) → steps ≡ first ++ steps_next span q heads
  steps_over heads i first steps past so = so ∙ ap (λ (l : List Head). first ++ steps_next span q l) (take_all i heads past)

-- from the last head to the first
pub least_more : (heads : List Head) (i : ℕ) (h : Head) (key least new : Option (List ℕ)) → i < length heads → h ≡ get_or heads i h → key ≡ h.key → least ≡ least_in (keys_next (drop (i + 1) heads)) → new ≡ lesser key least → new ≡ least_in (keys_next (drop i heads))
least_more heads i h key least new low is same so e =
    e ∙ ap (λ (k : Option (List ℕ)). lesser k least) same ∙ ap (lesser h.key) so
    ∙ sym (ap (λ (l : List Head). least_in (keys_next l)) (drop-cons heads i h low ∙ ap (λ (y : Head). y ∷ drop (suc i) heads) (sym is) ∙ (let e : suc i ≡ i + 1 = omega arith in ap (λ (k : ℕ). h ∷ drop k heads) e)))

pub none_least : (heads : List Head) (i : ℕ) → length heads ≤ i → None ≡ least_in (keys_next (drop i heads))
none_least heads i past = sym (ap (λ (l : List Head). least_in (keys_next l)) (drop_all i heads past))

-- ---- heads that are passed in turn

-- the first ones are passed, and the others are as they were
abbrev pub mixed : List ℕ → ℕ → List Head → List Head
mixed q i heads = map (passed q) (take i heads) ++ drop i heads

pub mixed_stand : (q : List ℕ) (i : ℕ) (heads : List Head) → AllStand heads → AllStand (mixed q i heads)
mixed_stand q zero [] st = tt
mixed_stand q (suc i) [] st = tt
mixed_stand q zero (h ∷ heads) st = st
mixed_stand q (suc i) (h ∷ heads) st = (st.0, mixed_stand q i heads st.1)

pub mixed_length : (q : List ℕ) (i : ℕ) (heads : List Head) → length (mixed q i heads) ≡ length heads
mixed_length q zero [] = refl
mixed_length q (suc i) [] = refl
mixed_length q zero (h ∷ heads) = refl
mixed_length q (suc i) (h ∷ heads) = ap suc (mixed_length q i heads)

pub mixed_more : (q : List ℕ) (heads : List Head) (i : ℕ) (h : Head) → i < length heads → h ≡ get_or (mixed q i heads) i h → set (mixed q i heads) i (passed q h) ≡ mixed q (suc i) heads
mixed_more q [] i h low is = absurd (omega arith)
mixed_more q (x ∷ heads) zero h low is = ap (λ (y : Head). passed q y ∷ heads) is
mixed_more q (x ∷ heads) (suc i) h low is = ap (λ (l : List Head). passed q x ∷ l) (mixed_more q heads i h (omega arith) is)

pub mixed_all : (q : List ℕ) (i : ℕ) (heads : List Head) → length heads ≤ i → mixed q i heads ≡ map (passed q) heads
mixed_all q zero [] past = refl
mixed_all q (suc i) [] past = refl
mixed_all q zero (h ∷ heads) past = absurd (omega arith)
mixed_all q (suc i) (h ∷ heads) past = ap (λ (l : List Head). passed q h ∷ l) (mixed_all q i heads (omega arith))

-- the next one is passed
pub passed_next : (q : List ℕ) (heads : List Head) (i : ℕ) (x y : Head) (next : Option (List ℕ)) → i < length heads → x ≡ get_or (mixed q i heads) i x → y ≡ get_or (mixed q i heads) i y → next ≡ (passed q x).key
    → set (mixed q i heads) i (record { source = y.source; key = next }) ≡ mixed q (i + 1) heads
passed_next q heads i x y next low is at e =
    let long = mixed_length q i heads in
    let same : y ≡ x = at ∙ get_or_any (mixed q i heads) i y x (omega (arith, long, low)) ∙ sym is in
    ap (λ (k : Option (List ℕ)). set (mixed q i heads) i (record { source = y.source; key = k })) e
    ∙ ap (λ (h : Head). set (mixed q i heads) i (record { source = h.source; key = (passed q x).key })) same
    ∙ mixed_more q heads i x low is
    ∙ (let f : suc i ≡ i + 1 = omega arith in ap (λ (n : ℕ). mixed q n heads) f)
  where
    get_or_any : {X : Type 0} (xs : List X) (k : ℕ) (a b : X) → k < length xs → get_or xs k a ≡ get_or xs k b
    get_or_any [] k a b lt = absurd (omega arith)
    get_or_any (z ∷ xs) zero a b lt = refl
    get_or_any (z ∷ xs) (suc k) a b lt = get_or_any xs k a b (omega arith)
