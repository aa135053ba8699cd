-- Words by their names, in any order.
use Rattle.std.proofs.Common.{◌≡◌, ℕ, suc, ◌+◌, Bool, true, false, not, cond, ◌||◌, List, [], ◌∷◌, ◌++◌, length, map, Option, Some, None, refl, sym, ap, subst, ◌∙◌}
use mathlib.Core.List.{append-nil}
use Rattle.std.specs.Prelude.{if◌then◌else◌}
use Rattle.std.specs.List.{list_any, flat_map, sum_by, AllByRecursion}
use Rattle.std.specs.List.Sorted.{IsPermutation}
use Rattle.std.proofs.lemmas.List.Elements.{filter-append, All-from_recursion, recursion_from_All}
use Rattle.std.proofs.lemmas.List.Sorted.{IsPermutation-refl, IsPermutation-sym, IsPermutation-trans, IsPermutation-cons, IsPermutation-middle, All-permutation, sum_by-IsPermutation}
use Rattle.std.proofs.lemmas.List.Sums.{sum_by-cons}
use Rattle.kt_base.specs.Literals.{same}
use Rattle.kt_base.proofs.Decimals.{same_text}
use Rattle.kt_schema.specs.declared.column.Column.{Column}
use Rattle.kt_script.specs.Writes.{name_in, column_named, is_empty}
use Rattle.kt_script.specs.Alike.{of_name, renamed}
use Rattle.kt_script.proofs.PrintedTables.{same_self, names_differ, turned, Apart}

abbrev pub has : List ℕ → List ℕ → Bool
has name w = same name (name_in w)

-- ---- the words of a name

-- what holds of words holds of those of a name, and they have it
pub in_name : (P : List ℕ → Type 0) (n : List ℕ) (ws : List (List ℕ)) → AllByRecursion P ws → AllByRecursion (λ w. P w × (has n w ≡ true)) (of_name n ws)
in_name P n [] p = tt
in_name P n (w ∷ ws) p = by (has n w) refl (in_name P n ws p.1)
  where
    by : (t : Bool) → has n w ≡ t → AllByRecursion (λ v. P v × (has n v ≡ true)) (of_name n ws) → AllByRecursion (λ v. P v × (has n v ≡ true)) (cond t (w ∷ of_name n ws) (of_name n ws))
    by true e more = ((p.0, e), more)
    by false e more = more

pub of_first : (w : List ℕ) (ws : List (List ℕ)) → of_name (name_in w) (w ∷ ws) ≡ w ∷ of_name (name_in w) ws
of_first w ws = ap (λ t. cond t (w ∷ of_name (name_in w) ws) (of_name (name_in w) ws)) (same_self (name_in w))

pub none_left : (vs : List (List ℕ)) → renamed [] vs → vs ≡ []
none_left [] e = refl
none_left (v ∷ vs) e = let some : [] ≡ v ∷ of_name (name_in v) vs = e (name_in v) ∙ of_first v vs in absurd cc

-- whether a name stands among words
pub named_there : (n : List ℕ) (ws : List (List ℕ)) → list_any (λ m. same m n) (map name_in ws) ≡ not (is_empty (of_name n ws))
named_there n [] = refl
named_there n (w ∷ ws) = by (same (name_in w) n) (same n (name_in w)) refl refl (named_there n ws)
  where
    by : (a b : Bool) → same (name_in w) n ≡ a → same n (name_in w) ≡ b → list_any (λ m. same m n) (map name_in ws) ≡ not (is_empty (of_name n ws))
        → (a || list_any (λ m. same m n) (map name_in ws)) ≡ not (is_empty (cond b (w ∷ of_name n ws) (of_name n ws)))
    by true true p q more = refl
    by true false p q more = absurd (names_differ n (name_in w) q (sym (same_text (name_in w) n p)))
    by false true p q more = absurd (names_differ (name_in w) n p (sym (same_text n (name_in w) q)))
    by false false p q more = more

-- ---- the words of each column

-- words that are all of the column's name
abbrev pub Owned : (Column → List (List ℕ)) → Column → Type 0
Owned f c = (n : List ℕ) → of_name n (f c) ≡ (if same c.name n then f c else [])

abbrev pub of_column : (Column → List (List ℕ)) → Option Column → List (List ℕ)
of_column f None = []
of_column f (Some c) = f c

none_named : (n : List ℕ) (cs : List Column) → AllByRecursion (λ (c : Column). same n c.name ≡ false) cs → column_named cs n ≡ None
none_named n [] h = refl
none_named n (c ∷ cs) h = ap (λ t. if t then Some c else column_named cs n) (turned n c.name h.0) ∙ none_named n cs h.1

-- the words of a name are those of its column
pub owned_words : (f : Column → List (List ℕ)) (n : List ℕ) (cs : List Column) → Apart cs → AllByRecursion (Owned f) cs → of_name n (flat_map f cs) ≡ of_column f (column_named cs n)
owned_words f n [] apart own = refl
owned_words f n (c ∷ cs) apart own = filter-append (has n) (f c) (flat_map f cs) ∙ (ap (λ x. x ++ of_name n (flat_map f cs)) (own.0 n) ∙ by (same c.name n) refl (owned_words f n cs apart.1 own.1))
  where
    by : (t : Bool) → same c.name n ≡ t → of_name n (flat_map f cs) ≡ of_column f (column_named cs n) → (if t then f c else []) ++ of_name n (flat_map f cs) ≡ of_column f (if t then Some c else column_named cs n)
    by false e more = more
    by true e more = ap (λ x. f c ++ x) (more ∙ ap (of_column f) (ap (column_named cs) (sym (same_text c.name n e)) ∙ none_named c.name cs apart.0)) ∙ append-nil (f c)

no_words : (t : Bool) → ◌≡◌ {A = List (List ℕ)} (if t then [] else []) []
no_words true = refl
no_words false = refl

-- words of a name are of no other
pub of_both : (n m : List ℕ) (ws : List (List ℕ)) → of_name n (of_name m ws) ≡ (if same m n then of_name m ws else [])
of_both n m [] = sym (no_words (same m n))
of_both n m (w ∷ ws) = by (has m w) (has n w) (same m n) refl refl refl (of_both n m ws)
  where
    by : (a b t : Bool) → has m w ≡ a → has n w ≡ b → same m n ≡ t → of_name n (of_name m ws) ≡ (if t then of_name m ws else []) → of_name n (cond a (w ∷ of_name m ws) (of_name m ws)) ≡ (if t then cond a (w ∷ of_name m ws) (of_name m ws) else [])
    by false b t p q e more = more
    by true true true p q e more = ap (λ x. cond x (w ∷ of_name n (of_name m ws)) (of_name n (of_name m ws))) q ∙ ap (λ x. w ∷ x) more
    by true false false p q e more = ap (λ x. cond x (w ∷ of_name n (of_name m ws)) (of_name n (of_name m ws))) q ∙ more
    by true true false p q e more = absurd (names_differ m n e (same_text m (name_in w) p ∙ sym (same_text n (name_in w) q)))
    by true false true p q e more = absurd (names_differ n (name_in w) q (sym (same_text m n e) ∙ same_text m (name_in w) p))

-- ---- the same words of each name are the same words

record Cut (n w : List ℕ) (vs : List (List ℕ)) : Type 0 where
  front : List (List ℕ)
  behind : List (List ℕ)
  is : vs ≡ front ++ w ∷ behind
  none : of_name n front ≡ []

cut_out : (n w : List ℕ) (rest vs : List (List ℕ)) → of_name n vs ≡ w ∷ rest → Cut n w vs
cut_out n w rest [] e = absurd cc
cut_out n w rest (v ∷ vs) e = by (has n v) refl e (cut_out n w rest vs)
  where
    by : (t : Bool) → has n v ≡ t → cond t (v ∷ of_name n vs) (of_name n vs) ≡ w ∷ rest → (of_name n vs ≡ w ∷ rest → Cut n w vs) → Cut n w (v ∷ vs)
    by true s g later = let one : v ≡ w = cc in record { front = []; behind = vs; is = ap (λ x. x ∷ vs) one; none = refl }
    by false s g later =
        let c = later g in
        record { front = v ∷ c.front; behind = c.behind; is = ap (λ xs. v ∷ xs) c.is; none = ap (λ t. cond t (v ∷ of_name n c.front) (of_name n c.front)) s ∙ c.none }

behind_cut : (w : List ℕ) (ws a b : List (List ℕ)) → renamed (w ∷ ws) (a ++ w ∷ b) → of_name (name_in w) a ≡ [] → renamed ws (a ++ b)
behind_cut w ws a b e none m = by (has m w) refl (e m ∙ filter-append (has m) a (w ∷ b))
  where
    by : (t : Bool) → has m w ≡ t → cond t (w ∷ of_name m ws) (of_name m ws) ≡ of_name m a ++ cond t (w ∷ of_name m b) (of_name m b) → of_name m ws ≡ of_name m (a ++ b)
    by true s g =
        let empty : of_name m a ≡ [] = ap (λ n. of_name n a) (same_text m (name_in w) s) ∙ none in
        let tails : w ∷ of_name m ws ≡ w ∷ of_name m b = g ∙ ap (λ xs. xs ++ w ∷ of_name m b) empty in
        let rest : of_name m ws ≡ of_name m b = cc in
        rest ∙ (ap (λ xs. xs ++ of_name m b) (sym empty) ∙ sym (filter-append (has m) a b))
    by false s g = g ∙ sym (filter-append (has m) a b)

pub renamed_permutes : (ws vs : List (List ℕ)) → renamed ws vs → IsPermutation ws vs
renamed_permutes [] vs e = subst (IsPermutation []) (sym (none_left vs e)) (IsPermutation-refl [])
renamed_permutes (w ∷ ws) vs e =
    let c = cut_out (name_in w) w (of_name (name_in w) ws) vs (sym (e (name_in w)) ∙ of_first w ws) in
    let rest : List (List ℕ) = c.front ++ c.behind in
    let more = renamed_permutes ws rest (behind_cut w ws c.front c.behind (λ n. e n ∙ ap (of_name n) c.is) c.none) in
    let there = IsPermutation-sym (c.front ++ w ∷ c.behind) (w ∷ rest) (IsPermutation-middle c.front w c.behind) in
    subst (IsPermutation (w ∷ ws)) (sym c.is) (IsPermutation-trans (w ∷ ws) (w ∷ rest) (c.front ++ w ∷ c.behind) (IsPermutation-cons w ws rest more) there)

pub permuted_each : (P : List ℕ → Type 0) (ws vs : List (List ℕ)) → IsPermutation ws vs → AllByRecursion P ws → AllByRecursion P vs
permuted_each P ws vs p all = recursion_from_All P vs (All-permutation P ws vs p (All-from_recursion P ws all))

-- how long words are, each with a byte behind it
abbrev pub size : List (List ℕ) → ℕ
size [] = 0
size (w ∷ ws) = suc (length w) + size ws

pub permuted_size : (ws vs : List (List ℕ)) → IsPermutation ws vs → size ws ≡ size vs
permuted_size ws vs p = summed ws ∙ (sym (sum_by-IsPermutation (λ (w : List ℕ). suc (length w)) ws vs p) ∙ sym (summed vs))
  where
    summed : (us : List (List ℕ)) → size us ≡ sum_by (λ (w : List ℕ). suc (length w)) us
    summed [] = refl
    summed (u ∷ us) = ap (λ n. suc (length u) + n) (summed us) ∙ sym (sum_by-cons (λ (w : List ℕ). suc (length w)) u us)
