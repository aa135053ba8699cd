-- How many bytes the items of a held list have, and the bytes of items that are written one behind the other.
use Rattle.std.proofs.Common.{◌≡◌, ℕ, zero, suc, ◌+◌, ◌^◌, ◌<◌, List, [], ◌∷◌, ◌++◌, length, get_or, take, sym, ap, ◌∙◌, arith}
use Rattle.std.specs.List.{AllByRecursion, sum_by, flat_map}
use Rattle.std.proofs.lemmas.List.{take_more, map_push, flat_map_more}
use Rattle.std.proofs.lemmas.List.Sums.{sum_by_push}
use Rattle.kt_dict.specs.Items.{items_of}

pub sum_more : (entries : List (List ℕ)) (codes : List ℕ) (i : ℕ) → i < length codes → sum_by length (items_of entries (take (i + 1) codes)) ≡ sum_by length (items_of entries (take i codes)) + length (get_or entries (get_or codes i 0) [])
sum_more entries codes i lt = ap (λ (cs : List ℕ). sum_by length (items_of entries cs)) (take_more codes i 0 lt) ∙ (ap (sum_by length) (map_push (λ c. get_or entries c []) (take i codes) (get_or codes i 0)) ∙ sum_by_push length (items_of entries (take i codes)) (get_or entries (get_or codes i 0) []))

pub entry_short : (entries : List (List ℕ)) (c : ℕ) → AllByRecursion (λ x. length x < 2 ^ 32) entries → c < length entries → length (get_or entries c []) < 2 ^ 32
entry_short [] c all lt = absurd (omega arith)
entry_short (x ∷ entries) zero all lt = all.0
entry_short (x ∷ entries) (suc c) all lt = entry_short entries c all.1 (omega arith)

-- the bytes of one more item
pub written_more : {A : Type 0} (f : A → List ℕ) (front more : List A) (x : A) (start out new : List ℕ) → more ≡ front ++ x ∷ [] → out ≡ start ++ flat_map f front → new ≡ out ++ f x → new ≡ start ++ flat_map f more
written_more f front more x start out new one so_far is = is ∙ (ap (λ (t : List ℕ). t ++ f x) so_far ∙ (flat_map_more f start front x ∙ ap (λ xs. start ++ flat_map f xs) (sym one)))
