-- The cells of a list, one after the other.
use Rattle.std.proofs.Common.{◌≡◌, ℕ, zero, suc, ◌+◌, ◌-◌, ◌%◌, ◌^◌, ◌<◌, ◌≤◌, true, false, cond, List, [], ◌∷◌, ◌++◌, length, get_or, take, drop, refl, sym, ap, ◌∙◌, arith, append_assoc}
use Rattle.std.specs.Prelude.{nat_eq}
use Rattle.std.specs.List.{sum_by, AllByRecursion}
use Rattle.std.proofs.lemmas.List.{append-nil, take_more, length-take-le, get_or-take, get_or_push, length_push}
use Rattle.std.proofs.lemmas.List.Sums.{get_or-le-sum_by}
use Rattle.kt_front.specs.Spelling.{base, cell, cells, spelling, shared, Fits}
use Rattle.kt_bytes.specs.Cuts.{last}
use Rattle.kt_front.proofs.Shared.{shared-le}

-- the item before what follows
unfoldable pub last_or : List ℕ → List (List ℕ) → List ℕ
last_or b [] = b
last_or b (x ∷ xs) = last_or x xs

last_or-is : (b : List ℕ) (x : List ℕ) (xs : List (List ℕ)) → last_or b (x ∷ xs) ≡ get_or (x ∷ xs) (length xs) []
unfolding last_or
last_or-is b x [] = refl
last_or-is b x (y ∷ xs) = last_or-is x y xs

pub last_or-nil : (xs : List (List ℕ)) → last_or [] xs ≡ last xs
unfolding last_or
last_or-nil [] = refl
last_or-nil (x ∷ xs) =
    let at : length (x ∷ xs) - 1 ≡ length xs = omega arith in
    rw at (last_or-is [] x xs)

pub last_push : (xs : List (List ℕ)) (x : List ℕ) → last (xs ++ x ∷ []) ≡ x
last_push xs x =
    let at : length xs ≡ length (xs ++ x ∷ []) - 1 = omega (arith, length_push xs x) in
    get_or_push xs x [] (length (xs ++ x ∷ []) - 1) at

-- one more cell
pub cells_push : (i : ℕ) (b : List ℕ) (xs : List (List ℕ)) (x : List ℕ) → cells i b (xs ++ x ∷ []) ≡ cells i b xs ++ cell (base (i + length xs) (last_or b xs)) x
unfolding last_or
cells_push i b [] x =
    let at : i + 0 ≡ i = omega arith in
    rw (at, append-nil (cell (base i b) x)) refl
cells_push i b (y ∷ xs) x =
    let at : i + suc (length xs) ≡ suc i + length xs = omega arith in
    rw (cells_push (suc i) y xs x, at) (sym (append_assoc (cell (base i b) y) (cells (suc i) y xs) (cell (base (suc i + length xs) (last_or y xs)) x)))

pub spelling_push : (xs : List (List ℕ)) (x : List ℕ) → spelling (xs ++ x ∷ []) ≡ spelling xs ++ cell (base (length xs) (last xs)) x
unfolding spelling
spelling_push xs x =
    let at : 0 + length xs ≡ length xs = omega arith in
    cells_push 0 [] xs x ∙ rw (at, last_or-nil xs) refl

-- at the start of a stretch nothing is shared, and so the item before the first does not matter
pub base_same : (i : ℕ) (b c : List ℕ) → (0 < i → b ≡ c) → base i b ≡ base i c
base_same zero b c same = refl
base_same (suc i) b c same = ap (base (suc i)) (same (omega arith))

-- one more cell of a longer list
pub spelling_more : (items : List (List ℕ)) (i : ℕ) (before : List ℕ) → i < length items → (0 < i → before ≡ get_or items (i - 1) []) → spelling (take (i + 1) items) ≡ spelling (take i items) ++ cell (base i before) (get_or items i [])
spelling_more items i before lt is =
    let n : length (take i items) ≡ i = length-take-le i items (omega arith) in
    let same : base i before ≡ base i (last (take i items)) = base_same i before (last (take i items)) (λ some. is some ∙ (sym (get_or-take i items (i - 1) [] (omega arith)) ∙ ap (λ k. get_or (take i items) (k - 1) []) (sym n))) in
    let at_base : base (length (take i items)) (last (take i items)) ≡ base i before = ap (λ k. base k (last (take i items))) n ∙ sym same in
    rw (take_more items i [] lt) (spelling_push (take i items) (get_or items i []) ∙ ap (λ b. spelling (take i items) ++ cell b (get_or items i [])) at_base)

-- ---- what fits

abbrev pub AllShort : ℕ → List (List ℕ) → Type 0
AllShort most items = AllByRecursion (λ x. length x ≤ most) items

-- both numbers of a cell have room in their fields
pub shared_small : (most : ℕ) (w x : List ℕ) → most < 2 ^ 32 → length x ≤ most → shared w x < 2 ^ 32
shared_small most w x room le = omega (arith, shared-le w x)

pub rest_small : (most : ℕ) (w x : List ℕ) → most < 2 ^ 32 → length x ≤ most → length x - shared w x < 2 ^ 32
rest_small most w x room le = omega arith

pub short_at : (most j : ℕ) (xs : List (List ℕ)) → AllShort most xs → j < length xs → length (get_or xs j []) ≤ most
short_at most j [] all lt = absurd (omega arith)
short_at most zero (x ∷ xs) all lt = all.0
short_at most (suc j) (x ∷ xs) all lt = short_at most j xs all.1 (omega arith)

pub short_front : (most j : ℕ) (xs : List (List ℕ)) → AllShort most xs → AllShort most (take j xs)
short_front most zero xs all = tt
short_front most (suc j) [] all = tt
short_front most (suc j) (x ∷ xs) all = (all.0, short_front most j xs all.1)

pub short_behind : (most j : ℕ) (xs : List (List ℕ)) → AllShort most xs → AllShort most (drop j xs)
short_behind most zero xs all = all
short_behind most (suc j) [] all = tt
short_behind most (suc j) (x ∷ xs) all = short_behind most j xs all.1

pub short_push : (most : ℕ) (xs : List (List ℕ)) (x : List ℕ) → AllShort most xs → length x ≤ most → AllShort most (xs ++ x ∷ [])
short_push most [] x all le = (le, tt)
short_push most (y ∷ xs) x all le = (all.0, short_push most xs x all.1 le)

-- what is within a limit is within a greater one
pub short_more : (most greater : ℕ) (xs : List (List ℕ)) → most ≤ greater → AllShort most xs → AllShort greater xs
short_more most greater [] le all = tt
short_more most greater (x ∷ xs) le all = (omega (arith, all.0), short_more most greater xs le all.1)

each_fits : (items : List (List ℕ)) → ((k : ℕ) → k < length items → length (get_or items k []) < 2 ^ 32) → AllShort 4294967295 items
each_fits [] each = tt
each_fits (x ∷ items) each = (let first : length x < 2 ^ 32 = each 0 (omega arith) in omega arith, each_fits items (λ k lt. each (suc k) (omega arith)))

-- what is short together has a spelling
pub fits_together : (items : List (List ℕ)) → sum_by length items < 2 ^ 32 → Fits items
fits_together items small = record { each = each_fits items (λ k lt. omega (arith, get_or-le-sum_by length items k [] lt)) }

pub spelling_nil : spelling [] ≡ []
unfolding spelling
spelling_nil = refl

-- what is shared with the base is shared with the item before
pub take-base : (n i : ℕ) (b : List ℕ) → n ≤ length (base i b) → take n (base i b) ≡ take n b
take-base n i b le =
    (elim (nat_eq (i % 16) 0) as (λ t. n ≤ length (cond t [] b) → take n (cond t [] b) ≡ take n b) [
      | true ↦ λ none. take_none n b (omega (arith, none))
      | false ↦ λ fits. refl
    ]) le
  where
    take_none : (n : ℕ) (b : List ℕ) → n ≤ 0 → take n [] ≡ take n b
    take_none zero b h = refl
    take_none (suc n) b h = absurd (omega arith)
