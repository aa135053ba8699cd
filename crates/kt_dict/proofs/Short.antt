-- The entries of a list are items of it, so that none is longer than all together.
use Rattle.std.proofs.Common.{◌≡◌, ℕ, zero, suc, ◌+◌, ◌*◌, ◌^◌, ◌<◌, ◌≤◌, true, false, cond, List, [], ◌∷◌, ◌++◌, length, get_or, take, drop, drop-cons, All, refl, sym, ap, subst, ◌∙◌, arith}
use Rattle.std.specs.List.{AllByRecursion, concat, sum_by, flat_map}
use Rattle.std.specs.Borrow.{Bor}
use Rattle.std.proofs.lemmas.List.{length-map, length-append}
use Rattle.std.proofs.lemmas.List.Elements.{All-from_recursion}
use Rattle.std.proofs.lemmas.List.Sums.{get_or-le-sum_by}
use Rattle.kt_dict.specs.Spelling.{has, with_entry, entries_after, dictionary, place, short, code, block, spelling}
use Rattle.kt_dict.specs.Writing.{text}
use Rattle.kt_dict.proofs.Words.{nows, after_grows}
use Rattle.kt_dict.proofs.Fields.{length-short, length-text, spelling_is}

abbrev IsShort : List ℕ → Type 0
IsShort x = length x < 2 ^ 32

short_push : (ds : List (List ℕ)) (x : List ℕ) → AllByRecursion IsShort ds → IsShort x → AllByRecursion IsShort (ds ++ x ∷ [])
short_push [] x all lt = (lt, tt)
short_push (d ∷ ds) x all lt = (all.0, short_push ds x all.1 lt)

short_with : (ds : List (List ℕ)) (x : List ℕ) → AllByRecursion IsShort ds → IsShort x → AllByRecursion IsShort (with_entry ds x)
short_with ds x all lt = elim (has ds x) as (λ b. AllByRecursion IsShort (cond b ds (ds ++ x ∷ []))) [ true ↦ all | false ↦ short_push ds x all lt ]

short_after : (ds xs : List (List ℕ)) → AllByRecursion IsShort ds → ((k : ℕ) → k < length xs → length (get_or xs k []) < 2 ^ 32) → AllByRecursion IsShort (entries_after ds xs)
short_after ds [] all each = all
short_after ds (x ∷ xs) all each = short_after (with_entry ds x) xs (short_with ds x all (each 0 (omega arith))) (λ k lt. each (suc k) (omega arith))

-- a length that has room is no more than the longest
pub no_longer : (ds : List (List ℕ)) → AllByRecursion IsShort ds → AllByRecursion (λ x. length x ≤ 4294967295) ds
no_longer [] all = tt
no_longer (d ∷ ds) all = (omega (arith, all.0), no_longer ds all.1)

pub short_entries : (items : List (List ℕ)) → sum_by length items < 2 ^ 32 → AllByRecursion IsShort (dictionary items)
short_entries items small = short_after [] items tt (λ k lt. omega (arith, get_or-le-sum_by length items k [] lt))

keys_recursion : (ks : List (Bor (List ℕ))) → AllByRecursion IsShort (nows ks) → AllByRecursion (λ (k : Bor (List ℕ)). length k.now < 2 ^ 32) ks
keys_recursion [] all = tt
keys_recursion (k ∷ ks) all = (all.0, keys_recursion ks all.1)

pub short_keys : (items : List (List ℕ)) (ks : List (Bor (List ℕ))) → nows ks ≡ dictionary items → sum_by length items < 2 ^ 32 → All (λ (k : Bor (List ℕ)). length k.now < 2 ^ 32) ks
short_keys items ks is small = All-from_recursion (λ (k : Bor (List ℕ)). length k.now < 2 ^ 32) ks (keys_recursion ks (subst (AllByRecursion IsShort) (sym is) (short_entries items small)))

pub keys_count : (items : List (List ℕ)) (ks : List (Bor (List ℕ))) → nows ks ≡ dictionary items → (length ks ≡ length (dictionary items)) × (length ks ≤ length items)
keys_count items ks is =
    let n : length ks ≡ length (dictionary items) = sym (length-map ks (λ (k : Bor (List ℕ)). k.now)) ∙ ap length is in
    let g = after_grows [] items in
    (n, omega (arith, ap length g.1, g.2))

-- the block that was written is the spelling
pub spelled_by : (items known : List (List ℕ)) → known ≡ dictionary items → concat (block known items) ≡ spelling items
unfolding spelling
spelled_by items known is = ap (λ (ds : List (List ℕ)). concat (block ds items)) is

-- ---- how long a spelling is

length-codes : (known items : List (List ℕ)) → length (flat_map (code known) items) ≡ 2 * length items
length-codes known [] = refl
length-codes known (x ∷ items) = omega (arith, length-append (code known x) (flat_map (code known) items), length-short (place known x), length-codes known items)

pub length-spelling : (items known : List (List ℕ)) → known ≡ dictionary items → length (spelling items) ≡ 2 + length (flat_map text known) + 2 * length items
length-spelling items known is =
    let ds : List (List ℕ) = dictionary items in
    let front = length-append (short (length ds)) (flat_map text ds) in
    let whole = length-append (short (length ds) ++ flat_map text ds) (flat_map (code ds) items) in
    let same : length (flat_map text known) ≡ length (flat_map text ds) = ap (λ es. length (flat_map text es)) is in
    omega (arith, ap length (spelling_is items), front, whole, same, length-short (length ds), length-codes ds items)

-- one entry more
pub entries_more : (ks : List (Bor (List ℕ))) (i : ℕ) (d : Bor (List ℕ)) → i < length ks → length (flat_map text (nows (take (i + 1) ks))) ≡ length (flat_map text (nows (take i ks))) + (4 + length (get_or ks i d).now)
entries_more [] i d lt = absurd (omega arith)
entries_more (x ∷ ks) zero d lt = omega (arith, length-append (text x.now) [], length-text x.now)
entries_more (x ∷ ks) (suc i) d lt =
    let n : suc i + 1 ≡ suc (i + 1) = omega arith in
    rw n (omega (arith, entries_more ks i d (omega arith), length-append (text x.now) (flat_map text (nows (take (i + 1) ks))), length-append (text x.now) (flat_map text (nows (take i ks)))))

-- ---- one more item, and too many as soon as there are

pub one_more : (items ds more total : List (List ℕ)) (i : ℕ) → i < length items → entries_after ds (drop i items) ≡ total → more ≡ with_entry ds (get_or items i []) → entries_after more (drop (i + 1) items) ≡ total
one_more items ds more total i lt so_far is =
    let at : i + 1 ≡ suc i = omega arith in
    let rest : List (List ℕ) = drop (suc i) items in
    ap (λ (k : ℕ). entries_after more (drop k items)) at ∙ (ap (λ es. entries_after es rest) is ∙ (sym (ap (entries_after ds) (drop-cons items i [] lt)) ∙ so_far))

pub too_many : (items ds more total : List (List ℕ)) (i : ℕ) → i < length items → entries_after ds (drop i items) ≡ total → more ≡ with_entry ds (get_or items i []) → 4096 < length more → 4096 < length total
too_many items ds more total i lt so_far is many =
    let g = after_grows more (drop (i + 1) items) in
    omega (arith, ap length (one_more items ds more total i lt so_far is), ap length g.1, length-append more g.0)

-- the table that is made of nothing
pub whole_table : (items : List (List ℕ)) (start keys : List (Bor (List ℕ))) → start ≡ [] → nows keys ≡ entries_after (nows start) items → nows keys ≡ dictionary items
whole_table items start keys none is = is ∙ ap (λ ks. entries_after (nows ks) items) none
