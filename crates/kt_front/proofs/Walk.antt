-- Walking over the cells of a block.
use Rattle.std.proofs.Common.{◌≡◌, ℕ, zero, suc, ◌+◌, ◌-◌, ◌*◌, ◌/◌, ◌%◌, ◌<◌, ◌≤◌, true, false, cond, ltb, List, [], ◌∷◌, ◌++◌, length, get_or, take, drop, Ok, Err, refl, sym, ap, subst, ◌∙◌, append_assoc, arith, inl, inr, lit≤}
use Rattle.std.specs.Prelude.{nat_eq}
use Rattle.std.specs.declared.cmp.Ordering.{Ordering}
use Rattle.std.specs.declared.cmp.Ordering.TheVariants.{Less, Equal, Greater}
use Rattle.std.specs.Ordering.{nat_cmp, ordering_then}
use Rattle.std.specs.Cmp.Lexicographic.{slice_cmp}
use Rattle.std.proofs.lemmas.Bool.{eqb-true, le-ltb, cases_lt}
use Rattle.std.proofs.lemmas.Bool.Decides.{nat_tests}
use Rattle.std.proofs.lemmas.List.{length-drop, length-append, take_at, drop_at, take-append-drop, take-take, length-take, take_rest, get_or-drop, drop-drop}
use Rattle.kt_front.specs.Spelling.{base, number, cell, cells, spelling, Fits, shared}
use Rattle.kt_front.specs.Walking.{order, Fields, fields_at, behind, before_at, IsBlock, Meets, AreStarts}
use Rattle.kt_front.proofs.Shared.{shared-le, shared_front}
use Rattle.kt_bytes.proofs.Numbers.{ok_is}
use Rattle.kt_front.proofs.Fields.{number_again}
use Rattle.kt_front.proofs.Cells.{take-base, shared_small, rest_small, short_at, short_behind}

pub fields_again : (with item rest : List ℕ) → length item ≤ 4294967295 → fields_at (cell with item ++ rest) ≡ Ok (record { shared = shared with item; rest = drop (shared with item) item; after = rest })
unfolding fields_at cell
fields_again with item rest le =
    let n : ℕ = shared with item in
    let m : ℕ = length item - n in
    let tail : List ℕ = drop n item in
    let split : (number n ++ number m ++ tail) ++ rest ≡ number n ++ (number m ++ (tail ++ rest)) = append_assoc (number n ++ number m) tail rest ∙ append_assoc (number n) (number m) (tail ++ rest) in
    let len : length tail ≡ m = length-drop n item in
    let long : ltb (length (tail ++ rest)) m ≡ false = le-ltb _ _ (omega (arith, length-append tail rest)) in
    ap fields_at split ∙ rw (number_again n (number m ++ (tail ++ rest)) (shared_small 4294967295 with item (lit≤ tt) le), number_again m (tail ++ rest) (rest_small 4294967295 with item (lit≤ tt) le), long, take_at tail rest m len, drop_at tail rest m len) refl

before_more : (j : ℕ) (x : List ℕ) (xs : List (List ℕ)) → before_at j x xs ≡ get_or (x ∷ xs) j []
before_more zero x xs = refl
before_more (suc j) x xs = refl

pub behind_step : (j i : ℕ) (b : List ℕ) (xs : List (List ℕ)) → j < length xs → behind j i b xs ≡ cell (base (i + j) (before_at j b xs)) (get_or xs j []) ++ behind (suc j) i b xs
behind_step j i b [] lt = absurd (omega arith)
behind_step zero i b (x ∷ xs) lt =
    let at : i ≡ i + 0 = omega arith in
    ap (λ k. cell (base k b) x ++ cells (suc i) x xs) at
behind_step (suc j) i b (x ∷ xs) lt =
    let at : suc i + j ≡ i + suc j = omega arith in
    behind_step j (suc i) x xs (omega arith) ∙ (ap (λ k. cell (base k (before_at j x xs)) (get_or xs j []) ++ behind (suc j) (suc i) x xs) at ∙ ap (λ w. cell (base (i + suc j) w) (get_or xs j []) ++ behind (suc j) (suc i) x xs) (before_more j x xs))

-- what the cell at place j tells
pub block_step : (items : List (List ℕ)) (j : ℕ) (bytes : List ℕ) → Fits items → j < length items → bytes ≡ behind j 0 [] items
    → fields_at bytes ≡ Ok (record { shared = shared (base j (before_at j [] items)) (get_or items j []); rest = drop (shared (base j (before_at j [] items)) (get_or items j [])) (get_or items j []); after = behind (j + 1) 0 [] items })
block_step items j bytes fits lt is =
    let at : 0 + j ≡ j = omega arith in
    let one : suc j ≡ j + 1 = omega arith in
    let w : List ℕ = base j (before_at j [] items) in
    let item : List ℕ = get_or items j [] in
    let fit : length item ≤ 4294967295 = short_at 4294967295 j items fits.each lt in
    let parts : bytes ≡ cell w item ++ behind (suc j) 0 [] items = is ∙ (behind_step j 0 [] items lt ∙ ap (λ k. cell (base k (before_at j [] items)) item ++ behind (suc j) 0 [] items) at) in
    ap fields_at parts ∙ (fields_again w item (behind (suc j) 0 [] items) fit ∙ ap (λ k. Ok (record { shared = shared w item; rest = drop (shared w item) item; after = behind k 0 [] items })) one)

-- ---- how an item meets the key

-- behind a front that both have
pub order-front : (p a b : List ℕ) → order (p ++ a) (p ++ b) ≡ order a b
order-front [] a b = refl
order-front (x ∷ p) a b =
    let same : nat_cmp x x ≡ Equal = grind (arith, nat_tests) in
    rw same (order-front p a b)

pub shared-front : (p a b : List ℕ) → shared (p ++ a) (p ++ b) ≡ length p + shared a b
shared-front [] a b = omega arith
shared-front (x ∷ p) a b =
    let same : nat_eq x x ≡ true = grind (arith, nat_tests) in
    rw same (omega (arith, shared-front p a b))

-- the order is decided where they go apart
pub order-drop : (xs ys : List ℕ) → order (drop (shared xs ys) xs) (drop (shared xs ys) ys) ≡ order xs ys
order-drop xs ys =
    let n : ℕ = shared xs ys in
    let p : List ℕ = take n ys in
    let left : xs ≡ p ++ drop n xs = sym (take-append-drop n xs) ∙ ap (λ (t : List ℕ). t ++ drop n xs) (shared_front xs ys) in
    let right : ys ≡ p ++ drop n ys = sym (take-append-drop n ys) in
    sym (order-front p (drop n xs) (drop n ys)) ∙ (ap (λ (t : List ℕ). order t (p ++ drop n ys)) (sym left) ∙ ap (λ (t : List ℕ). order xs t) (sym right))

-- two bytes that differ decide
decided : (x z : ℕ) (a b : Ordering) → nat_eq x z ≡ false → ordering_then (nat_cmp x z) a ≡ ordering_then (nat_cmp x z) b
decided x z a b e = rw e (elim (ltb x z) as (λ t. ordering_then (cond t Less Greater) a ≡ ordering_then (cond t Less Greater) b) [ true ↦ refl | false ↦ refl ])

past_head : (x : ℕ) (xs ys key : List ℕ) → shared (x ∷ xs) key < 1 + shared xs ys
    → ((k : List ℕ) → shared xs k < shared xs ys → (shared ys k ≡ shared xs k) × (order ys k ≡ order xs k))
    → (shared (x ∷ ys) key ≡ shared (x ∷ xs) key) × (order (x ∷ ys) key ≡ order (x ∷ xs) key)
past_head x xs ys [] lt further = (refl, refl)
past_head x xs ys (z ∷ zs) lt further =
    (elim (nat_eq x z) as (λ b. nat_eq x z ≡ b → cond b (1 + shared xs zs) 0 < 1 + shared xs ys → (cond b (1 + shared ys zs) 0 ≡ cond b (1 + shared xs zs) 0) × (ordering_then (nat_cmp x z) (order ys zs) ≡ ordering_then (nat_cmp x z) (order xs zs))) [
      | true ↦ λ e l. let h = further zs (omega arith) in (ap (λ k. 1 + k) h.0, ap (ordering_then (nat_cmp x z)) h.1)
      | false ↦ λ e l. (refl, decided x z (order ys zs) (order xs zs) e)
    ]) refl lt

-- an item that shares more with the one before than that one does with the key meets the key as it does
pub past : (before item key : List ℕ) → shared before key < shared before item → (shared item key ≡ shared before key) × (order item key ≡ order before key)
past [] item key lt = absurd (omega arith)
past (x ∷ xs) [] key lt = absurd (omega arith)
past (x ∷ xs) (y ∷ ys) key lt =
    (elim (nat_eq x y) as (λ b. nat_eq x y ≡ b → shared (x ∷ xs) key < cond b (1 + shared xs ys) 0 → (shared (y ∷ ys) key ≡ shared (x ∷ xs) key) × (order (y ∷ ys) key ≡ order (x ∷ xs) key)) [
      | true ↦ λ e l. subst (λ z. (shared (z ∷ ys) key ≡ shared (x ∷ xs) key) × (order (z ∷ ys) key ≡ order (x ∷ xs) key)) (eqb-true x y e) (past_head x xs ys key l (λ k le. past xs ys k le))
      | false ↦ λ e l. absurd (omega arith)
    ]) refl lt

-- what is shared with the key at least is the front of both
front_alike : (s : ℕ) (xs ys : List ℕ) → s ≤ shared xs ys → take s xs ≡ take s ys
front_alike s xs ys le = sym (take-take s (shared xs ys) xs le) ∙ (ap (take s) (shared_front xs ys) ∙ take-take s (shared xs ys) ys le)

-- an item that shares no more than that with the one before
near : (i : ℕ) (before item key : List ℕ) (s matched : ℕ) (way : Ordering) → s ≡ shared (base i before) item → s ≤ shared before key
    → matched ≡ s + shared (drop s item) (drop s key) → way ≡ order (drop s item) (drop s key) → Meets matched way item key
near i before item key s matched way is le m w =
    let fits = shared-le (base i before) item in
    let within = shared-le before key in
    let front : take s item ≡ take s key = ap (λ (k : ℕ). take k item) is ∙ (sym (shared_front (base i before) item) ∙ (ap (λ (k : ℕ). take k (base i before)) (sym is) ∙ (take-base s i before (omega arith) ∙ front_alike s before key le))) in
    let p : List ℕ = take s key in
    let len : length p ≡ s = omega (arith, length-take s key) in
    let left : item ≡ p ++ drop s item = sym (take-append-drop s item) ∙ ap (λ (t : List ℕ). t ++ drop s item) front in
    let right : key ≡ p ++ drop s key = sym (take-append-drop s key) in
    let alike : shared item key ≡ length p + shared (drop s item) (drop s key) = ap (λ (t : List ℕ). shared t key) left ∙ (ap (λ (t : List ℕ). shared (p ++ drop s item) t) right ∙ shared-front p (drop s item) (drop s key)) in
    let ordered : order item key ≡ order (drop s item) (drop s key) = ap (λ (t : List ℕ). order t key) left ∙ (ap (λ (t : List ℕ). order (p ++ drop s item) t) right ∙ order-front p (drop s item) (drop s key)) in
    record { alike = omega arith; way_is = w ∙ sym ordered }

far : (i : ℕ) (before item key : List ℕ) → shared before key < shared (base i before) item → (shared item key ≡ shared before key) × (order item key ≡ order before key)
far i before item key lt =
    (elim (nat_eq (i % 16) 0) as (λ b. shared before key < shared (cond b [] before) item → (shared item key ≡ shared before key) × (order item key ≡ order before key)) [
      | true ↦ λ l. absurd (omega arith)
      | false ↦ λ l. past before item key l
    ]) lt

-- how the next item meets the key
pub meets_next : (i : ℕ) (before item key : List ℕ) (s : ℕ) (rest : List ℕ) (matched matched' : ℕ) (way way' : Ordering)
    → s ≡ shared (base i before) item → rest ≡ drop (shared (base i before) item) item → Meets matched way before key
    → (s ≤ matched → matched' ≡ s + shared rest (drop s key)) → (s ≤ matched → way' ≡ order rest (drop s key))
    → (matched < s → matched' ≡ matched) → (matched < s → way' ≡ way) → Meets matched' way' item key
meets_next i before item key s rest matched matched' way way' is rest_is met near_alike near_way far_alike far_way =
    let r : rest ≡ drop s item = rest_is ∙ ap (λ (k : ℕ). drop k item) (sym is) in
    elim (cases_lt matched s) [
      | inl lt ↦ let h = far i before item key (omega (arith, met.alike)) in
          record { alike = far_alike lt ∙ (met.alike ∙ sym h.0); way_is = far_way lt ∙ (met.way_is ∙ sym h.1) }
      | inr le ↦ near i before item key s matched' way' is (omega (arith, met.alike))
          (near_alike le ∙ ap (λ (t : List ℕ). s + shared t (drop s key)) r) (near_way le ∙ ap (λ (t : List ℕ). order t (drop s key)) r)
    ]

-- the order of what is behind the common front, as slices tell it
pub order_rest : (xs ys : List ℕ) (n : ℕ) → n ≡ shared xs ys → slice_cmp nat_cmp (take (length xs - n) (drop n xs)) (take (length ys - n) (drop n ys)) ≡ order xs ys
order_rest xs ys n is = rw (take_rest xs n, take_rest ys n, is) (order-drop xs ys)

pub before_next : (j : ℕ) (items : List (List ℕ)) → before_at (j + 1) [] items ≡ get_or items j []
before_next j items = let one : j + 1 ≡ suc j = omega arith in rw one refl

-- a cell that is there is read
pub no_cell : (bytes : List ℕ) (x : Fields) → fields_at bytes ≡ Err 0 → fields_at bytes ≡ Ok x → ⊥
no_cell bytes x failed read = let never : Err 0 ≡ Ok x = sym failed ∙ read in cc

-- the fields of a cell that is read are those of the item
pub fields_are : (bytes : List ℕ) (x y : Fields) → fields_at bytes ≡ Ok x → fields_at bytes ≡ Ok y → x ≡ y
fields_are bytes x y p q = ok_is x y (sym p ∙ q)

-- ---- from a stretch on

behind-cells : (j i : ℕ) (b : List ℕ) (xs : List (List ℕ)) → j ≤ length xs → behind j i b xs ≡ cells (i + j) (before_at j b xs) (drop j xs)
behind-cells zero i b xs le = let at : i ≡ i + 0 = omega arith in ap (λ k. cells k b xs) at
behind-cells (suc j) i b [] le = absurd (omega arith)
behind-cells (suc j) i b (x ∷ xs) le =
    let at : suc i + j ≡ i + suc j = omega arith in
    behind-cells j (suc i) x xs (omega arith) ∙ (ap (λ k. cells k (before_at j x xs) (drop j xs)) at ∙ ap (λ w. cells (i + suc j) w (drop j xs)) (before_more j x xs))

next_place : (i k : ℕ) → i % 16 ≡ k % 16 → suc i % 16 ≡ suc k % 16
next_place i k e = omega arith

same_base : (i k : ℕ) (b : List ℕ) → i % 16 ≡ k % 16 → base i b ≡ base k b
same_base i k b e = ap (λ m. cond (nat_eq m 0) [] b) e

cells_cycle : (i k : ℕ) (b c : List ℕ) (xs : List (List ℕ)) → i % 16 ≡ k % 16 → base i b ≡ base k c → cells i b xs ≡ cells k c xs
cells_cycle i k b c [] e w = refl
cells_cycle i k b c (x ∷ xs) e w =
    let next = next_place i k e in
    ap (λ v. cell v x ++ cells (suc i) x xs) w ∙ ap (λ t. cell (base k c) x ++ t) (cells_cycle (suc i) (suc k) x x xs next (same_base (suc i) (suc k) x next))

-- at the start of a stretch the base is nothing
bare_base : (n : ℕ) (b : List ℕ) → n % 16 ≡ 0 → base n b ≡ []
bare_base n b e = ap (λ m. cond (nat_eq m 0) [] b) e

-- what stands behind whole stretches is the block of the items behind them
pub block_behind : (items : List (List ℕ)) (n : ℕ) (bytes : List ℕ) → Fits items → n % 16 ≡ 0 → n ≤ length items → bytes ≡ behind n 0 [] items → IsBlock bytes (drop n items)
unfolding spelling
block_behind items n bytes fits whole le is =
    let at : 0 + n ≡ n = omega arith in
    let place : (0 + n) % 16 ≡ 0 % 16 = rw at whole in
    let bare : base (0 + n) (before_at n [] items) ≡ base 0 [] = rw at (bare_base n (before_at n [] items) whole) in
    record {
      fits = record { each = short_behind 4294967295 n items fits.each };
      parts = is ∙ (behind-cells n 0 [] items le ∙ cells_cycle (0 + n) 0 (before_at n [] items) [] (drop n items) place bare);
    }

pub cells_split : (j i : ℕ) (b : List ℕ) (xs : List (List ℕ)) → j ≤ length xs → cells i b xs ≡ cells i b (take j xs) ++ behind j i b xs
cells_split zero i b xs le = refl
cells_split (suc j) i b [] le = absurd (omega arith)
cells_split (suc j) i b (x ∷ xs) le =
    ap (λ t. cell (base i b) x ++ t) (cells_split j (suc i) x xs (omega arith)) ∙ sym (append_assoc (cell (base i b) x) (cells (suc i) x (take j xs)) (behind j (suc i) x xs))

pub spelling-split : (items : List (List ℕ)) (n : ℕ) → n ≤ length items → spelling items ≡ spelling (take n items) ++ behind n 0 [] items
unfolding spelling
spelling-split items n le = cells_split n 0 [] items le

pub block_start : (bytes : List ℕ) (items : List (List ℕ)) → IsBlock bytes items → bytes ≡ behind 0 0 [] items
unfolding spelling
block_start bytes items block = block.parts

-- the same for a place within a list: its stretch, and its place there
pub order_at : (items : List (List ℕ)) (i : ℕ) (key : List ℕ) (stretch : List ℕ) (way : Ordering) → Fits items → i < length items → stretch ≡ behind (i - i % 16) 0 [] items
    → ((others : List (List ℕ)) → IsBlock stretch others → i % 16 < length others → way ≡ order (get_or others (i % 16) []) key) → way ≡ order (get_or items i []) key
order_at items i key stretch way fits lt is ordered =
    let n : ℕ = i - i % 16 in
    let block = block_behind items n stretch fits (omega arith) (omega arith) is in
    let at : n + i % 16 ≡ i = omega arith in
    let item : get_or (drop n items) (i % 16) [] ≡ get_or items i [] = get_or-drop n items (i % 16) [] ∙ ap (λ k. get_or items k []) at in
    ordered (drop n items) block (omega (arith, length-drop n items)) ∙ ap (λ t. order t key) item

-- where a stretch's start is known
pub start_at : (items : List (List ℕ)) (starts bytes : List ℕ) (q : ℕ) → IsBlock bytes items → AreStarts starts items → 16 * q < length items → (q < length starts) × (get_or starts q 0 ≤ length bytes) × (drop (get_or starts q 0) bytes ≡ behind (16 * q) 0 [] items)
start_at items starts bytes q block are lt =
    let here : q < length starts = omega (arith, are.enough) in
    let split : bytes ≡ spelling (take (16 * q) items) ++ behind (16 * q) 0 [] items = block.parts ∙ spelling-split items (16 * q) (omega arith) in
    let at : length (spelling (take (16 * q) items)) ≡ get_or starts q 0 = sym (are.each q here) in
    (here, omega (arith, ap length split, length-append (spelling (take (16 * q) items)) (behind (16 * q) 0 [] items)), ap (drop (get_or starts q 0)) split ∙ drop_at (spelling (take (16 * q) items)) (behind (16 * q) 0 [] items) (get_or starts q 0) at)

-- the next stretch behind this one
pub next_stretch : (items : List (List ℕ)) (q : ℕ) (bytes rest : List ℕ) → IsBlock bytes (drop (16 * q) items) → 16 * (q + 1) ≤ length items
    → ((others : List (List ℕ)) → IsBlock bytes others → 16 ≤ length others → rest ≡ behind 16 0 [] others) → IsBlock rest (drop (16 * (q + 1)) items)
next_stretch items q bytes rest block le further =
    let long : 16 ≤ length (drop (16 * q) items) = omega (arith, length-drop (16 * q) items) in
    let here = block_behind (drop (16 * q) items) 16 rest block.fits refl long (further (drop (16 * q) items) block long) in
    let at : 16 * q + 16 ≡ 16 * (q + 1) = omega arith in
    subst (λ others. IsBlock rest others) (drop-drop 16 (16 * q) items ∙ ap (λ k. drop k items) at) here

-- how many bytes stand before a stretch
pub stretch_offset : (items : List (List ℕ)) (q : ℕ) (bytes rest : List ℕ) → IsBlock bytes items → 16 * q ≤ length items → IsBlock rest (drop (16 * q) items) → length bytes - length rest ≡ length (spelling (take (16 * q) items))
stretch_offset items q bytes rest block le there =
    let split : bytes ≡ spelling (take (16 * q) items) ++ behind (16 * q) 0 [] items = block.parts ∙ spelling-split items (16 * q) le in
    let whole : (16 * q) % 16 ≡ 0 = omega arith in
    let same : behind (16 * q) 0 [] items ≡ rest = (block_behind items (16 * q) (behind (16 * q) 0 [] items) block.fits whole le refl).parts ∙ sym there.parts in
    omega (arith, ap length split, ap length same, length-append (spelling (take (16 * q) items)) (behind (16 * q) 0 [] items))

pub block_whole : (bytes : List ℕ) (items : List (List ℕ)) → IsBlock bytes items → IsBlock bytes (drop (16 * 0) items)
block_whole bytes items block = block

-- the stretch of place i
pub stretch_at : (items : List (List ℕ)) (starts bytes : List ℕ) (i start : ℕ) → IsBlock bytes items → AreStarts starts items → i < length items → start ≡ get_or starts (i / 16) 0 → (start ≤ length bytes) × (drop start bytes ≡ behind (i - i % 16) 0 [] items)
stretch_at items starts bytes i start block are lt is =
    let at : 16 * (i / 16) ≡ i - i % 16 = omega arith in
    let h = start_at items starts bytes (i / 16) block are (omega arith) in
    (omega (arith, h.1), ap (λ k. drop k bytes) is ∙ (h.2 ∙ ap (λ k. behind k 0 [] items) at))
