-- Trees in a pool.
use Rattle.std.proofs.Common.{◌≡◌, ◌≢◌, ℕ, zero, suc, ◌+◌, ◌<◌, ◌≤◌, inl, inr, false, cond, List, length, refl, ap, ◌∙◌, arith}
use Rattle.std.specs.Prelude.{is_some, ◌==◌}
use Rattle.std.proofs.lemmas.Bool.{cases_eq}
use Rattle.std.proofs.lemmas.Bool.Decides.{nat_tests}
use Rattle.kt_pool.specs.Contents.{Contents, at_cell, bytes_at}
use Rattle.kt_tree.specs.Shapes.{nothing, node_of, head_of, IsNode, Shape, leaf, node, root_of, size, one_at, count, Holds, IsTreeAt, shape_at}
use Rattle.kt_tree.specs.declared.node.Node.{Node}
use Rattle.kt_tree.proofs.Places.{bytes_same, bytes_some, stands_inside, stands_some, one_same, one_other}

-- ---- places that have not changed

pub node_kept : (old new : Contents) (cell : ℕ) (n : Node) → at_cell new cell ≡ at_cell old cell → IsNode old cell n → IsNode new cell n
node_kept old new cell n e h = record {
  inside = h.inside;
  stands = ap is_some e ∙ h.stands;
  long = ap length (bytes_same old new cell e) ∙ h.long;
  says = ap node_of (bytes_same old new cell e) ∙ h.says;
}

-- a tree stands where its places have not changed
pub kept : (old new : Contents) (s : Shape) → Holds old s → ((k : ℕ) → 0 < count s k → at_cell new k ≡ at_cell old k) → Holds new s
kept old new leaf h f = tt
kept old new (node cell l key place value r) h f =
    let a = one_same cell cell refl in
    let b = one_same place place refl in (
      node_kept old new cell (record { left = root_of l; right = root_of r; key = place; value = value; head = head_of key }) (f cell (omega arith)) h.0,
      f place (omega arith) ∙ h.1,
      kept old new l h.2 (λ k low. f k (omega arith)),
      kept old new r h.3 (λ k low. f k (omega arith)),
      h.4,
    )

-- ---- the form that the pool spells

node_step : (pool : Contents) (n cell : ℕ) (m : Node) → cell ≢ nothing → node_of (bytes_at pool cell) ≡ m → shape_at pool (suc n) cell ≡ node cell (shape_at pool n m.left) (bytes_at pool m.key) m.key m.value (shape_at pool n m.right)
node_step pool n cell m ne e =
    let here = node_of (bytes_at pool cell) in
    let test : (cell == nothing) ≡ false = grind (arith, nat_tests) in
    ap (λ b. cond b leaf (node cell (shape_at pool n here.left) (bytes_at pool here.key) here.key here.value (shape_at pool n here.right))) test
    ∙ ap (λ (m : Node). node cell (shape_at pool n m.left) (bytes_at pool m.key) m.key m.value (shape_at pool n m.right)) e

pub shape_is : (pool : Contents) (s : Shape) (n : ℕ) → Holds pool s → size s ≤ n → shape_at pool n (root_of s) ≡ s
shape_is pool leaf zero h low = refl
shape_is pool leaf (suc n) h low = refl
shape_is pool (node cell l key place value r) zero h low = absurd (omega arith)
shape_is pool (node cell l key place value r) (suc n) h low =
    let i = h.0.inside in
    node_step pool n cell (record { left = root_of l; right = root_of r; key = place; value = value; head = head_of key }) (omega arith) h.0.says
    ∙ ap (λ x. node cell x (bytes_at pool place) place value (shape_at pool n (root_of r))) (shape_is pool l n h.2 (omega arith))
    ∙ ap (λ b. node cell l b place value (shape_at pool n (root_of r))) (bytes_some pool place key h.1)
    ∙ ap (λ x. node cell l key place value x) (shape_is pool r n h.3 (omega arith))

-- ---- a tree has no more places than the pool has cells

abbrev total : (ℕ → ℕ) → ℕ → ℕ
total f zero = 0
total f (suc n) = total f n + f n

total_small : (f : ℕ → ℕ) (n : ℕ) → ((k : ℕ) → f k ≤ 1) → total f n ≤ n
total_small f zero h = omega arith
total_small f (suc n) h = let a = total_small f n h in let b = h n in omega arith

total_sum : (f g : ℕ → ℕ) (n : ℕ) → total (λ k. f k + g k) n ≡ total f n + total g n
total_sum f g zero = refl
total_sum f g (suc n) = let a = total_sum f g n in omega arith

total_none : (a n : ℕ) → n ≤ a → total (one_at a) n ≡ 0
total_none a zero low = refl
total_none a (suc n) low = let b = total_none a n (omega arith) in let c = one_other a n (omega arith) in omega arith

total_one : (a n : ℕ) → a < n → total (one_at a) n ≡ 1
total_one a zero low = absurd (omega arith)
total_one a (suc n) low = elim (cases_eq a n) [
  | inl same ↦ let b = total_none a n (omega arith) in let c = one_same a n same in omega arith
  | inr other ↦ let b = total_one a n (omega arith) in let c = one_other a n other in omega arith
]

total_zero : (n : ℕ) → total (λ _. 0) n ≡ 0
total_zero zero = refl
total_zero (suc n) = let a = total_zero n in omega arith

total_count : (pool : Contents) (s : Shape) → Holds pool s → total (count s) (length pool.places) ≡ size s + size s
total_count pool leaf h = total_zero (length pool.places)
total_count pool (node cell l key place value r) h =
    let n = length pool.places in
    let a = total_count pool l h.2 in
    let b = total_count pool r h.3 in
    let c = total_one cell n (stands_inside pool cell h.0.stands) in
    let d = total_one place n (stands_inside pool place (stands_some pool place key h.1)) in
    let e = total_sum (count l) (λ k. one_at cell k + (one_at place k + count r k)) n in
    let f = total_sum (one_at cell) (λ k. one_at place k + count r k) n in
    let g = total_sum (one_at place) (count r) n in
    omega arith

pub size_small : (pool : Contents) (root : ℕ) (s : Shape) → IsTreeAt pool root s → size s + size s ≤ length pool.places
size_small pool root s t = let a = total_count pool s t.holds in let b = total_small (count s) (length pool.places) t.apart in omega arith

-- ---- the form of a tree is the one that the pool spells

-- how many nodes there are from this cell on
abbrev pub nodes_at : Contents → ℕ → ℕ
nodes_at pool cell = size (shape_at pool (length pool.places) cell)

pub spelled_is : (pool : Contents) (root : ℕ) (s : Shape) → IsTreeAt pool root s → shape_at pool (length pool.places) root ≡ s
spelled_is pool root s t = let a = size_small pool root s t in ap (shape_at pool (length pool.places)) t.root ∙ shape_is pool s (length pool.places) t.holds (omega arith)

pub nodes_are : (pool : Contents) (root : ℕ) (s : Shape) → IsTreeAt pool root s → nodes_at pool root ≡ size s
nodes_are pool root s t = ap size (spelled_is pool root s t)

-- ---- parts of a tree

pub no_tree : (pool : Contents) (root : ℕ) (s : Shape) → IsTreeAt pool root s → root ≡ nothing → s ≡ leaf
no_tree pool root leaf t e = refl
no_tree pool root (node cell l key place value r) t e = let i = t.holds.0.inside in let same = t.root in absurd (omega arith)

module _ (pool : Contents) (root cell : ℕ) (l : Shape) (key : List ℕ) (place value : ℕ) (r : Shape) (t : IsTreeAt pool root (node cell l key place value r)) where
  pub left_tree : IsTreeAt pool (root_of l) l
  left_tree = record { root = refl; holds = t.holds.2; apart = λ k. let a = t.apart k in omega arith }

  pub right_tree : IsTreeAt pool (root_of r) r
  right_tree = record { root = refl; holds = t.holds.3; apart = λ k. let a = t.apart k in omega arith }

  -- what the node at the root says
  pub root_says : node_of (bytes_at pool root) ≡ record { left = root_of l; right = root_of r; key = place; value = value; head = head_of key }
  root_says = ap (λ c. node_of (bytes_at pool c)) t.root ∙ t.holds.0.says

  pub root_long : length (bytes_at pool root) ≡ 24
  root_long = ap (λ c. length (bytes_at pool c)) t.root ∙ t.holds.0.long

  pub key_is : bytes_at pool place ≡ key
  key_is = bytes_some pool place key t.holds.1
