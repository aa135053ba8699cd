-- Places of a pool, and nodes in them.
use Rattle.std.proofs.Common.{◌≡◌, ◌≢◌, ℕ, ◌+◌, ◌-◌, ◌^◌, ◌<◌, inl, inr, Bool, true, false, cond, List, [], ◌++◌, length, refl, sym, ap, ◌∙◌, arith, Some, None, Option}
use Rattle.std.specs.Prelude.{is_some, ◌==◌}
use Rattle.std.specs.Option.{unwrap_or}
use Rattle.std.proofs.lemmas.Bool.{cases_lt, false≢true}
use Rattle.std.proofs.lemmas.List.{get_or_past, drop_all, append-nil}
use Rattle.std.proofs.lemmas.List.Sums.{sum_by-set}
use Rattle.std.proofs.lemmas.Bool.Decides.{nat_tests}
use Rattle.byteorder.specs.Endian.{little_bytes}
use Rattle.byteorder.specs.Numbers.{little_number-reads_back}
use Rattle.kt_pool.specs.Contents.{Contents, Stands, at_cell, bytes_at, used, cells_of, with_place, overwritten, cells_for}
use Rattle.kt_pool.proofs.Standing.{stands_there}
use Rattle.kt_pool.proofs.Callers.{at_other, size_same, reserved_after, bytes_placed, stands_placed}
use Rattle.kt_tree.specs.Shapes.{nothing, node_of, spelling, IsNode, Rewrites, one_at}
use Rattle.kt_tree.specs.Takes.{Takes}
use Rattle.kt_tree.specs.declared.node.Node.{Node}

-- ---- a cell, and another

one_by : (b : Bool) → b ≡ true → cond {A = ℕ} b 1 0 ≡ 1
one_by true e = refl
one_by false e = absurd (false≢true e)

none_by : (b : Bool) → b ≡ false → cond {A = ℕ} b 1 0 ≡ 0
none_by true e = absurd (false≢true (sym e))
none_by false e = refl

pub one_same : (a b : ℕ) → a ≡ b → one_at a b ≡ 1
one_same a b e = one_by (a == b) (grind (arith, nat_tests))

pub one_other : (a b : ℕ) → a ≢ b → one_at a b ≡ 0
one_other a b e = none_by (a == b) (grind (arith, nat_tests))

-- a cell that is not counted is another
pub not_at : (a k : ℕ) → one_at a k ≡ 0 → k ≢ a
not_at a k none e = let one = one_same a k (sym e) in absurd (omega arith)

-- ---- places

-- a place that stands is in the pool
pub stands_inside : (pool : Contents) (k : ℕ) → Stands pool k → k < length pool.places
stands_inside pool k s = elim (cases_lt k (length pool.places)) [
  | inl inside ↦ inside
  | inr past ↦ absurd (false≢true (sym (ap is_some (get_or_past pool.places k None past)) ∙ s))
]

pub stands_some : (pool : Contents) (k : ℕ) (bytes : List ℕ) → at_cell pool k ≡ Some bytes → Stands pool k
stands_some pool k bytes e = ap is_some e

pub bytes_some : (pool : Contents) (k : ℕ) (bytes : List ℕ) → at_cell pool k ≡ Some bytes → bytes_at pool k ≡ bytes
bytes_some pool k bytes e = ap (λ o. unwrap_or o []) e

pub bytes_same : (old new : Contents) (k : ℕ) → at_cell new k ≡ at_cell old k → bytes_at new k ≡ bytes_at old k
bytes_same old new k e = ap (λ o. unwrap_or o []) e

-- what was placed there, as bytes
pub some_bytes : (pool : Contents) (k : ℕ) → Stands pool k → at_cell pool k ≡ Some (bytes_at pool k)
some_bytes pool k s = by (at_cell pool k) s
  where
    by : (o : Option (List ℕ)) → is_some o ≡ is_some {T = ℕ} (Some 0) → o ≡ Some (unwrap_or o [])
    by None e = cc
    by (Some x) e = refl

-- what is placed in the cells of all places, when one changes
pub used_after : (old new : Contents) (k : ℕ) (o : Option (List ℕ)) (r : ℕ) → new ≡ with_place old k o r → k < length old.places → used new + cells_of (at_cell old k) ≡ used old + cells_of o
used_after old new k o r e inside = ap (λ (p : Contents). used p + cells_of (at_cell old k)) e ∙ sum_by-set cells_of old.places k o None inside

abbrev of : ℕ → ℕ → ℕ → ℕ → ℕ → ℕ → Node
of left right key value high low = record { left = left; right = right; key = key; value = value; head = record { high = high; low = low } }

same_node : (a b : Node) → a.left ≡ b.left → a.right ≡ b.right → a.key ≡ b.key → a.value ≡ b.value → a.head.high ≡ b.head.high → a.head.low ≡ b.head.low → a ≡ b
same_node a b e f g h i j =
    ap (λ x. of x a.right a.key a.value a.head.high a.head.low) e ∙ ap (λ x. of b.left x a.key a.value a.head.high a.head.low) f
    ∙ ap (λ x. of b.left b.right x a.value a.head.high a.head.low) g ∙ ap (λ x. of b.left b.right b.key x a.head.high a.head.low) h
    ∙ ap (λ x. of b.left b.right b.key b.value x a.head.low) i ∙ ap (λ x. of b.left b.right b.key b.value b.head.high x) j

-- the bytes of a node spell that node
pub node_of-spelling : (n : Node) → n.left < 2 ^ 32 → n.right < 2 ^ 32 → n.key < 2 ^ 32 → n.value < 2 ^ 32 → n.head.high < 2 ^ 32 → n.head.low < 2 ^ 32 → node_of (spelling n) ≡ n
node_of-spelling n a b c d e f =
    same_node (node_of (spelling n)) n
    (little_number-reads_back 4 n.left (little_bytes 4 n.right ++ little_bytes 4 n.key ++ little_bytes 4 n.value ++ little_bytes 4 n.head.high ++ little_bytes 4 n.head.low ++ []) a)
    (little_number-reads_back 4 n.right (little_bytes 4 n.key ++ little_bytes 4 n.value ++ little_bytes 4 n.head.high ++ little_bytes 4 n.head.low ++ []) b)
    (little_number-reads_back 4 n.key (little_bytes 4 n.value ++ little_bytes 4 n.head.high ++ little_bytes 4 n.head.low ++ []) c)
    (little_number-reads_back 4 n.value (little_bytes 4 n.head.high ++ little_bytes 4 n.head.low ++ []) d)
    (little_number-reads_back 4 n.head.high (little_bytes 4 n.head.low ++ []) e)
    (little_number-reads_back 4 n.head.low [] f)

-- a node that is written stands
pub node_written : (old new : Contents) (cell : ℕ) (n : Node) (bytes : List ℕ) (r : ℕ) → new ≡ with_place old cell (Some bytes) r → cell < length old.places → cell < nothing → bytes ≡ spelling n → node_of bytes ≡ n → IsNode new cell n
node_written old new cell n bytes r e inside small is reads = record {
  inside = small;
  stands = stands_placed old new cell bytes r e inside;
  long = ap length (bytes_placed old new cell bytes r e inside ∙ is);
  says = ap node_of (bytes_placed old new cell bytes r e inside) ∙ reads;
}

pub overwritten_all : (bytes old : List ℕ) → length bytes ≡ length old → overwritten 0 bytes old ≡ bytes
overwritten_all bytes old e = ap (λ xs. bytes ++ xs) (drop_all (0 + length bytes) old (omega arith)) ∙ append-nil bytes

module _ (old new : Contents) (cell : ℕ) (n : Node) (bytes : List ℕ) (e : new ≡ with_place old cell (Some (overwritten 0 bytes (bytes_at old cell))) old.reserved) (long : length (bytes_at old cell) ≡ 24) (is : bytes ≡ spelling n) where
  there : Stands old cell
  there = stands_there old cell 0 (omega arith)

  whole : new ≡ with_place old cell (Some bytes) old.reserved
  whole = e ∙ ap (λ xs. with_place old cell (Some xs) old.reserved) (overwritten_all bytes (bytes_at old cell) (ap length is ∙ sym long))

  -- a node that is written over another stands
  pub node_over : cell < nothing → node_of bytes ≡ n → IsNode new cell n
  node_over small reads = node_written old new cell n bytes old.reserved whole (stands_inside old cell there) small is reads

  -- and nothing else has changed
  pub node_others : Rewrites old new (one_at cell)
  node_others = record {
    size = size_same old new cell (Some bytes) old.reserved whole;
    reserved = reserved_after old new cell (Some bytes) old.reserved whole;
    used =
        let u = used_after old new cell (Some bytes) old.reserved whole (stands_inside old cell there) in
        let now : cells_of (Some bytes) ≡ 1 = ap (λ n. cells_for n) (ap length is) in
        let was : cells_of (at_cell old cell) ≡ 1 = ap cells_of (some_bytes old cell there) ∙ ap (λ n. cells_for n) long in
        omega arith;
    frame = λ k none. at_other old new cell (Some bytes) old.reserved whole k (not_at cell k none);
  }

-- a node that is placed
module _ (old new : Contents) (cell : ℕ) (n : Node) (bytes : List ℕ) (vacant : at_cell old cell ≡ None) (inside : cell < length old.places) (e : new ≡ with_place old cell (Some bytes) (old.reserved - cells_for (length bytes))) (is : bytes ≡ spelling n) where
  pub placed_others : (k : ℕ) → k ≢ cell → at_cell new k ≡ at_cell old k
  placed_others = at_other old new cell (Some bytes) (old.reserved - cells_for (length bytes)) e

  pub placed_takes : Takes old new 1
  placed_takes =
      let one : cells_for (length bytes) ≡ 1 = ap (λ xs. cells_for (length xs)) is in
      record {
        size = size_same old new cell (Some bytes) (old.reserved - cells_for (length bytes)) e;
        reserved = reserved_after old new cell (Some bytes) (old.reserved - cells_for (length bytes)) e ∙ ap (λ n. old.reserved - n) one;
        used =
            let u = used_after old new cell (Some bytes) (old.reserved - cells_for (length bytes)) e inside in
            let none : cells_of (at_cell old cell) ≡ 0 = ap cells_of vacant in
            omega arith;
      }

  pub placed_node : cell < nothing → node_of bytes ≡ n → IsNode new cell n
  placed_node small reads = node_written old new cell n bytes (old.reserved - cells_for (length bytes)) e inside small is reads
