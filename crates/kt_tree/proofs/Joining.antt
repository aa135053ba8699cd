-- A tree below a node that has changed, and the tree that they make.
use Rattle.std.proofs.Common.{◌≡◌, ℕ, ◌+◌, ◌≤◌, Bool, List, ◌∷◌, ◌++◌, refl, sym, ap, ◌∙◌, arith, subst, Some, None, Option}
use Rattle.std.specs.List.{find}
use Rattle.std.specs.Ordering.{is_eq}
use Rattle.std.specs.declared.cmp.Ordering.TheVariants.{Equal, Greater}
use Rattle.kt_pool.specs.Contents.{Contents, at_cell, bytes_at}
use Rattle.kt_tree.specs.Entries.{Entry, order, IsBelow, IsRising, is_at}
use Rattle.kt_tree.specs.Shapes.{node_of, head_of, IsNode, Shape, node, root_of, flat, key_cells, one_at, count, IsTreeAt, Rewrites}
use Rattle.kt_tree.specs.Changes.{Becomes}
use Rattle.kt_tree.specs.declared.node.Node.{Node}
use Rattle.kt_tree.proofs.Orders.{below_weaker, above_weaker, rising_below, rising_above, find_past, find_in, find_first, find_next, none_below, none_above, above_is, below_same}
use Rattle.kt_tree.proofs.Places.{one_same}
use Rattle.kt_tree.proofs.Shapes.{kept, left_tree, right_tree, root_says, key_is}
use Rattle.kt_tree.proofs.Splitting.{to_node, moved}

pub find_left : (p : Entry → Bool) (xs ys : List Entry) → find p ys ≡ None → find p (xs ++ ys) ≡ find p xs
find_left p xs ys none = by (find p xs) refl
  where
    by : (o : Option Entry) → find p xs ≡ o → find p (xs ++ ys) ≡ find p xs
    by None e = find_past p xs ys e ∙ none ∙ sym e
    by (Some x) e = find_in p xs ys x e ∙ sym e

-- nothing has changed
pub unchanged : (pool : Contents) (own : ℕ → ℕ) → Rewrites pool pool own
unchanged pool own = record { size = refl; reserved = refl; used = refl; frame = λ k none. refl }

module _ (old : Contents) (root : ℕ) (key : List ℕ) (n : Node) (read : n ≡ node_of (bytes_at old root)) (cell : ℕ) (l : Shape) (own : List ℕ) (place value : ℕ) (r : Shape) (t : IsTreeAt old root (node cell l own place value r)) where
  pub node_says : n ≡ to_node (root_of l) (root_of r) place value (head_of own)
  node_says = read ∙ root_says old root cell l own place value r t

  pub node_order : order (bytes_at old n.key) key ≡ order own key
  node_order = ap (λ (m : Node). order (bytes_at old m.key) key) node_says ∙ ap (λ b. order b key) (key_is old root cell l own place value r t)

  pub tree_right : IsTreeAt old n.right r
  tree_right = moved old n.right (root_of r) r (ap (λ (m : Node). m.right) node_says) (right_tree old root cell l own place value r t)

  pub tree_left : IsTreeAt old n.left l
  tree_left = moved old n.left (root_of l) l (ap (λ (m : Node). m.left) node_says) (left_tree old root cell l own place value r t)

  -- the node that was read stands at the root
  pub root_node : IsNode old root n
  root_node = let P : Node → Type 0 = λ m. IsNode old root m in subst P (sym node_says) (subst (λ c. IsNode old c (to_node (root_of l) (root_of r) place value (head_of own))) (sym t.root) t.holds.0)

  pub is_root : (k : ℕ) → one_at root k ≡ one_at cell k
  is_root k = ap (λ c. one_at c k) t.root

  module _ (mid new : Contents) (child : ℕ) (es ks : List Entry) (below extra all : ℕ → ℕ) (b : Becomes old mid child es ks below) (free : (k : ℕ) → count (node cell l own place value r) k + extra k ≤ 1) (all_is : (k : ℕ) → all k ≡ count (node cell l own place value r) k + extra k) (ot : Rewrites mid new (one_at root)) where
    same_at : (k : ℕ) → one_at root k ≡ 0 → below k ≡ 0 → at_cell new k ≡ at_cell old k
    same_at k a c = ot.frame k a ∙ b.rewrites.frame k c

    pub joined_right : (is : (k : ℕ) → below k ≡ count r k + extra k) → IsNode new root (to_node n.left child n.key n.value n.head) → Becomes old new root (flat l ++ record { key = own; value = value } ∷ es) (key_cells l ++ record { key = own; value = place } ∷ ks) all
    joined_right is nd =
        let P : Node → Type 0 = λ m. IsNode new cell m in
        let as_node : to_node n.left child n.key n.value n.head ≡ to_node (root_of l) (root_of b.form) place value (head_of own) =
        ap (λ (m : Node). to_node m.left child m.key m.value m.head) node_says ∙ ap (λ x. to_node (root_of l) x place value (head_of own)) b.root_is in
        let one = one_same place place refl in
        record {
          form = node cell l own place value b.form;
          root_is = t.root;
          holds = (
            subst P as_node (subst (λ c. IsNode new c (to_node n.left child n.key n.value n.head)) t.root nd),
            (let f = free place in let i = is place in let c = is_root place in same_at place (omega arith) (omega arith)) ∙ t.holds.1,
            kept old new l t.holds.2 (λ k low. let f = free k in let i = is k in let c = is_root k in same_at k (omega arith) (omega arith)),
            kept mid new b.form b.holds (λ k low. let f = free k in let i = is k in let c = is_root k in let p = b.places k in ot.frame k (omega arith)),
            t.holds.4,
          );
          same = ap (λ es. flat l ++ record { key = own; value = value } ∷ es) b.same;
          same_keys = ap (λ ks. key_cells l ++ record { key = own; value = place } ∷ ks) b.same_keys;
          places = λ k. let a = all_is k in let i = is k in let p = b.places k in omega arith;
          rewrites = record {
            size = ot.size ∙ b.rewrites.size;
            reserved = ot.reserved ∙ b.rewrites.reserved;
            used = ot.used ∙ b.rewrites.used;
            frame = λ k none. let a = all_is k in let i = is k in let c = is_root k in same_at k (omega arith) (omega arith);
          };
        }

    pub joined_left : (is : (k : ℕ) → below k ≡ count l k + extra k) → IsNode new root (to_node child n.right n.key n.value n.head) → Becomes old new root (es ++ record { key = own; value = value } ∷ flat r) (ks ++ record { key = own; value = place } ∷ key_cells r) all
    joined_left is nd =
        let P : Node → Type 0 = λ m. IsNode new cell m in
        let as_node : to_node child n.right n.key n.value n.head ≡ to_node (root_of b.form) (root_of r) place value (head_of own) =
        ap (λ (m : Node). to_node child m.right m.key m.value m.head) node_says ∙ ap (λ x. to_node x (root_of r) place value (head_of own)) b.root_is in
        let one = one_same place place refl in
        record {
          form = node cell b.form own place value r;
          root_is = t.root;
          holds = (
            subst P as_node (subst (λ c. IsNode new c (to_node child n.right n.key n.value n.head)) t.root nd),
            (let f = free place in let i = is place in let c = is_root place in same_at place (omega arith) (omega arith)) ∙ t.holds.1,
            kept mid new b.form b.holds (λ k low. let f = free k in let i = is k in let c = is_root k in let p = b.places k in ot.frame k (omega arith)),
            kept old new r t.holds.3 (λ k low. let f = free k in let i = is k in let c = is_root k in same_at k (omega arith) (omega arith)),
            t.holds.4,
          );
          same = ap (λ es. es ++ record { key = own; value = value } ∷ flat r) b.same;
          same_keys = ap (λ ks. ks ++ record { key = own; value = place } ∷ key_cells r) b.same_keys;
          places = λ k. let a = all_is k in let i = is k in let p = b.places k in omega arith;
          rewrites = record {
            size = ot.size ∙ b.rewrites.size;
            reserved = ot.reserved ∙ b.rewrites.reserved;
            used = ot.used ∙ b.rewrites.used;
            frame = λ k none. let a = all_is k in let i = is k in let c = is_root k in same_at k (omega arith) (omega arith);
          };
        }

  -- a value that is written over
  pub written_here : (new : Contents) (v : ℕ) → IsNode new root (to_node n.left n.right n.key v n.head) → Rewrites old new (one_at root) → Becomes old new root (flat l ++ record { key = own; value = v } ∷ flat r) (key_cells (node cell l own place value r)) (count (node cell l own place value r))
  written_here new v nd ot =
      let P : Node → Type 0 = λ m. IsNode new cell m in
      let as_node : to_node n.left n.right n.key v n.head ≡ to_node (root_of l) (root_of r) place v (head_of own) = ap (λ (m : Node). to_node m.left m.right m.key v m.head) node_says in
      let one = one_same place place refl in
      record {
        form = node cell l own place v r;
        root_is = t.root;
        holds = (
          subst P as_node (subst (λ c. IsNode new c (to_node n.left n.right n.key v n.head)) t.root nd),
          ot.frame place (let f = t.apart place in let c = is_root place in omega arith) ∙ t.holds.1,
          kept old new l t.holds.2 (λ k low. ot.frame k (let f = t.apart k in let c = is_root k in omega arith)),
          kept old new r t.holds.3 (λ k low. ot.frame k (let f = t.apart k in let c = is_root k in omega arith)),
          t.holds.4,
        );
        same = refl;
        same_keys = refl;
        places = λ k. refl;
        rewrites = record {
          size = ot.size;
          reserved = ot.reserved;
          used = ot.used;
          frame = λ k none. ot.frame k (let c = is_root k in omega arith);
        };
      }

  -- a key that comes after the node's is at its right, if it is anywhere
  pub find_right : IsRising (flat l ++ record { key = own; value = value } ∷ flat r) → IsBelow own key → find (is_at key) (flat l ++ record { key = own; value = value } ∷ flat r) ≡ find (is_at key) (flat r)
  find_right rising less =
      find_past (is_at key) (flat l) (record { key = own; value = value } ∷ flat r) (none_below key (flat l) (below_weaker own key (flat l) less (rising_below (flat l) (record { key = own; value = value }) (flat r) rising)))
      ∙ find_next (is_at key) (record { key = own; value = value }) (flat r) (ap is_eq less)

  -- and one that comes before it, at its left
  pub find_lefts : IsRising (flat l ++ record { key = own; value = value } ∷ flat r) → order own key ≡ Greater → find (is_at key) (flat l ++ record { key = own; value = value } ∷ flat r) ≡ find (is_at key) (flat l)
  find_lefts rising more =
      find_left (is_at key) (flat l) (record { key = own; value = value } ∷ flat r)
      (find_next (is_at key) (record { key = own; value = value }) (flat r) (ap is_eq more)
      ∙ none_above key (flat r) (above_weaker own key (flat r) (above_is own key more) (rising_above (flat l) (record { key = own; value = value }) (flat r) rising)))

  pub find_here : IsRising (flat l ++ record { key = own; value = value } ∷ flat r) → order own key ≡ Equal → find (is_at key) (flat l ++ record { key = own; value = value } ∷ flat r) ≡ Some (record { key = own; value = value })
  find_here rising same =
      find_past (is_at key) (flat l) (record { key = own; value = value } ∷ flat r) (none_below key (flat l) (below_same own key (flat l) same (rising_below (flat l) (record { key = own; value = value }) (flat r) rising)))
      ∙ find_first (is_at key) (record { key = own; value = value }) (flat r) (ap is_eq same)
