-- A value that is written over.
use Rattle.std.proofs.Common.{◌≡◌, ◌≢◌, ℕ, ◌<◌, List, ◌∷◌, ◌++◌, sym, ap, ◌∙◌, arith, subst, Some, None, Option}
use Rattle.std.specs.Prelude.{MatchOption}
use Rattle.std.specs.Option.{option_map}
use Rattle.std.specs.declared.cmp.Ordering.TheVariants.{Less, Equal, Greater}
use Rattle.kt_pool.specs.Contents.{Contents, bytes_at}
use Rattle.kt_tree.specs.Entries.{Entry, order, IsRising, value_of, put}
use Rattle.kt_tree.specs.Shapes.{nothing, node_of, head_of, IsNode, Shape, leaf, node, root_of, flat, key_cells, one_at, count, IsTreeAt, Rewrites}
use Rattle.kt_tree.specs.Changes.{IsAbsent, Becomes}
use Rattle.kt_tree.specs.declared.node.Node.{Node}
use Rattle.kt_tree.proofs.Orders.{rising_right, rising_left, rising_below, put_before, put_here, put_after, above_is}
use Rattle.kt_tree.proofs.Places.{one_same}
use Rattle.kt_tree.proofs.Shapes.{node_kept, nodes_at, nodes_are}
use Rattle.kt_tree.proofs.Splitting.{to_node}
use Rattle.kt_tree.proofs.Joining.{unchanged, root_node, node_says, node_order, tree_right, tree_left, joined_right, joined_left, written_here, find_right, find_lefts, find_here}

-- the value at the key was written over, if the tree of this form has the key
abbrev pub Overwrites : Contents → Contents → ℕ → List ℕ → ℕ → Shape → Option ℕ → Type 0
Overwrites old new root key v s result = MatchOption result (IsAbsent key (flat s) × (new ≡ old)) (λ was. (value_of key (flat s) ≡ Some was) × Becomes old new root (put key v (flat s)) (key_cells s) (count s))

pub becomes_as : (old new : Contents) (root : ℕ) (es fs ks : List Entry) (own : ℕ → ℕ) → es ≡ fs → Becomes old new root es ks own → Becomes old new root fs ks own
becomes_as old new root es fs ks own e b = subst (λ es. Becomes old new root es ks own) e b

module _ (old : Contents) (root : ℕ) (key : List ℕ) (v : ℕ) (n : Node) (read : n ≡ node_of (bytes_at old root)) where
  module _ (cell : ℕ) (l : Shape) (own : List ℕ) (place value : ℕ) (r : Shape) (t : IsTreeAt old root (node cell l own place value r)) (rising : IsRising (flat (node cell l own place value r))) (new : Contents) where
    node_still : (below : ℕ → ℕ) (es ks : List Entry) (child : ℕ) → Becomes old new child es ks below → below root ≡ 0 → IsNode new root (to_node n.left n.right n.key n.value n.head)
    node_still below es ks child b none = node_kept old new root n (b.rewrites.frame root none) (root_node old root key n read cell l own place value r t)

    none_at_root : (count l root ≡ 0) × (count r root ≡ 0)
    none_at_root = let a = t.apart root in let b = one_same cell root (sym t.root) in (omega arith, omega arith)

    says : n ≡ to_node (root_of l) (root_of r) place value (head_of own)
    says = node_says old root key n read cell l own place value r t

    all : List Entry
    all = flat l ++ record { key = own; value = value } ∷ flat r

    over_right : (result : Option ℕ) → order own key ≡ Less → Overwrites old new n.right key v r result → Overwrites old new root key v (node cell l own place value r) result
    over_right None less o = (find_right old root key n read cell l own place value r t rising less ∙ o.0, o.1)
    over_right (Some was) less o = (
      ap (option_map (λ (e : Entry). e.value)) (find_right old root key n read cell l own place value r t rising less) ∙ o.0,
      becomes_as old new root (flat l ++ record { key = own; value = value } ∷ put key v (flat r)) (put key v (flat (node cell l own place value r))) (key_cells (node cell l own place value r)) (count (node cell l own place value r))
          (sym (put_after key v (flat l) (record { key = own; value = value }) (flat r) less (rising_below (flat l) (record { key = own; value = value }) (flat r) rising)))
          (joined_right old root key n read cell l own place value r t new new n.right (put key v (flat r)) (key_cells r) (count r) (λ k. 0) (count (node cell l own place value r)) o.1 (λ k. let a = t.apart k in omega arith) (λ k. omega arith) (unchanged new (one_at root)) (λ k. omega arith) (node_still (count r) (put key v (flat r)) (key_cells r) n.right o.1 none_at_root.1)),
    )

    over_left : (result : Option ℕ) → order own key ≡ Greater → Overwrites old new n.left key v l result → Overwrites old new root key v (node cell l own place value r) result
    over_left None more o = (find_lefts old root key n read cell l own place value r t rising more ∙ o.0, o.1)
    over_left (Some was) more o = (
      ap (option_map (λ (e : Entry). e.value)) (find_lefts old root key n read cell l own place value r t rising more) ∙ o.0,
      becomes_as old new root (put key v (flat l) ++ record { key = own; value = value } ∷ flat r) (put key v (flat (node cell l own place value r))) (key_cells (node cell l own place value r)) (count (node cell l own place value r))
          (sym (put_before key v (flat l) (record { key = own; value = value }) (flat r) (above_is own key more)))
          (joined_left old root key n read cell l own place value r t new new n.left (put key v (flat l)) (key_cells l) (count l) (λ k. 0) (count (node cell l own place value r)) o.1 (λ k. let a = t.apart k in omega arith) (λ k. omega arith) (unchanged new (one_at root)) (λ k. omega arith) (node_still (count l) (put key v (flat l)) (key_cells l) n.left o.1 none_at_root.0)),
    )

    over_here : order own key ≡ Equal → IsNode new root (to_node n.left n.right n.key v n.head) → Rewrites old new (one_at root) → (value_of key (flat (node cell l own place value r)) ≡ Some n.value) × Becomes old new root (put key v (flat (node cell l own place value r))) (key_cells (node cell l own place value r)) (count (node cell l own place value r))
    over_here same nd ot = (
      ap (option_map (λ (e : Entry). e.value)) (find_here old root key n read cell l own place value r t rising same) ∙ ap Some (sym (ap (λ (m : Node). m.value) says)),
      becomes_as old new root (flat l ++ record { key = own; value = v } ∷ flat r) (put key v (flat (node cell l own place value r))) (key_cells (node cell l own place value r)) (count (node cell l own place value r))
          (sym (put_here key v (flat l) (record { key = own; value = value }) (flat r) same (rising_below (flat l) (record { key = own; value = value }) (flat r) rising)))
          (written_here old root key n read cell l own place value r t new v nd ot),
    )

  module _ (ne : root ≢ nothing) where
    pub tree_right_there : (s : Shape) → IsTreeAt old root s → (r : Shape) × IsTreeAt old n.right r
    tree_right_there leaf t = absurd (ne t.root)
    tree_right_there (node cell l own place value r) t = (r, tree_right old root key n read cell l own place value r t)

    pub tree_left_there : (s : Shape) → IsTreeAt old root s → (l : Shape) × IsTreeAt old n.left l
    tree_left_there leaf t = absurd (ne t.root)
    tree_left_there (node cell l own place value r) t = (l, tree_left old root key n read cell l own place value r t)

    pub tree_right_fewer : (s : Shape) → IsTreeAt old root s → nodes_at old n.right < nodes_at old root
    tree_right_fewer leaf t = absurd (ne t.root)
    tree_right_fewer (node cell l own place value r) t =
        let a = nodes_are old root (node cell l own place value r) t in
        let b = nodes_are old n.right r (tree_right old root key n read cell l own place value r t) in
        omega arith

    pub tree_left_fewer : (s : Shape) → IsTreeAt old root s → nodes_at old n.left < nodes_at old root
    tree_left_fewer leaf t = absurd (ne t.root)
    tree_left_fewer (node cell l own place value r) t =
        let a = nodes_are old root (node cell l own place value r) t in
        let b = nodes_are old n.left l (tree_left old root key n read cell l own place value r t) in
        omega arith

    module _ (new : Contents) where
      pub overs_right : (result : Option ℕ) → order (bytes_at old n.key) key ≡ Less → ((r : Shape) → IsTreeAt old n.right r → IsRising (flat r) → Overwrites old new n.right key v r result) → (s : Shape) → IsTreeAt old root s → IsRising (flat s) → Overwrites old new root key v s result
      overs_right result o f leaf t rising = absurd (ne t.root)
      overs_right result o f (node cell l own place value r) t rising =
          over_right cell l own place value r t rising new result (sym (node_order old root key n read cell l own place value r t) ∙ o)
          (f r (tree_right old root key n read cell l own place value r t) (rising_right (flat l) (record { key = own; value = value } ∷ flat r) rising).1)

      pub overs_left : (result : Option ℕ) → order (bytes_at old n.key) key ≡ Greater → ((l : Shape) → IsTreeAt old n.left l → IsRising (flat l) → Overwrites old new n.left key v l result) → (s : Shape) → IsTreeAt old root s → IsRising (flat s) → Overwrites old new root key v s result
      overs_left result o f leaf t rising = absurd (ne t.root)
      overs_left result o f (node cell l own place value r) t rising =
          over_left cell l own place value r t rising new result (sym (node_order old root key n read cell l own place value r t) ∙ o)
          (f l (tree_left old root key n read cell l own place value r t) (rising_left (flat l) (record { key = own; value = value } ∷ flat r) rising))

      pub overs_here : order (bytes_at old n.key) key ≡ Equal → IsNode new root (to_node n.left n.right n.key v n.head) → Rewrites old new (one_at root) → (s : Shape) → IsTreeAt old root s → IsRising (flat s) → (value_of key (flat s) ≡ Some n.value) × Becomes old new root (put key v (flat s)) (key_cells s) (count s)
      overs_here o nd ot leaf t rising = absurd (ne t.root)
      overs_here o nd ot (node cell l own place value r) t rising =
          over_here cell l own place value r t rising new (sym (node_order old root key n read cell l own place value r t) ∙ o) nd ot
