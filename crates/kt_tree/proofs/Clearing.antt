-- A tree whose places are given back.
use Rattle.std.proofs.Common.{◌≡◌, ◌≢◌, ℕ, ◌+◌, ◌<◌, inl, inr, List, [], ◌∷◌, ◌++◌, length, refl, sym, ap, ◌∙◌, arith, Some, None}
use Rattle.std.specs.Prelude.{is_some}
use Rattle.std.specs.List.{sum_by}
use Rattle.std.proofs.lemmas.Bool.{cases_lt, cases_eq}
use Rattle.std.proofs.lemmas.List.Sums.{sum_by-append, sum_by-cons}
use Rattle.kt_pool.specs.Contents.{Contents, Stands, at_cell, bytes_at, used, cells_of, cells_for, with_place}
use Rattle.kt_pool.proofs.Callers.{at_same, at_other, size_same, reserved_after}
use Rattle.kt_tree.specs.Entries.{Entry}
use Rattle.kt_tree.specs.Shapes.{nothing, node_of, Shape, leaf, node, flat, count, IsTreeAt}
use Rattle.kt_tree.specs.Trees.{need}
use Rattle.kt_tree.specs.Changes.{Clears}
use Rattle.kt_tree.specs.declared.node.Node.{Node}
use Rattle.kt_tree.proofs.Places.{one_same, one_other, stands_inside, stands_some, some_bytes, used_after}
use Rattle.kt_tree.proofs.Shapes.{kept, nodes_at, nodes_are}
use Rattle.kt_tree.proofs.Joining.{node_says, tree_right, tree_left, root_node, is_root}

-- the cells of these keys and of their nodes
abbrev cells : List Entry → ℕ
cells es = sum_by (λ (e : Entry). need e.key) es

module _ (old : Contents) (root : ℕ) (n : Node) (read : n ≡ node_of (bytes_at old root)) where
  module _ (cell : ℕ) (l : Shape) (own : List ℕ) (place value : ℕ) (r : Shape) (t : IsTreeAt old root (node cell l own place value r)) (p1 : Contents) (c1 : Clears old p1 l) where
    key_at : n.key ≡ place
    key_at = ap (λ (m : Node). m.key) (node_says old root [] n read cell l own place value r t)

    right_still : IsTreeAt p1 n.right r
    right_still =
        let u = tree_right old root [] n read cell l own place value r t in
        record { root = u.root; holds = kept old p1 r u.holds (λ k low. c1.frame k (let a = t.apart k in omega arith)); apart = u.apart }

    module _ (p2 : Contents) (c2 : Clears p1 p2 r) where
      key_still : at_cell p2 n.key ≡ Some own
      key_still =
          let a = t.apart place in let one = one_same place place refl in
          ap (at_cell p2) key_at ∙ c2.frame place (omega arith) ∙ c1.frame place (omega arith) ∙ t.holds.1

      module _ (p3 : Contents) (g3 : p3 ≡ with_place p2 n.key None p2.reserved) where
        key_inside : n.key < length p2.places
        key_inside = stands_inside p2 n.key (stands_some p2 n.key own key_still)

        root_other : root ≢ n.key
        root_other e = let a = t.apart place in let one = one_same place place refl in let two = one_same cell place (sym t.root ∙ e ∙ key_at) in absurd (omega arith)

        root_still : at_cell p3 root ≡ at_cell old root
        root_still =
            let a = t.apart root in let one = is_root old root [] n read cell l own place value r t root in let two = one_same root root refl in
            at_other p2 p3 n.key None p2.reserved g3 root root_other ∙ c2.frame root (omega arith) ∙ c1.frame root (omega arith)

        root_stands : Stands p3 root
        root_stands = ap is_some root_still ∙ (root_node old root [] n read cell l own place value r t).stands

        module _ (p4 : Contents) (g4 : p4 ≡ with_place p3 root None p3.reserved) where
          root_inside : root < length p3.places
          root_inside = stands_inside p3 root root_stands

          past : (k : ℕ) → k ≢ root → k ≢ n.key → at_cell p4 k ≡ at_cell p2 k
          past k a b = at_other p3 p4 root None p3.reserved g4 k a ∙ at_other p2 p3 n.key None p2.reserved g3 k b

          gone : (k : ℕ) → 0 < count (node cell l own place value r) k → at_cell p4 k ≡ None
          gone k low = elim (cases_eq k root) [
            | inl same ↦ ap (at_cell p4) same ∙ at_same p3 p4 root None p3.reserved g4 root_inside
            | inr a ↦ elim (cases_eq k n.key) [
              | inl same ↦ at_other p3 p4 root None p3.reserved g4 k a ∙ ap (at_cell p3) same ∙ at_same p2 p3 n.key None p2.reserved g3 key_inside
              | inr b ↦
                  let x = one_other cell k (λ e. a (sym e ∙ sym t.root)) in
                  let y = one_other place k (λ e. b (sym e ∙ sym key_at)) in
                  past k a b ∙ (elim (cases_lt 0 (count r k)) [
                    | inl more ↦ c2.gone k more
                    | inr none ↦ c2.frame k (omega arith) ∙ c1.gone k (omega arith)
                  ])
            ]
          ]

          frame : (k : ℕ) → count (node cell l own place value r) k ≡ 0 → at_cell p4 k ≡ at_cell old k
          frame k none =
              past k (λ e. let one = one_same cell k (sym t.root ∙ sym e) in absurd (omega arith)) (λ e. let one = one_same place k (sym key_at ∙ sym e) in absurd (omega arith))
              ∙ c2.frame k (omega arith) ∙ c1.frame k (omega arith)

          cleared : Clears old p4 (node cell l own place value r)
          cleared = record {
            size = size_same p3 p4 root None p3.reserved g4 ∙ size_same p2 p3 n.key None p2.reserved g3 ∙ c2.size ∙ c1.size;
            reserved = reserved_after p3 p4 root None p3.reserved g4 ∙ reserved_after p2 p3 n.key None p2.reserved g3 ∙ c2.reserved ∙ c1.reserved;
            used =
                let nd = root_node old root [] n read cell l own place value r t in
                let u4 = used_after p3 p4 root None p3.reserved g4 root_inside in
                let one : cells_of (at_cell p3 root) ≡ 1 = ap cells_of (root_still ∙ some_bytes old root nd.stands) ∙ ap cells_for nd.long in
                let u3 = used_after p2 p3 n.key None p2.reserved g3 key_inside in
                let keys : cells_of (at_cell p2 n.key) ≡ cells_for (length own) = ap cells_of key_still in
                let u2 : used p2 + cells (flat r) ≡ used p1 = c2.used in
                let u1 : used p1 + cells (flat l) ≡ used old = c1.used in
                let sums : cells (flat l ++ record { key = own; value = value } ∷ flat r) ≡ cells (flat l) + (need own + cells (flat r)) =
                sum_by-append (λ (e : Entry). need e.key) (flat l) (record { key = own; value = value } ∷ flat r)
                ∙ ap (λ m. cells (flat l) + m) (sum_by-cons (λ (e : Entry). need e.key) (record { key = own; value = value }) (flat r)) in
                let all : used p4 + cells (flat (node cell l own place value r)) ≡ used old = omega arith in
                all;
            gone = gone;
            frame = frame;
          }

  module _ (ne : root ≢ nothing) where
    pub clear_left_there : (s : Shape) → IsTreeAt old root s → (l : Shape) × IsTreeAt old n.left l
    clear_left_there leaf t = absurd (ne t.root)
    clear_left_there (node cell l own place value r) t = (l, tree_left old root [] n read cell l own place value r t)

    pub clear_left_fewer : (s : Shape) → IsTreeAt old root s → nodes_at old n.left < nodes_at old root
    clear_left_fewer leaf t = absurd (ne t.root)
    clear_left_fewer (node cell l own place value r) t =
        let a = nodes_are old root (node cell l own place value r) t in
        let b = nodes_are old n.left l (tree_left old root [] n read cell l own place value r t) in
        omega arith

    module _ (p1 : Contents) (f1 : (l : Shape) → IsTreeAt old n.left l → Clears old p1 l) where
      pub clear_right_there : (s : Shape) → IsTreeAt old root s → (r : Shape) × IsTreeAt p1 n.right r
      clear_right_there leaf t = absurd (ne t.root)
      clear_right_there (node cell l own place value r) t = (r, right_still cell l own place value r t p1 (f1 l (tree_left old root [] n read cell l own place value r t)))

      pub clear_right_fewer : (s : Shape) → IsTreeAt old root s → nodes_at p1 n.right < nodes_at old root
      clear_right_fewer leaf t = absurd (ne t.root)
      clear_right_fewer (node cell l own place value r) t =
          let a = nodes_are old root (node cell l own place value r) t in
          let b = nodes_are p1 n.right r (right_still cell l own place value r t p1 (f1 l (tree_left old root [] n read cell l own place value r t))) in
          omega arith

      module _ (p2 : Contents) (f2 : (r : Shape) → IsTreeAt p1 n.right r → Clears p1 p2 r) where
        pub clear_key : (s : Shape) → IsTreeAt old root s → Stands p2 n.key
        clear_key leaf t = absurd (ne t.root)
        clear_key (node cell l own place value r) t =
            let c1 = f1 l (tree_left old root [] n read cell l own place value r t) in
            stands_some p2 n.key own (key_still cell l own place value r t p1 c1 p2 (f2 r (right_still cell l own place value r t p1 c1)))

        module _ (p3 : Contents) (g3 : p3 ≡ with_place p2 n.key None p2.reserved) where
          pub clear_root : (s : Shape) → IsTreeAt old root s → Stands p3 root
          clear_root leaf t = absurd (ne t.root)
          clear_root (node cell l own place value r) t =
              let c1 = f1 l (tree_left old root [] n read cell l own place value r t) in
              root_stands cell l own place value r t p1 c1 p2 (f2 r (right_still cell l own place value r t p1 c1)) p3 g3

          pub clears : (p4 : Contents) → p4 ≡ with_place p3 root None p3.reserved → (s : Shape) → IsTreeAt old root s → Clears old p4 s
          clears p4 g4 leaf t = absurd (ne t.root)
          clears p4 g4 (node cell l own place value r) t =
              let c1 = f1 l (tree_left old root [] n read cell l own place value r t) in
              cleared cell l own place value r t p1 c1 p2 (f2 r (right_still cell l own place value r t p1 c1)) p3 g3 p4 g4
