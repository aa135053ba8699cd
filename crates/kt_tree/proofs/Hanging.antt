-- A node that is hung into a tree.
use Rattle.std.proofs.Common.{◌≡◌, ◌≢◌, ℕ, ◌+◌, ◌<◌, false, List, ◌∷◌, ◌++◌, length, refl, sym, ap, ◌∙◌, arith, subst}
use Rattle.std.specs.Ordering.{is_lt}
use Rattle.std.specs.declared.cmp.Ordering.TheVariants.{Less}
use Rattle.kt_pool.specs.Contents.{Contents, bytes_at}
use Rattle.kt_tree.specs.Entries.{Entry, order, put}
use Rattle.kt_tree.specs.Shapes.{nothing, node_of, head_of, IsNode, Shape, leaf, node, root_of, flat, key_cells, one_at, count, Rewrites}
use Rattle.kt_tree.specs.Changes.{Splits, Becomes, alone, StandsBy}
use Rattle.kt_tree.specs.declared.node.Node.{Node}
use Rattle.kt_tree.proofs.Orders.{rising_below, put_before, put_after, put_past, put_first, above_is}
use Rattle.kt_tree.proofs.Places.{one_same, bytes_same}
use Rattle.kt_tree.proofs.Shapes.{kept, no_tree, node_kept}
use Rattle.kt_tree.proofs.Splitting.{to_node, not_less, lacks_right, lacks_left, own_order, own_other}
use Rattle.kt_tree.proofs.Joining.{unchanged, root_node, joined_right, joined_left}
use Rattle.kt_tree.proofs.Keys.{same_keys, below_by, above_by}

becomes_both : (old new : Contents) (root : ℕ) (es fs ks cs : List Entry) (own : ℕ → ℕ) → es ≡ fs → ks ≡ cs → Becomes old new root es ks own → Becomes old new root fs cs own
becomes_both old new root es fs ks cs own e f b = subst (λ ks. Becomes old new root fs ks own) f (subst (λ es. Becomes old new root es ks own) e b)

-- the places of a tree, and of a node that stands alone beside it
abbrev pub both : Shape → ℕ → List ℕ → ℕ → ℕ → ℕ → ℕ
both s fresh key place value k = count s k + count (alone fresh key place value) k

-- where there is no tree, the node is the tree
pub hung_alone : (pool : Contents) (root fresh : ℕ) (key : List ℕ) → root ≡ nothing → (s : Shape) (place value : ℕ) → StandsBy pool root fresh key s place value → Becomes pool pool fresh (put key value (flat s)) (put key place (key_cells s)) (both s fresh key place value)
hung_alone pool root fresh key e s place value h =
    let is : s ≡ leaf = no_tree pool root s h.lacks.tree e in
    record {
      form = alone fresh key place value;
      root_is = refl;
      holds = h.holds;
      same = sym (ap (λ s. put key value (flat s)) is);
      same_keys = sym (ap (λ s. put key place (key_cells s)) is);
      places = λ k. let none = ap (λ s. count s k) is in omega arith;
      rewrites = unchanged pool (both s fresh key place value);
    }

module _ (old : Contents) (root fresh : ℕ) (key : List ℕ) (s : Shape) (place value : ℕ) (h : StandsBy old root fresh key s place value) where
  fresh_long : length (bytes_at old fresh) ≡ 24
  fresh_long = h.holds.0.long

  pub fresh_inside : fresh < nothing
  fresh_inside = h.holds.0.inside

  module _ (mid : Contents) (lo hi : ℕ) (sp : Splits old mid s key lo hi) where
    -- the node is where it was after the tree is cut
    pub fresh_still : length (bytes_at mid fresh) ≡ 24
    fresh_still = let a = h.apart fresh in let one = one_same fresh fresh refl in ap length (bytes_same old mid fresh (sp.rewrites.frame fresh (omega arith))) ∙ fresh_long

    -- the node stands above both halves
    pub hung_top : (n : Node) → n ≡ node_of (bytes_at old fresh) → (new : Contents) → IsNode new fresh (to_node lo hi n.key n.value n.head) → Rewrites mid new (one_at fresh) → Becomes old new fresh (put key value (flat s)) (put key place (key_cells s)) (both s fresh key place value)
    hung_top n read new nd ot =
        let P : Node → Type 0 = λ m. IsNode new fresh m in
        let says : n ≡ to_node nothing nothing place value (head_of key) = read ∙ h.holds.0.says in
        let as_node : to_node lo hi n.key n.value n.head ≡ to_node (root_of sp.low) (root_of sp.high) place value (head_of key) =
        ap (λ (m : Node). to_node lo hi m.key m.value m.head) says ∙ ap (λ x. to_node x hi place value (head_of key)) sp.low_root ∙ ap (λ x. to_node (root_of sp.low) x place value (head_of key)) sp.high_root in
        let one = one_same place place refl in
        record {
          form = node fresh sp.low key place value sp.high;
          root_is = refl;
          holds = (
            subst P as_node nd,
            (let a = h.apart place in ot.frame place (omega arith) ∙ sp.rewrites.frame place (omega arith)) ∙ h.holds.1,
            kept mid new sp.low sp.low_holds (λ k low. let a = h.apart k in let c = sp.same_places k in ot.frame k (omega arith)),
            kept mid new sp.high sp.high_holds (λ k low. let a = h.apart k in let c = sp.same_places k in ot.frame k (omega arith)),
            h.holds.4,
          );
          same =
              sym (ap (put key value) (sym sp.same) ∙ put_past key value (flat sp.low) (flat sp.high) sp.below ∙ ap (λ es. flat sp.low ++ es) (put_first key value (flat sp.high) sp.above));
          same_keys =
              sym (ap (put key place) (sym sp.same_keys) ∙ put_past key place (key_cells sp.low) (key_cells sp.high) (below_by key (key_cells sp.low) (flat sp.low) (same_keys sp.low) sp.below)
              ∙ ap (λ es. key_cells sp.low ++ es) (put_first key place (key_cells sp.high) (above_by key (key_cells sp.high) (flat sp.high) (same_keys sp.high) sp.above)));
          places = λ k. let c = sp.same_places k in omega arith;
          rewrites = record {
            size = ot.size ∙ sp.rewrites.size;
            reserved = ot.reserved ∙ sp.rewrites.reserved;
            used = ot.used ∙ sp.rewrites.used;
            frame = λ k none. ot.frame k (omega arith) ∙ sp.rewrites.frame k (omega arith);
          };
        }

module _ (old : Contents) (root fresh : ℕ) (key : List ℕ) (n : Node) (read : n ≡ node_of (bytes_at old root)) where
  module _ (cell : ℕ) (l : Shape) (own : List ℕ) (at v : ℕ) (r : Shape) (place value : ℕ) (h : StandsBy old root fresh key (node cell l own at v r) place value) where
    by_right : StandsBy old n.right fresh key r place value
    by_right = record {
      lacks = lacks_right old root key n read cell l own at v r h.lacks;
      holds = h.holds;
      apart = λ k. let a = h.apart k in omega arith;
    }

    by_left : StandsBy old n.left fresh key l place value
    by_left = record {
      lacks = lacks_left old root key n read cell l own at v r h.lacks;
      holds = h.holds;
      apart = λ k. let a = h.apart k in omega arith;
    }

    -- the root's cell is not among those below it
    root_out : (both r fresh key place value root ≡ 0) × (both l fresh key place value root ≡ 0)
    root_out = let a = h.apart root in let b = one_same cell root (sym h.lacks.tree.root) in (omega arith, omega arith)

    module _ (mid new : Contents) (child : ℕ) (ot : Rewrites mid new (one_at root)) where
      hung_right : order (bytes_at old n.key) key ≡ Less → Becomes old mid child (put key value (flat r)) (put key place (key_cells r)) (both r fresh key place value) → IsNode new root (to_node n.left child n.key n.value n.head) → Becomes old new root (put key value (flat (node cell l own at v r))) (put key place (key_cells (node cell l own at v r))) (both (node cell l own at v r) fresh key place value)
      hung_right less b nd =
          let is_less = sym (own_order old root key n read cell l own at v r h.lacks) ∙ less in
          let low = rising_below (flat l) (record { key = own; value = v }) (flat r) h.lacks.rising in
          becomes_both old new root (flat l ++ record { key = own; value = v } ∷ put key value (flat r)) (put key value (flat (node cell l own at v r))) (key_cells l ++ record { key = own; value = at } ∷ put key place (key_cells r)) (put key place (key_cells (node cell l own at v r))) (both (node cell l own at v r) fresh key place value)
          (sym (put_after key value (flat l) (record { key = own; value = v }) (flat r) is_less low))
          (sym (put_after key place (key_cells l) (record { key = own; value = at }) (key_cells r) is_less (below_by own (key_cells l) (flat l) (same_keys l) low)))
          (joined_right old root key n read cell l own at v r h.lacks.tree mid new child (put key value (flat r)) (put key place (key_cells r)) (both r fresh key place value) (count (alone fresh key place value)) (both (node cell l own at v r) fresh key place value) b h.apart (λ k. refl) ot (λ k. refl) nd)

      hung_left : is_lt (order (bytes_at old n.key) key) ≡ false → Becomes old mid child (put key value (flat l)) (put key place (key_cells l)) (both l fresh key place value) → IsNode new root (to_node child n.right n.key n.value n.head) → Becomes old new root (put key value (flat (node cell l own at v r))) (put key place (key_cells (node cell l own at v r))) (both (node cell l own at v r) fresh key place value)
      hung_left more b nd =
          let is_more = above_is own key (not_less (order own key) (sym (ap is_lt (own_order old root key n read cell l own at v r h.lacks)) ∙ more) (own_other old root key n read cell l own at v r h.lacks)) in
          becomes_both old new root (put key value (flat l) ++ record { key = own; value = v } ∷ flat r) (put key value (flat (node cell l own at v r))) (put key place (key_cells l) ++ record { key = own; value = at } ∷ key_cells r) (put key place (key_cells (node cell l own at v r))) (both (node cell l own at v r) fresh key place value)
          (sym (put_before key value (flat l) (record { key = own; value = v }) (flat r) is_more))
          (sym (put_before key place (key_cells l) (record { key = own; value = at }) (key_cells r) is_more))
          (joined_left old root key n read cell l own at v r h.lacks.tree mid new child (put key value (flat l)) (put key place (key_cells l)) (both l fresh key place value) (count (alone fresh key place value)) (both (node cell l own at v r) fresh key place value) b h.apart (λ k. refl) ot (λ k. refl) nd)

  module _ (ne : root ≢ nothing) where
    pub by_right_there : (s : Shape) (place value : ℕ) → StandsBy old root fresh key s place value → (r : Shape) × (place : ℕ) × (value : ℕ) × StandsBy old n.right fresh key r place value
    by_right_there leaf place value h = absurd (ne h.lacks.tree.root)
    by_right_there (node cell l own at v r) place value h = (r, place, value, by_right cell l own at v r place value h)

    pub by_left_there : (s : Shape) (place value : ℕ) → StandsBy old root fresh key s place value → (l : Shape) × (place : ℕ) × (value : ℕ) × StandsBy old n.left fresh key l place value
    by_left_there leaf place value h = absurd (ne h.lacks.tree.root)
    by_left_there (node cell l own at v r) place value h = (l, place, value, by_left cell l own at v r place value h)

    module _ (mid : Contents) (child : ℕ) where
      -- the root's node is as it was
      pub still_hung_right : (s : Shape) (place value : ℕ) → StandsBy old root fresh key s place value → ((r : Shape) (place value : ℕ) → StandsBy old n.right fresh key r place value → Becomes old mid child (put key value (flat r)) (put key place (key_cells r)) (both r fresh key place value)) → IsNode mid root n
      still_hung_right leaf place value h f = absurd (ne h.lacks.tree.root)
      still_hung_right (node cell l own at v r) place value h f =
          node_kept old mid root n ((f r place value (by_right cell l own at v r place value h)).rewrites.frame root (root_out cell l own at v r place value h).0) (root_node old root key n read cell l own at v r h.lacks.tree)

      pub still_hung_left : (s : Shape) (place value : ℕ) → StandsBy old root fresh key s place value → ((l : Shape) (place value : ℕ) → StandsBy old n.left fresh key l place value → Becomes old mid child (put key value (flat l)) (put key place (key_cells l)) (both l fresh key place value)) → IsNode mid root n
      still_hung_left leaf place value h f = absurd (ne h.lacks.tree.root)
      still_hung_left (node cell l own at v r) place value h f =
          node_kept old mid root n ((f l place value (by_left cell l own at v r place value h)).rewrites.frame root (root_out cell l own at v r place value h).1) (root_node old root key n read cell l own at v r h.lacks.tree)

      module _ (new : Contents) (ot : Rewrites mid new (one_at root)) where
        pub hangs_right : order (bytes_at old n.key) key ≡ Less → IsNode new root (to_node n.left child n.key n.value n.head) → ((r : Shape) (place value : ℕ) → StandsBy old n.right fresh key r place value → Becomes old mid child (put key value (flat r)) (put key place (key_cells r)) (both r fresh key place value)) → (s : Shape) (place value : ℕ) → StandsBy old root fresh key s place value → Becomes old new root (put key value (flat s)) (put key place (key_cells s)) (both s fresh key place value)
        hangs_right less nd f leaf place value h = absurd (ne h.lacks.tree.root)
        hangs_right less nd f (node cell l own at v r) place value h =
            hung_right cell l own at v r place value h mid new child ot less (f r place value (by_right cell l own at v r place value h)) nd

        pub hangs_left : is_lt (order (bytes_at old n.key) key) ≡ false → IsNode new root (to_node child n.right n.key n.value n.head) → ((l : Shape) (place value : ℕ) → StandsBy old n.left fresh key l place value → Becomes old mid child (put key value (flat l)) (put key place (key_cells l)) (both l fresh key place value)) → (s : Shape) (place value : ℕ) → StandsBy old root fresh key s place value → Becomes old new root (put key value (flat s)) (put key place (key_cells s)) (both s fresh key place value)
        hangs_left more nd f leaf place value h = absurd (ne h.lacks.tree.root)
        hangs_left more nd f (node cell l own at v r) place value h =
            hung_left cell l own at v r place value h mid new child ot more (f l place value (by_left cell l own at v r place value h)) nd
