-- A tree that is cut in two.
use Rattle.std.proofs.Common.{◌≡◌, ◌≢◌, ℕ, ◌<◌, true, false, List, [], ◌∷◌, ◌++◌, length, refl, sym, ap, ◌∙◌, arith, subst, append_assoc}
use Rattle.std.specs.Ordering.{is_eq, is_lt}
use Rattle.std.specs.declared.cmp.Ordering.{Ordering}
use Rattle.std.specs.declared.cmp.Ordering.TheVariants.{Less, Equal, Greater}
use Rattle.kt_pool.specs.Contents.{Contents, Stands, bytes_at}
use Rattle.kt_tree.specs.Entries.{order, IsBelow, is_at}
use Rattle.kt_tree.specs.Shapes.{nothing, node_of, head_of, IsNode, Shape, leaf, node, root_of, flat, key_cells, one_at, count, IsTreeAt, Rewrites}
use Rattle.kt_tree.specs.Changes.{Lacks, Splits}
use Rattle.kt_tree.specs.declared.node.Head.{Head}
use Rattle.kt_tree.specs.declared.node.Node.{Node}
use Rattle.kt_tree.proofs.Orders.{below_weaker, above_weaker, below_append, above_append, rising_right, rising_left, rising_below, rising_above, none_left, none_right, none_first, above_is}
use Rattle.kt_tree.proofs.Places.{bytes_same, stands_some, one_same}
use Rattle.kt_tree.proofs.Shapes.{kept, nodes_at, nodes_are, no_tree, left_tree, right_tree, root_says, root_long, key_is}

pub not_less : (o : Ordering) → is_lt o ≡ false → is_eq o ≡ false → o ≡ Greater
not_less Less e f = cc
not_less Equal e f = cc
not_less Greater e f = refl

pub less_is : (o : Ordering) → is_lt o ≡ true → o ≡ Less
less_is Less e = refl
less_is Equal e = cc
less_is Greater e = cc

abbrev pub to_node : ℕ → ℕ → ℕ → ℕ → Head → Node
to_node left right key value head = record { left = left; right = right; key = key; value = value; head = head }

-- the tree below a node, as far as the pool names it
pub moved : (pool : Contents) (a b : ℕ) (s : Shape) → a ≡ b → IsTreeAt pool b s → IsTreeAt pool a s
moved pool a b s e t = record { root = e ∙ t.root; holds = t.holds; apart = t.apart }

-- a tree that begins nowhere is cut in nothing and nothing
pub split_none : (pool : Contents) (root : ℕ) (key : List ℕ) (s : Shape) → root ≡ nothing → Lacks pool root key s → Splits pool pool s key nothing nothing
split_none pool root key s e h =
    let is : s ≡ leaf = no_tree pool root s h.tree e in
    record {
      low = leaf;
      high = leaf;
      low_root = refl;
      high_root = refl;
      low_holds = tt;
      high_holds = tt;
      same = sym (ap flat is);
      same_keys = sym (ap key_cells is);
      same_places = λ k. sym (ap (λ s. count s k) is);
      below = tt;
      above = tt;
      rewrites = record { size = refl; reserved = refl; used = refl; frame = λ k none. refl };
    }

module _ (old : Contents) (root : ℕ) (key : List ℕ) (n : Node) (read : n ≡ node_of (bytes_at old root)) where
  module _ (cell : ℕ) (l : Shape) (own : List ℕ) (place value : ℕ) (r : Shape) (h : Lacks old root key (node cell l own place value r)) where
    says : n ≡ record { left = root_of l; right = root_of r; key = place; value = value; head = head_of own }
    says = read ∙ root_says old root cell l own place value r h.tree

    -- the order that was read is that of the node's key
    pub own_order : order (bytes_at old n.key) key ≡ order own key
    own_order = ap (λ (m : Node). order (bytes_at old m.key) key) says ∙ ap (λ b. order b key) (key_is old root cell l own place value r h.tree)

    pub own_other : is_eq (order own key) ≡ false
    own_other = none_first (is_at key) (record { key = own; value = value }) (flat r) (none_right (is_at key) (flat l) (record { key = own; value = value } ∷ flat r) h.absent)

    pub lacks_right : Lacks old n.right key r
    lacks_right = record {
      tree = moved old n.right (root_of r) r (ap (λ (m : Node). m.right) says) (right_tree old root cell l own place value r h.tree);
      rising = (rising_right (flat l) (record { key = own; value = value } ∷ flat r) h.rising).1;
      absent = none_right (is_at key) (record { key = own; value = value } ∷ []) (flat r) (none_right (is_at key) (flat l) (record { key = own; value = value } ∷ flat r) h.absent);
    }

    pub lacks_left : Lacks old n.left key l
    lacks_left = record {
      tree = moved old n.left (root_of l) l (ap (λ (m : Node). m.left) says) (left_tree old root cell l own place value r h.tree);
      rising = rising_left (flat l) (record { key = own; value = value } ∷ flat r) h.rising;
      absent = none_left (is_at key) (flat l) (record { key = own; value = value } ∷ flat r) h.absent;
    }

    -- the root's own cell is in neither half
    pub root_alone : (count l root ≡ 0) × (count r root ≡ 0)
    root_alone = let a = h.tree.apart root in let b = one_same cell root (sym h.tree.root) in (omega arith, omega arith)

    module _ (mid new : Contents) (lo hi : ℕ) where
      -- the cut goes on at the right
      pub split_right : order (bytes_at old n.key) key ≡ Less → Splits old mid r key lo hi → IsNode new root (to_node n.left lo n.key n.value n.head) → Rewrites mid new (one_at root) → Splits old new (node cell l own place value r) key root hi
      split_right less sp nd ot =
          let t = h.tree in
          let is_root = λ (k : ℕ). ap (λ c. one_at c k) t.root in
          let same_at = λ (k : ℕ) (a : one_at root k ≡ 0) (b : count r k ≡ 0). ot.frame k a ∙ sp.rewrites.frame k b in
          let low_node = node cell l own place value sp.low in
          let P : Node → Type 0 = λ m. IsNode new cell m in
          let as_node : to_node n.left lo n.key n.value n.head ≡ to_node (root_of l) (root_of sp.low) place value (head_of own) =
          ap (λ (m : Node). to_node m.left lo m.key m.value m.head) says ∙ ap (λ x. to_node (root_of l) x place value (head_of own)) sp.low_root in
          let is_below : IsBelow own key = sym own_order ∙ less in
          let one = one_same place place refl in
          record {
            low = low_node;
            high = sp.high;
            low_root = t.root;
            high_root = sp.high_root;
            low_holds = (
              subst P as_node (subst (λ c. IsNode new c (to_node n.left lo n.key n.value n.head)) t.root nd),
              same_at place (let a = t.apart place in let b = is_root place in omega arith) (let a = t.apart place in omega arith) ∙ t.holds.1,
              kept old new l t.holds.2 (λ k low. let a = t.apart k in let b = is_root k in same_at k (omega arith) (omega arith)),
              kept mid new sp.low sp.low_holds (λ k low. let a = t.apart k in let b = is_root k in let c = sp.same_places k in ot.frame k (omega arith)),
              t.holds.4,
            );
            high_holds = kept mid new sp.high sp.high_holds (λ k low. let a = t.apart k in let b = is_root k in let c = sp.same_places k in ot.frame k (omega arith));
            same = append_assoc (flat l) (record { key = own; value = value } ∷ flat sp.low) (flat sp.high) ∙ ap (λ es. flat l ++ record { key = own; value = value } ∷ es) sp.same;
            same_keys = append_assoc (key_cells l) (record { key = own; value = place } ∷ key_cells sp.low) (key_cells sp.high) ∙ ap (λ es. key_cells l ++ record { key = own; value = place } ∷ es) sp.same_keys;
            same_places = λ k. let c = sp.same_places k in omega arith;
            below = below_append key (flat l) (record { key = own; value = value } ∷ flat sp.low) (below_weaker own key (flat l) is_below (rising_below (flat l) (record { key = own; value = value }) (flat r) h.rising)) (is_below, sp.below);
            above = sp.above;
            rewrites = record {
              size = ot.size ∙ sp.rewrites.size;
              reserved = ot.reserved ∙ sp.rewrites.reserved;
              used = ot.used ∙ sp.rewrites.used;
              frame = λ k none. let b = is_root k in same_at k (omega arith) (omega arith);
            };
          }

      -- the cut goes on at the left
      pub split_left : is_lt (order (bytes_at old n.key) key) ≡ false → Splits old mid l key lo hi → IsNode new root (to_node hi n.right n.key n.value n.head) → Rewrites mid new (one_at root) → Splits old new (node cell l own place value r) key lo root
      split_left more sp nd ot =
          let t = h.tree in
          let is_root = λ (k : ℕ). ap (λ c. one_at c k) t.root in
          let same_at = λ (k : ℕ) (a : one_at root k ≡ 0) (b : count l k ≡ 0). ot.frame k a ∙ sp.rewrites.frame k b in
          let P : Node → Type 0 = λ m. IsNode new cell m in
          let as_node : to_node hi n.right n.key n.value n.head ≡ to_node (root_of sp.high) (root_of r) place value (head_of own) =
          ap (λ (m : Node). to_node hi m.right m.key m.value m.head) says ∙ ap (λ x. to_node x (root_of r) place value (head_of own)) sp.high_root in
          let is_above : IsBelow key own = above_is own key (not_less (order own key) (sym (ap is_lt own_order) ∙ more) own_other) in
          let one = one_same place place refl in
          record {
            low = sp.low;
            high = node cell sp.high own place value r;
            low_root = sp.low_root;
            high_root = t.root;
            low_holds = kept mid new sp.low sp.low_holds (λ k low. let a = t.apart k in let b = is_root k in let c = sp.same_places k in ot.frame k (omega arith));
            high_holds = (
              subst P as_node (subst (λ c. IsNode new c (to_node hi n.right n.key n.value n.head)) t.root nd),
              same_at place (let a = t.apart place in let b = is_root place in omega arith) (let a = t.apart place in omega arith) ∙ t.holds.1,
              kept mid new sp.high sp.high_holds (λ k low. let a = t.apart k in let b = is_root k in let c = sp.same_places k in ot.frame k (omega arith)),
              kept old new r t.holds.3 (λ k low. let a = t.apart k in let b = is_root k in same_at k (omega arith) (omega arith)),
              t.holds.4,
            );
            same = sym (append_assoc (flat sp.low) (flat sp.high) (record { key = own; value = value } ∷ flat r)) ∙ ap (λ es. es ++ record { key = own; value = value } ∷ flat r) sp.same;
            same_keys = sym (append_assoc (key_cells sp.low) (key_cells sp.high) (record { key = own; value = place } ∷ key_cells r)) ∙ ap (λ es. es ++ record { key = own; value = place } ∷ key_cells r) sp.same_keys;
            same_places = λ k. let c = sp.same_places k in omega arith;
            below = sp.below;
            above = above_append key (flat sp.high) (record { key = own; value = value } ∷ flat r) sp.above (is_above, above_weaker own key (flat r) is_above (rising_above (flat l) (record { key = own; value = value }) (flat r) h.rising));
            rewrites = record {
              size = ot.size ∙ sp.rewrites.size;
              reserved = ot.reserved ∙ sp.rewrites.reserved;
              used = ot.used ∙ sp.rewrites.used;
              frame = λ k none. let b = is_root k in same_at k (omega arith) (omega arith);
            };
          }

  module _ (ne : root ≢ nothing) where
    pub right_there : (s : Shape) → Lacks old root key s → (r : Shape) × Lacks old n.right key r
    right_there leaf h = absurd (ne h.tree.root)
    right_there (node cell l own place value r) h = (r, lacks_right cell l own place value r h)

    pub left_there : (s : Shape) → Lacks old root key s → (l : Shape) × Lacks old n.left key l
    left_there leaf h = absurd (ne h.tree.root)
    left_there (node cell l own place value r) h = (l, lacks_left cell l own place value r h)

    pub fewer_right : (s : Shape) → Lacks old root key s → nodes_at old n.right < nodes_at old root
    fewer_right leaf h = absurd (ne h.tree.root)
    fewer_right (node cell l own place value r) h =
        let a = nodes_are old root (node cell l own place value r) h.tree in
        let b = nodes_are old n.right r (lacks_right cell l own place value r h).tree in
        omega arith

    pub fewer_left : (s : Shape) → Lacks old root key s → nodes_at old n.left < nodes_at old root
    fewer_left leaf h = absurd (ne h.tree.root)
    fewer_left (node cell l own place value r) h =
        let a = nodes_are old root (node cell l own place value r) h.tree in
        let b = nodes_are old n.left l (lacks_left cell l own place value r h).tree in
        omega arith

    module _ (mid : Contents) (lo hi : ℕ) where
      pub long_right : (s : Shape) → Lacks old root key s → ((r : Shape) → Lacks old n.right key r → Splits old mid r key lo hi) → length (bytes_at mid root) ≡ 24
      long_right leaf h f = absurd (ne h.tree.root)
      long_right (node cell l own place value r) h f =
          let sp = f r (lacks_right cell l own place value r h) in
          ap length (bytes_same old mid root (sp.rewrites.frame root (root_alone cell l own place value r h).1)) ∙ root_long old root cell l own place value r h.tree

      pub long_left : (s : Shape) → Lacks old root key s → ((l : Shape) → Lacks old n.left key l → Splits old mid l key lo hi) → length (bytes_at mid root) ≡ 24
      long_left leaf h f = absurd (ne h.tree.root)
      long_left (node cell l own place value r) h f =
          let sp = f l (lacks_left cell l own place value r h) in
          ap length (bytes_same old mid root (sp.rewrites.frame root (root_alone cell l own place value r h).0)) ∙ root_long old root cell l own place value r h.tree

      module _ (new : Contents) (ot : Rewrites mid new (one_at root)) where
        pub splits_right : order (bytes_at old n.key) key ≡ Less → IsNode new root (to_node n.left lo n.key n.value n.head) → ((r : Shape) → Lacks old n.right key r → Splits old mid r key lo hi) → (s : Shape) → Lacks old root key s → Splits old new s key root hi
        splits_right less nd f leaf h = absurd (ne h.tree.root)
        splits_right less nd f (node cell l own place value r) h = split_right cell l own place value r h mid new lo hi less (f r (lacks_right cell l own place value r h)) nd ot

        pub splits_left : is_lt (order (bytes_at old n.key) key) ≡ false → IsNode new root (to_node hi n.right n.key n.value n.head) → ((l : Shape) → Lacks old n.left key l → Splits old mid l key lo hi) → (s : Shape) → Lacks old root key s → Splits old new s key lo root
        splits_left more nd f leaf h = absurd (ne h.tree.root)
        splits_left more nd f (node cell l own place value r) h = split_left cell l own place value r h mid new lo hi more (f l (lacks_left cell l own place value r h)) nd ot

-- a tree's node has its length, where there is one
pub long_there : (pool : Contents) (root : ℕ) (s : Shape) → root ≢ nothing → IsTreeAt pool root s → length (bytes_at pool root) ≡ 24
long_there pool root leaf ne t = absurd (ne t.root)
long_there pool root (node cell l own place value r) ne t = root_long pool root cell l own place value r t

pub small_there : (pool : Contents) (root : ℕ) (s : Shape) → root ≢ nothing → IsTreeAt pool root s → root < nothing
small_there pool root leaf ne t = absurd (ne t.root)
small_there pool root (node cell l own place value r) ne t = let i = t.holds.0.inside in let e = t.root in omega arith

-- the key that the node names is there
pub key_there : (pool : Contents) (root : ℕ) (s : Shape) (n : Node) → root ≢ nothing → n ≡ node_of (bytes_at pool root) → IsTreeAt pool root s → Stands pool n.key
key_there pool root leaf n ne read t = absurd (ne t.root)
key_there pool root (node cell l own place value r) n ne read t = subst (Stands pool) (sym (ap (λ (m : Node). m.key) (read ∙ root_says pool root cell l own place value r t))) (stands_some pool place own t.holds.1)
