-- A tree after a change.
use Rattle.std.proofs.Common.{◌≡◌, ◌≢◌, ℕ, ◌+◌, ◌-◌, ◌<◌, ◌≤◌, ◌⊎◌, inl, inr, List, ◌∷◌, length, refl, sym, ap, ◌∙◌, arith, subst, Some, None, Option, length-append}
use Rattle.std.specs.Prelude.{is_some}
use Rattle.std.specs.List.{find}
use Rattle.std.specs.Option.{option_map}
use Rattle.std.proofs.lemmas.Bool.{cases_lt, cases_eq, false≢true}
use Rattle.kt_pool.specs.Contents.{Contents, Stands, at_cell, used, cells_of, cells_for, with_place}
use Rattle.kt_pool.proofs.Callers.{at_same, at_other, size_same, reserved_after}
use Rattle.kt_tree.specs.Entries.{Entry, IsRising, is_at, value_of, put}
use Rattle.kt_tree.specs.Shapes.{nothing, head_of, AreBytes, IsNode, Shape, leaf, node, flat, key_cells, size, count, Holds, IsTreeAt}
use Rattle.kt_tree.specs.Takes.{Takes}
use Rattle.kt_tree.specs.Trees.{shape_of, entries, key_places, place_of, Owns, IsTree, IsNewlyPlaced, need}
use Rattle.kt_tree.specs.Changes.{IsAbsent, Becomes, alone, StandsBy}
use Rattle.kt_tree.specs.declared.tree.Tree.{Tree}
use Rattle.kt_tree.proofs.Orders.{rising_put, length-put_new, length-put_old}
use Rattle.kt_tree.proofs.Places.{one_same, one_other, stands_some, used_after}
use Rattle.kt_tree.proofs.Shapes.{kept, spelled_is, size_small}
use Rattle.kt_tree.proofs.Hanging.{both}
use Rattle.kt_tree.proofs.Keys.{same_keys, none_by, value_stays, value_put}

-- ---- a tree by its form

pub length-flat : (s : Shape) → length (flat s) ≡ size s
length-flat leaf = refl
length-flat (node cell l key place value r) =
    let a = length-flat l in let b = length-flat r in
    length-append (flat l) (record { key = key; value = value } ∷ flat r) ∙ omega arith

pub tree_is : (tree : Tree) (pool : Contents) (s : Shape) → IsTreeAt pool tree.root s → IsRising (flat s) → tree.count ≡ length (flat s) → IsTree tree pool
tree_is tree pool s t rising counted =
    let e = spelled_is pool tree.root s t in
    record {
      stands = subst (IsTreeAt pool tree.root) (sym e) t;
      rising = subst IsRising (sym (ap flat e)) rising;
      counted = counted ∙ ap (λ s. length (flat s)) (sym e);
    }

-- ---- a tree that has become another

module _ (old new : Contents) (tree : Tree) (es ks : List Entry) (own : ℕ → ℕ) (b : Becomes old new tree.root es ks own) (once : (k : ℕ) → own k ≤ 1) where
  pub new_form : IsTreeAt new tree.root b.form
  new_form = record { root = b.root_is; holds = b.holds; apart = λ k. let p = b.places k in let o = once k in omega arith }

  pub new_tree : IsRising es → tree.count ≡ length es → IsTree tree new
  new_tree rising counted = tree_is tree new b.form new_form (subst IsRising (sym b.same) rising) (counted ∙ ap length (sym b.same))

  pub new_entries : entries tree new ≡ es
  new_entries = ap flat (spelled_is new tree.root b.form new_form) ∙ b.same

  pub new_places : key_places tree new ≡ ks
  new_places = ap key_cells (spelled_is new tree.root b.form new_form) ∙ b.same_keys

  pub new_count : (k : ℕ) → count (shape_of tree new) k ≡ own k
  new_count k = ap (λ s. count s k) (spelled_is new tree.root b.form new_form) ∙ b.places k

-- ---- a value that was written over

some_of : (o : Option Entry) (v : ℕ) → option_map (λ (e : Entry). e.value) o ≡ Some v → (e : Entry) × (o ≡ Some e)
some_of None v h = cc
some_of (Some e) v h = (e, refl)

module _ (tree : Tree) (old new : Contents) (key : List ℕ) (v was : ℕ) (t : IsTree tree old) (found : value_of key (entries tree old) ≡ Some was) (b : Becomes old new tree.root (put key v (entries tree old)) (key_places tree old) (count (shape_of tree old))) where
  pub over_tree : IsTree tree new
  over_tree =
      let e = some_of (find (is_at key) (entries tree old)) was found in
      new_tree old new tree (put key v (entries tree old)) (key_places tree old) (count (shape_of tree old)) b t.stands.apart (rising_put key v (entries tree old) t.rising)
      (t.counted ∙ sym (length-put_old key v (entries tree old) e.0 t.rising e.1))

  pub over_entries : entries tree new ≡ put key v (entries tree old)
  over_entries = new_entries old new tree (put key v (entries tree old)) (key_places tree old) (count (shape_of tree old)) b t.stands.apart

  pub over_places : key_places tree new ≡ key_places tree old
  over_places = new_places old new tree (put key v (entries tree old)) (key_places tree old) (count (shape_of tree old)) b t.stands.apart

  -- each key keeps its place
  pub over_stays : (k : List ℕ) (place : ℕ) → place_of k tree old ≡ Some place → place_of k tree new ≡ Some place
  over_stays k place h = ap (value_of k) over_places ∙ h

  over_count : (k : ℕ) → count (shape_of tree new) k ≡ count (shape_of tree old) k
  over_count k = new_count old new tree (put key v (entries tree old)) (key_places tree old) (count (shape_of tree old)) b t.stands.apart k

  pub over_takes : Takes old new 0
  over_takes = let r = b.rewrites in record { size = r.size; reserved = let x = r.reserved in omega arith; used = let x = r.used in omega arith }

  pub over_keeps : (k : ℕ) → Owns tree old k → Owns tree new k
  over_keeps k o = let e = over_count k in omega arith

  pub over_grows : (k : ℕ) → Owns tree new k → Owns tree old k ⊎ (at_cell old k ≡ None)
  over_grows k o = let e = over_count k in inl (omega arith)

  pub over_frame : (k : ℕ) → ¬ Owns tree new k → at_cell new k ≡ at_cell old k
  over_frame k none = let e = over_count k in b.rewrites.frame k (elim (cases_lt 0 (count (shape_of tree new) k)) [ inl some ↦ absurd (none some) | inr zero ↦ omega arith ])

-- ---- a key that was put in

-- the tree's places stand
pub owned_stands : (pool : Contents) (s : Shape) (k : ℕ) → Holds pool s → 0 < count s k → Stands pool k
owned_stands pool leaf k h low = absurd (omega arith)
owned_stands pool (node cell l key place value r) k h low = elim (cases_eq k cell) [
  | inl same ↦ subst (Stands pool) (sym same) h.0.stands
  | inr a ↦ elim (cases_eq k place) [
    | inl same ↦ subst (Stands pool) (sym same) (stands_some pool place key h.1)
    | inr b ↦
        let x = one_other cell k (λ e. a (sym e)) in let y = one_other place k (λ e. b (sym e)) in
        elim (cases_lt 0 (count l k)) [
          | inl more ↦ owned_stands pool l k h.2 more
          | inr none ↦ owned_stands pool r k h.3 (omega arith)
        ]
  ]
]

pub vacant_out : (pool : Contents) (s : Shape) (k : ℕ) → Holds pool s → at_cell pool k ≡ None → count s k ≡ 0
vacant_out pool s k h vacant = elim (cases_lt 0 (count s k)) [
  | inl some ↦ absurd (false≢true (sym (ap is_some vacant) ∙ owned_stands pool s k h some))
  | inr none ↦ omega arith
]

module _ (old p0 p1 p2 : Contents) (tree : Tree) (key : List ℕ) (v at fresh : ℕ) (t : IsTree tree old) (absent : IsAbsent key (entries tree old)) (same : p0 ≡ old) (at_vacant : at_cell p0 at ≡ None) (at_inside : at < length p0.places) (g1 : p1 ≡ with_place p0 at (Some key) (p0.reserved - cells_for (length key))) (fresh_vacant : at_cell p1 fresh ≡ None) (others : (k : ℕ) → k ≢ fresh → at_cell p2 k ≡ at_cell p1 k) (takes : Takes p1 p2 1) (nd : IsNode p2 fresh (record { left = nothing; right = nothing; key = at; value = v; head = head_of key })) (bytes : AreBytes key) where
  s : Shape
  s = shape_of tree old

  p0_at : (k : ℕ) → at_cell p0 k ≡ at_cell old k
  p0_at k = ap (λ p. at_cell p k) same

  key_there : at_cell p1 at ≡ Some key
  key_there = at_same p0 p1 at (Some key) (p0.reserved - cells_for (length key)) g1 at_inside

  fresh_other : at ≢ fresh
  fresh_other e = let h : None ≡ Some key = sym fresh_vacant ∙ ap (at_cell p1) (sym e) ∙ key_there in cc

  fresh_was : at_cell old fresh ≡ None
  fresh_was = sym (p0_at fresh) ∙ sym (at_other p0 p1 at (Some key) (p0.reserved - cells_for (length key)) g1 fresh (λ e. fresh_other (sym e))) ∙ fresh_vacant

  at_was : at_cell old at ≡ None
  at_was = sym (p0_at at) ∙ at_vacant

  still : (k : ℕ) → k ≢ at → k ≢ fresh → at_cell p2 k ≡ at_cell old k
  still k a b = others k b ∙ at_other p0 p1 at (Some key) (p0.reserved - cells_for (length key)) g1 k a ∙ p0_at k

  alone_apart : (k : ℕ) → count (shape_of tree old) k + count (alone fresh key at v) k ≤ 1
  alone_apart k = elim (cases_eq k at) [
    | inl e ↦
        let none = vacant_out old (shape_of tree old) k t.stands.holds (ap (at_cell old) e ∙ at_was) in
        let x = one_same at k (sym e) in let y = one_other fresh k (λ f. fresh_other (sym e ∙ sym f)) in omega arith
    | inr a ↦ elim (cases_eq k fresh) [
      | inl e ↦
          let none = vacant_out old (shape_of tree old) k t.stands.holds (ap (at_cell old) e ∙ fresh_was) in
          let x = one_same fresh k (sym e) in let y = one_other at k (λ f. a (sym f)) in omega arith
      | inr b ↦
          let x = one_other fresh k (λ f. b (sym f)) in let y = one_other at k (λ f. a (sym f)) in let o = t.stands.apart k in omega arith
    ]
  ]

  pub stands_by : StandsBy p2 tree.root fresh key (shape_of tree old) at v
  stands_by = record {
    lacks = record {
      tree = record {
        root = t.stands.root;
        holds = kept old p2 (shape_of tree old) t.stands.holds (λ k low. still k
            (λ e. let none = vacant_out old (shape_of tree old) k t.stands.holds (ap (at_cell old) e ∙ at_was) in absurd (omega arith))
            (λ e. let none = vacant_out old (shape_of tree old) k t.stands.holds (ap (at_cell old) e ∙ fresh_was) in absurd (omega arith)));
        apart = t.stands.apart;
      };
      rising = t.rising;
      absent = absent;
    };
    holds = (nd, others at fresh_other ∙ key_there, tt, tt, bytes);
    apart = alone_apart;
  }

  module _ (p3 : Contents) (after : Tree) (b : Becomes p2 p3 after.root (put key v (entries tree old)) (put key at (key_places tree old)) (both (shape_of tree old) fresh key at v)) where
    -- there are more cells than keys
    pub fewer_keys : tree.count < length p3.places
    fewer_keys =
        let f = new_form p2 p3 after (put key v (entries tree old)) (put key at (key_places tree old)) (both (shape_of tree old) fresh key at v) b alone_apart in
        let n = size_small p3 after.root b.form f in
        let l = length-flat b.form in
        let m : length (flat b.form) ≡ length (put key v (entries tree old)) = ap length b.same in
        let one = length-put_new key v (entries tree old) absent in
        let c = t.counted in
        omega arith

    pub grown_tree : after.count ≡ tree.count + 1 → IsTree after p3
    grown_tree e =
        let one = length-put_new key v (entries tree old) absent in
        let c = t.counted in
        new_tree p2 p3 after (put key v (entries tree old)) (put key at (key_places tree old)) (both (shape_of tree old) fresh key at v) b alone_apart (rising_put key v (entries tree old) t.rising) (omega arith)

    pub grown_entries : entries after p3 ≡ put key v (entries tree old)
    grown_entries = new_entries p2 p3 after (put key v (entries tree old)) (put key at (key_places tree old)) (both (shape_of tree old) fresh key at v) b alone_apart

    grown_places : key_places after p3 ≡ put key at (key_places tree old)
    grown_places = new_places p2 p3 after (put key v (entries tree old)) (put key at (key_places tree old)) (both (shape_of tree old) fresh key at v) b alone_apart

    -- each key keeps its place
    pub grown_stays : (k : List ℕ) (place : ℕ) → place_of k tree old ≡ Some place → place_of k after p3 ≡ Some place
    grown_stays k place h =
        ap (value_of k) grown_places
        ∙ value_stays key k at place (key_places tree old) (none_by key (key_places tree old) (entries tree old) (same_keys (shape_of tree old)) absent) h

    -- and the new one has its own
    pub grown_placed : IsNewlyPlaced old (place_of key after p3)
    grown_placed = record { cell = at; is = ap (value_of key) grown_places ∙ value_put key at (key_places tree old); vacant = at_was }

    grown_count : (k : ℕ) → count (shape_of after p3) k ≡ both (shape_of tree old) fresh key at v k
    grown_count k = new_count p2 p3 after (put key v (entries tree old)) (put key at (key_places tree old)) (both (shape_of tree old) fresh key at v) b alone_apart k

    pub grown_takes : Takes old p3 (need key)
    grown_takes =
        let r = b.rewrites in
        let z1 = size_same p0 p1 at (Some key) (p0.reserved - cells_for (length key)) g1 in
        let r1 = reserved_after p0 p1 at (Some key) (p0.reserved - cells_for (length key)) g1 in
        let u1 = used_after p0 p1 at (Some key) (p0.reserved - cells_for (length key)) g1 at_inside in
        let none : cells_of (at_cell p0 at) ≡ 0 = ap cells_of at_vacant in
        let z0 = ap (λ (p : Contents). length p.places) same in
        let r0 = ap (λ (p : Contents). p.reserved) same in
        let u0 = ap used same in
        record {
          size = r.size ∙ takes.size ∙ z1 ∙ z0;
          reserved = let x = r.reserved in let y = takes.reserved in omega arith;
          used = let x = r.used in let y = takes.used in omega arith;
        }

    pub grown_keeps : (k : ℕ) → Owns tree old k → Owns after p3 k
    grown_keeps k o = let e = grown_count k in omega arith

    pub grown_grows : (k : ℕ) → Owns after p3 k → Owns tree old k ⊎ (at_cell old k ≡ None)
    grown_grows k o =
        let e = grown_count k in
        elim (cases_eq k at) [
          | inl is ↦ inr (ap (at_cell old) is ∙ at_was)
          | inr a ↦ elim (cases_eq k fresh) [
            | inl is ↦ inr (ap (at_cell old) is ∙ fresh_was)
            | inr b ↦ let x = one_other fresh k (λ f. b (sym f)) in let y = one_other at k (λ f. a (sym f)) in inl (omega arith)
          ]
        ]

    pub grown_frame : (k : ℕ) → ¬ Owns after p3 k → at_cell p3 k ≡ at_cell old k
    grown_frame k none =
        let e = grown_count k in
        let zero : count (shape_of after p3) k ≡ 0 = elim (cases_lt 0 (count (shape_of after p3) k)) [ inl some ↦ absurd (none some) | inr zero ↦ omega arith ] in
        b.rewrites.frame k (sym e ∙ zero) ∙ still k
        (λ f. let x = one_same at k (sym f) in absurd (omega arith))
        (λ f. let x = one_same fresh k (sym f) in absurd (omega arith))
