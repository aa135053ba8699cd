-- All changes, one after the other.
use Rattle.std.proofs.Common.{◌≡◌, ℕ, ◌+◌, ◌≤◌, List, [], ◌∷◌, ◌++◌, length, map, Some, None, refl, sym, ap, subst, ◌∙◌, append_assoc, arith, length-append}
use Rattle.std.specs.Prelude.{nat_le}
use Rattle.std.specs.List.{AllByRecursion}
use Rattle.std.proofs.lemmas.List.{append-nil, map-append}
use Rattle.std.proofs.lemmas.List.Elements.{filter-append}
use Rattle.kt_history.specs.declared.changes.Delta.{Delta}
use Rattle.kt_pool.specs.Contents.{Contents}
use Rattle.kt_tree.specs.Entries.{Entry}
use Rattle.kt_tree.specs.InOrder.{IsWalk, IsFirst, to_come}
use Rattle.kt_tree.specs.Trees as trees
use Rattle.kt_tree.specs.declared.tree.Pair.{Pair}
use Rattle.kt_tree.specs.declared.tree.Tree.{Tree}
use Rattle.kt_tree.specs.declared.walk.Walk.{Walk}
use Rattle.kt_tree.proofs.Places.{bytes_some}
use Rattle.kt_dms.specs.Stores.{delta_at, deltas_in, deltas_upto, IsEntry, IsHeld}
use Rattle.kt_dms.specs.Walks.{Walks}
use Rattle.kt_dms.proofs.Frames.{each_right}
use Rattle.kt_dms.proofs.OneRow.{read_entry}

pub walk_starts : (tree : Tree) (pool : Contents) (upto : ℕ) (walk : Walk) (old : List Delta) → IsWalk walk pool → to_come walk pool ≡ trees.entries tree pool → Walks tree pool upto walk 0 old old
walk_starts tree pool upto walk old w all = record { stands = w; front = []; is = sym all; count = refl; listed = sym (append-nil old) }

module _ (tree : Tree) (pool : Contents) (st : IsHeld tree pool) (upto n : ℕ) (p : Pair) (walk new : Walk) (first : IsFirst pool (Some p) (to_come walk pool) (to_come new pool)) (old now : List Delta) (w : Walks tree pool upto walk n old now) where
  entries_are : trees.entries tree pool ≡ w.front ++ first.0 ∷ to_come new pool
  entries_are = w.is ∙ ap (λ rest. w.front ++ rest) first.1

  entry_is : read_entry pool p ≡ first.0
  entry_is =
      ap (λ k. record { key = k; value = p.value.cell }) (bytes_some pool p.key.cell first.0.key first.2.key)
      ∙ ap (λ v. record { key = first.0.key; value = v }) first.2.value

  pub entry_stands : IsEntry pool (read_entry pool p)
  entry_stands = subst (IsEntry pool) (sym entry_is) (each_right (IsEntry pool) w.front (first.0 ∷ to_come new pool) (subst (AllByRecursion (IsEntry pool)) entries_are st.each)).0

  pub walk_next : IsWalk new pool → (now2 : List Delta) → now2 ≡ now ++ deltas_upto upto (delta_at pool (read_entry pool p) ∷ []) → Walks tree pool upto new (n + 1) old now2
  walk_next stands now2 more =
      let count = w.count in
      record {
        stands = stands;
        front = w.front ++ first.0 ∷ [];
        is = entries_are ∙ sym (append_assoc w.front (first.0 ∷ []) (to_come new pool));
        count = omega (arith, length-append w.front (first.0 ∷ []));
        listed =
            more ∙ ap (λ e. now ++ deltas_upto upto (delta_at pool e ∷ [])) entry_is ∙ ap (λ xs. xs ++ deltas_upto upto (delta_at pool first.0 ∷ [])) w.listed
            ∙ append_assoc old (deltas_upto upto (map (delta_at pool) w.front)) (deltas_upto upto (delta_at pool first.0 ∷ []))
            ∙ ap (λ xs. old ++ xs) (sym (filter-append (λ (d : Delta). nat_le d.ts upto) (map (delta_at pool) w.front) (delta_at pool first.0 ∷ [])) ∙ ap (deltas_upto upto) (sym (map-append (delta_at pool) w.front (first.0 ∷ []))));
      }

module _ (tree : Tree) (pool : Contents) (upto n : ℕ) (walk : Walk) (old now : List Delta) (w : Walks tree pool upto walk n old now) where
  all_by : to_come walk pool ≡ [] → now ≡ old ++ deltas_upto upto (deltas_in tree pool)
  all_by none = w.listed ∙ ap (λ es. old ++ deltas_upto upto (map (delta_at pool) es)) (sym (append-nil w.front) ∙ ap (λ rest. w.front ++ rest) (sym none) ∙ sym w.is)

  nil_of : (rest : List Entry) → length rest ≡ 0 → rest ≡ []
  nil_of [] h = refl
  nil_of (e ∷ es) h = absurd (omega arith)

  pub walk_breaks : (new : Walk) → IsFirst pool None (to_come walk pool) (to_come new pool) → now ≡ old ++ deltas_upto upto (deltas_in tree pool)
  walk_breaks new first = all_by first.0

  pub walk_ends : (len : ℕ) → len ≡ length (trees.entries tree pool) → len ≤ n → now ≡ old ++ deltas_upto upto (deltas_in tree pool)
  walk_ends len e low = all_by (nil_of (to_come walk pool) (let a = ap length w.is in let c = w.count in omega (arith, length-append w.front (to_come walk pool))))
