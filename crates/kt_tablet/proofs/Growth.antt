-- A store of changes alone is one still when its inserts are filled.
use Rattle.std.proofs.Common.{◌≡◌, ◌-◌, ℕ, zero, suc, Bool, ◌&&◌, List, [], ◌∷◌, take, refl, ap, ◌∙◌, subst, arith}
use Rattle.std.specs.FinMap.Entries.{is_sorted, below_all}
use Rattle.std.specs.Ordering.{is_lt}
use Rattle.kt_history.specs.Rows.{Row, key_cmp}
use Rattle.kt_history.specs.Stores.{Store}
use Rattle.kt_history.specs.Grown.{IsGrown, AllBare, AllGrown}
use Rattle.kt_tablet.specs.Filling.{filled, all_told}

below_filled : (fill : Row) (q : List ℕ) (store : Store) → below_all key_cmp q (filled fill store) ≡ below_all key_cmp q store
below_filled fill q [] = refl
below_filled fill q (r ∷ store) = ap (λ (b : Bool). is_lt (key_cmp q r.0) && b) (below_filled fill q store)

sorted_filled : (fill : Row) (store : Store) → is_sorted key_cmp (filled fill store) ≡ is_sorted key_cmp store
sorted_filled fill [] = refl
sorted_filled fill (r ∷ store) =
    ap (λ (b : Bool). b && is_sorted key_cmp (filled fill store)) (below_filled fill r.0 store)
    ∙ ap (λ (b : Bool). below_all key_cmp r.0 store && b) (sorted_filled fill store)

bare_filled : (fill : Row) (store : Store) → AllBare store → AllBare (filled fill store)
bare_filled fill [] bare = bare
bare_filled fill (r ∷ store) bare = (bare.0, bare_filled fill store bare.1)

grown_filled : (fill : Row) (store : Store) → IsGrown store → IsGrown (filled fill store)
grown_filled fill store grown = record {
  sorted = sorted_filled fill store ∙ grown.sorted;
  bare = bare_filled fill store grown.bare;
}

-- so are all that lie in memory
pub told_grown : (fill : Row) (memory : ℕ) (stores : List Store) → AllGrown (take memory stores) → AllGrown (take memory (all_told fill memory stores))
told_grown fill zero stores grown = grown
told_grown fill (suc memory) [] grown = grown
told_grown fill (suc memory) (s ∷ stores) grown =
    let e : memory ≡ suc memory - 1 = omega arith in
    (grown_filled fill s grown.0, subst (λ (m : ℕ). AllGrown (take memory (all_told fill m stores))) e (told_grown fill memory stores grown.1))
