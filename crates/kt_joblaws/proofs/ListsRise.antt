-- What is listed of stores stands by rising key.
use Rattle.std.proofs.Common.{◌≡◌, ℕ, List, [], ◌∷◌, ◌++◌, true, map, refl}
use Rattle.std.specs.Prelude.{not, nat_le}
use Rattle.std.specs.List.{filter, list_all}
use Rattle.std.specs.Ordering.{is_eq, is_lt, is_gt}
use Rattle.std.specs.declared.cmp.Ordering.{Ordering}
use Rattle.std.specs.declared.cmp.Ordering.TheVariants.{Less, Equal, Greater}
use Rattle.std.specs.FinMap.Entries.{below_all, is_sorted}
use Rattle.kt_base.proofs.Values.{both, both_true}
use Rattle.kt_history.specs.declared.change.Change.{Change}
use Rattle.kt_history.specs.declared.changes.KeyChange.{KeyChange}
use Rattle.kt_history.specs.Rows.{key_cmp}
use Rattle.kt_history.specs.Stores.{Steps, Store, key_change, changes_upto}
use Rattle.kt_histlaws.proofs.Pending.{itself}
use Rattle.kt_merge.specs.Changes.{rises}
use Rattle.kt_joblaws.specs.Outputs.{lists_rise}

-- no key is below this one
abbrev NotBelow : List ℕ → List KeyChange → Type 0
NotBelow k changes = list_all (λ (d : KeyChange). not (is_gt (key_cmp k d.key))) changes ≡ true

not_above : (o : Ordering) → is_lt o ≡ true → not (is_gt o) ≡ true
not_above Less h = refl
not_above Equal h = refl
not_above Greater h = cc

not_equal : (o : Ordering) → is_eq o ≡ true → not (is_gt o) ≡ true
not_equal Less h = refl
not_equal Equal h = refl
not_equal Greater h = cc

one_key : (k key : List ℕ) (steps : Steps) (more : List KeyChange) → not (is_gt (key_cmp k key)) ≡ true → NotBelow k more → NotBelow k (map (key_change key) steps ++ more)
one_key k key [] more here rest = rest
one_key k key (c ∷ steps) more here rest =
    both (not (is_gt (key_cmp k key))) (list_all (λ (d : KeyChange). not (is_gt (key_cmp k d.key))) (map (key_change key) steps ++ more)) here (one_key k key steps more here rest)

behind : (bound : ℕ) (k : List ℕ) (store : Store) → below_all key_cmp k store ≡ true → NotBelow k (changes_upto bound store)
behind bound k [] below = refl
behind bound k (r ∷ store) below =
    let parts = both_true (is_lt (key_cmp k r.0)) (below_all key_cmp k store) below in
    one_key k r.0 (filter (λ (c : ℕ × Change). nat_le c.0 bound) r.1.steps) (changes_upto bound store) (not_above (key_cmp k r.0) parts.0) (behind bound k store parts.1)

one_row : (k : List ℕ) (steps : Steps) (more : List KeyChange) → NotBelow k more → rises more ≡ true → rises (map (key_change k) steps ++ more) ≡ true
one_row k [] more low rest = rest
one_row k (c ∷ steps) more low rest =
    both (list_all (λ (d : KeyChange). not (is_gt (key_cmp k d.key))) (map (key_change k) steps ++ more)) (rises (map (key_change k) steps ++ more))
    (one_key k k steps more (not_equal (key_cmp k k) (itself k)) low) (one_row k steps more low rest)

one_rises : (bound : ℕ) (store : Store) → is_sorted key_cmp store ≡ true → rises (changes_upto bound store) ≡ true
one_rises bound [] sorted = refl
one_rises bound (r ∷ store) sorted =
    let parts = both_true (below_all key_cmp r.0 store) (is_sorted key_cmp store) sorted in
    one_row r.0 (filter (λ (c : ℕ × Change). nat_le c.0 bound) r.1.steps) (changes_upto bound store) (behind bound r.0 store parts.0) (one_rises bound store parts.1)

pub they_rise : lists_rise
they_rise bound [] grown = tt
they_rise bound (store ∷ stores) grown = (one_rises bound store grown.0.sorted, they_rise bound stores grown.1)
