-- Changes of one key.
use Rattle.std.proofs.Common.{◌≡◌, ◌∙◌, ℕ, List, [], ◌∷◌, ◌++◌, Bool, true, ◌&&◌, refl, sym, ap, subst}
use Rattle.std.specs.Prelude.{not}
use Rattle.std.specs.List.{AllByRecursion, list_all}
use Rattle.std.specs.Ordering.{is_gt}
use Rattle.std.specs.Cmp.{IsTotalOrder, tied_itself}
use Rattle.std.proofs.lemmas.Cmp.{nat_list_cmp_total}
use Rattle.kt_history.specs.declared.changes.KeyChange.{KeyChange}
use Rattle.kt_history.specs.Rows.{key_cmp}
use Rattle.kt_merge.specs.Changes.{rises}

abbrev pub AreOf : List ℕ → List KeyChange → Type 0
AreOf q changes = AllByRecursion (λ (c : KeyChange). c.key ≡ q) changes

one_more : (q : List ℕ) (changes : List KeyChange) (c : KeyChange) → AreOf q changes → c.key ≡ q → AreOf q (changes ++ c ∷ [])
one_more q [] c all is = (is, _)
one_more q (d ∷ changes) c all is = (all.0, one_more q changes c all.1 is)

-- and one more
pub one_next : (q : List ℕ) (changes new : List KeyChange) (c : KeyChange) → new ≡ changes ++ c ∷ [] → AreOf q changes → c.key ≡ q → AreOf q new
one_next q changes new c put all is = subst (AreOf q) (sym put) (one_more q changes c all is)

order : IsTotalOrder key_cmp
order = nat_list_cmp_total

both : (a b : Bool) → a ≡ true → b ≡ true → (a && b) ≡ true
both a b p q = ap (λ x. x && b) p ∙ q

-- no key is above itself
not_above : (a b q : List ℕ) → a ≡ q → b ≡ q → not (is_gt (key_cmp a b)) ≡ true
not_above a b q f g =
    ap (λ x. not (is_gt (key_cmp x b))) f ∙ ap (λ x. not (is_gt (key_cmp q x))) g ∙ ap (λ o. not (is_gt o)) (tied_itself order q)

none_below : (q key : List ℕ) (changes : List KeyChange) → key ≡ q → AreOf q changes → list_all (λ (d : KeyChange). not (is_gt (key_cmp key d.key))) changes ≡ true
none_below q key [] is all = refl
none_below q key (c ∷ changes) is all =
    both (not (is_gt (key_cmp key c.key))) (list_all (λ (d : KeyChange). not (is_gt (key_cmp key d.key))) changes) (not_above key c.key q is all.0) (none_below q key changes is all.1)

-- none comes after one of a greater key
pub one_key : (q : List ℕ) (changes : List KeyChange) → AreOf q changes → rises changes ≡ true
one_key q [] all = refl
one_key q (c ∷ changes) all =
    both (list_all (λ (d : KeyChange). not (is_gt (key_cmp c.key d.key))) changes) (rises changes) (none_below q c.key changes all.0 all.1) (one_key q changes all.1)
