-- A table that has its own copy of each item.
use Rattle.std.proofs.Common.{◌≡◌, ℕ, ◌+◌, true, false, cond, ◌||◌, List, [], ◌∷◌, ◌++◌, length, map, refl, sym, ap, ◌∙◌, arith, Vec, Global}
use Rattle.std.specs.Prelude.{nat_eq}
use Rattle.std.specs.List.{list_any, flat_map}
use Rattle.std.specs.Cmp.Lexicographic.{pointwise}
use Rattle.std.proofs.lemmas.List.{map_push, length-append}
use Rattle.kt_dict.specs.Spelling.{same, has, with_entry}
use Rattle.kt_dict.specs.Writing.{text}
use Rattle.kt_dict.proofs.Fields.{length-text}

abbrev pub lists : List (Vec ℕ Global) → List (List ℕ)
lists ks = map (λ k. k.items) ks

any_list : (ks : List (Vec ℕ Global)) (x : List ℕ) → list_any (λ k. pointwise nat_eq x k.items) ks ≡ has (lists ks) x
any_list [] x = refl
any_list (k ∷ ks) x = ap (λ b. same x k.items || b) (any_list ks x)

-- an item that is there changes nothing
pub stays : (ks : List (Vec ℕ Global)) (x : List ℕ) → list_any (λ k. pointwise nat_eq x k.items) ks ≡ true → lists ks ≡ with_entry (lists ks) x
stays ks x e = let h : has (lists ks) x ≡ true = sym (any_list ks x) ∙ e in rw h refl

-- a new one goes last
pub pushed : (ks new : List (Vec ℕ Global)) (v : Vec ℕ Global) (x : List ℕ) → list_any (λ k. pointwise nat_eq x k.items) ks ≡ false → v.items ≡ x → new ≡ cond (list_any (λ k. pointwise nat_eq v.items k.items) ks) ks (ks ++ v ∷ []) → lists new ≡ lists ks ++ x ∷ []
pushed ks new v x absent is e =
    let none : list_any (λ k. pointwise nat_eq v.items k.items) ks ≡ false = ap (λ (y : List ℕ). list_any (λ k. pointwise nat_eq y k.items) ks) is ∙ absent in
    let last : new ≡ ks ++ v ∷ [] = e ∙ ap (λ b. cond b ks (ks ++ v ∷ [])) none in
    ap lists last ∙ (map_push (λ (k : Vec ℕ Global). k.items) ks v ∙ ap (λ (y : List ℕ). lists ks ++ y ∷ []) is)

pub is_new : (ks : List (Vec ℕ Global)) (x : List ℕ) → list_any (λ k. pointwise nat_eq x k.items) ks ≡ false → lists ks ++ x ∷ [] ≡ with_entry (lists ks) x
is_new ks x absent = let h : has (lists ks) x ≡ false = sym (any_list ks x) ∙ absent in rw h refl

-- an entry more takes so many bytes more
pub text_more : (ds : List (List ℕ)) (x : List ℕ) → length (flat_map text (ds ++ x ∷ [])) ≡ length (flat_map text ds) + (4 + length x)
text_more [] x = omega (arith, length-append (text x) [], length-text x)
text_more (d ∷ ds) x = omega (arith, length-append (text d) (flat_map text ds), length-append (text d) (flat_map text (ds ++ x ∷ [])), text_more ds x)
