-- What is appended part by part.
use Rattle.std.proofs.Common.{◌≡◌, ℕ, ◌+◌, ◌<◌, List, [], ◌∷◌, ◌++◌, length, take, get_or, Result, Ok, Err, sym, ◌∙◌, ap, append_assoc}
use Rattle.std.specs.Prelude.{OnOk}
use Rattle.std.specs.List.{flat_map}
use Rattle.std.proofs.lemmas.List.{take_more, append-nil}
use Rattle.std.proofs.lemmas.List.Concat.{flat_map-cons, flat_map-append}

pub joined : (x0 x1 x2 a b : List ℕ) → x1 ≡ x0 ++ a → x2 ≡ x1 ++ b → x2 ≡ x0 ++ (a ++ b)
joined x0 x1 x2 a b first second = second ∙ ap (λ (l : List ℕ). l ++ b) first ∙ append_assoc x0 a b

-- the same where the last part may fail
pub joined_ok : {T E : Type 0} (r : Result T E) (x0 x1 x2 a b : List ℕ) → x1 ≡ x0 ++ a → OnOk r (x2 ≡ x1 ++ b) → OnOk r (x2 ≡ x0 ++ (a ++ b))
joined_ok (Ok t) x0 x1 x2 a b first second = joined x0 x1 x2 a b first second
joined_ok (Err e) x0 x1 x2 a b first second = tt

-- an item more of a list that is spelled one after the other
pub item_more : {X : Type 0} (f : X → List ℕ) (xs : List X) (i : ℕ) (x : X) (out0 out1 out2 front : List ℕ) → i < length xs → x ≡ get_or xs i x → out1 ≡ out0 ++ (front ++ flat_map f (take i xs)) → out2 ≡ out1 ++ f x
    → out2 ≡ out0 ++ (front ++ flat_map f (take (i + 1) xs))
item_more f xs i x out0 out1 out2 front within is so_far put =
    let more : take (i + 1) xs ≡ take i xs ++ x ∷ [] = take_more xs i x within ∙ ap (λ (y : _). take i xs ++ y ∷ []) (sym is) in
    let text : flat_map f (take (i + 1) xs) ≡ flat_map f (take i xs) ++ f x =
    ap (λ (l : List _). flat_map f l) more ∙ flat_map-append f (take i xs) (x ∷ []) ∙ ap (λ (l : List ℕ). flat_map f (take i xs) ++ l) (flat_map-cons f x [] ∙ append-nil (f x)) in
    joined out0 out1 out2 (front ++ flat_map f (take i xs)) (f x) so_far put
    ∙ ap (λ (l : List ℕ). out0 ++ l) (append_assoc front (flat_map f (take i xs)) (f x) ∙ ap (λ (l : List ℕ). front ++ l) (sym text))
