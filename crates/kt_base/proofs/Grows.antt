-- What is told grows by nothing, and by one part after another.
use Rattle.std.proofs.Common.{List, [], ◌++◌, Option, Some, None, sym, ap, ◌∙◌, append_assoc}
use mathlib.Core.List.{append-nil}
use Rattle.kt_base.specs.Causes.{Grows}

pub grows_none : {A : Type 0} (told : Option (List A)) → Grows told told []
grows_none None = tt
grows_none (Some xs) = sym (append-nil xs)

pub grows_more : {A : Type 0} (a b c : Option (List A)) (xs ys : List A) → Grows a b xs → Grows b c ys → Grows a c (xs ++ ys)
grows_more None None None xs ys g h = tt
grows_more None None (Some cs) xs ys g h = h
grows_more None (Some bs) None xs ys g h = absurd g
grows_more None (Some bs) (Some cs) xs ys g h = absurd g
grows_more (Some olds) None None xs ys g h = tt
grows_more (Some olds) (Some bs) None xs ys g h = tt
grows_more (Some olds) None (Some cs) xs ys g h = absurd h
grows_more (Some olds) (Some bs) (Some cs) xs ys g h = h ∙ ap (λ l. l ++ ys) g ∙ append_assoc olds xs ys
