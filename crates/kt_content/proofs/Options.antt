-- Options, lists of them, and results.
use Rattle.std.proofs.Common.{◌≡◌, Some, None, Option, Ok, Result, refl, true}
use Rattle.std.specs.Prelude.{is_some}
pub use Rattle.kt_rowfiles.proofs.Options.{or_none, one_alone, at_most_of_none, at_most_rest, as_T}

pub is_there : {A : Type 0} (o : Option A) → is_some o ≡ true → (x : A) × (o ≡ Some x)
is_there None h = absurd (cc)
is_there (Some x) h = (x, refl)

pub two_oks : {A E : Type 0} (x : Result A E) (a b : A) → x ≡ Ok a → x ≡ Ok b → a ≡ b
two_oks x a b e f = cc
