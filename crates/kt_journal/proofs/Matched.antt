-- What a call found, by cases.
use Rattle.std.proofs.Common.{◌≡◌, Option, None, Some, subst}
use Rattle.std.specs.Prelude.{MatchOption}

pub none_found : {T : Type 0} (found : Option T) (P : Type 0) (Q : T → Type 0) → MatchOption found P Q → found ≡ None → P
none_found None P Q h is = h
none_found (Some x) P Q h is = absurd cc

pub some_found : {T : Type 0} (found : Option T) (P : Type 0) (Q : T → Type 0) (x : T) → MatchOption found P Q → found ≡ Some x → Q x
some_found None P Q x h is = absurd cc
some_found (Some y) P Q x h is = subst Q (let e : y ≡ x = cc in e) h
