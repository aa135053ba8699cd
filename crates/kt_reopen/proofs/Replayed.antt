-- One record more of a log that is replayed.
use Rattle.std.proofs.Common.{◌≡◌, ℕ, ◌+◌, ◌-◌, ◌<◌, ◌≤◌, List, ◌∷◌, length, drop, get_or, Option, Some, None, true, refl, sym, ap, ◌∙◌, arith}
use Rattle.std.specs.Prelude.{unwrap_or, slice_get}
use Rattle.std.proofs.lemmas.Bool.Decides.{nat_tests}
use Rattle.std.proofs.lemmas.List.{drop_more}
use Rattle.std.proofs.lemmas.Option.{slice_get_read}
use Rattle.kt_records.specs.declared.entry.Entry.{Entry}
use Rattle.kt_journal.specs.Order.{last_ts, is_above}

-- the first of what is left of a list
pub first_left : {A : Type 0} (xs : List A) (i j : ℕ) (x : A) → i < length xs → x ≡ get_or xs i x → j ≡ i + 1 → drop i xs ≡ x ∷ drop j xs
first_left xs i j x lt is e = drop_more xs i x lt ∙ ap (λ y. y ∷ drop (i + 1) xs) (sym is) ∙ ap (λ k. x ∷ drop k xs) (sym e)

-- an element as it is read
pub here_is : {A : Type 0} (xs : List A) (i : ℕ) (x : A) {y : A} → i < length xs → x ≡ get_or xs i x → x ≡ y → slice_get xs i ≡ Some y
here_is xs i x lt is e = slice_get_read xs (length xs) i x refl lt is ∙ ap Some e

-- the timestamp of the newest write, or 0
abbrev pub last_before : List Entry → ℕ
last_before before = unwrap_or (last_ts before) 0

pub below : (last : Option ℕ) (ts : ℕ) → is_above last ts ≡ true → unwrap_or last 0 ≤ ts - 1
below None ts h = omega arith
below (Some last) ts h = grind (arith, nat_tests)
