-- REDO files that were merged tell the same.
use Rattle.std.proofs.Common.{◌≡◌, ◌≤◌, ◌<◌, ℕ, [], ◌∷◌, Option, Some, None, Bool, true, false, refl, ap, ◌∙◌, arith, cond}
use Rattle.std.specs.Prelude.{nat_lt}
use Rattle.std.proofs.lemmas.Bool.{le-ltb, ltb-false}
use Rattle.std.proofs.lemmas.Bool.Decides.{nat_tests}
use Rattle.std.proofs.lemmas.List.{append-nil}
use Rattle.kt_history.specs.declared.change.Change.{Change}
use Rattle.kt_history.specs.Rows.{Row}
use Rattle.kt_history.specs.Stores.{Steps}
use Rattle.kt_histlaws.specs.Disks.{hist_of}
use Rattle.kt_rowfiles.specs.Files.{row_under, row_with, records_for, records_in, put_rising, rising, falling}
use Rattle.kt_merge.specs.Minor.{merged_files_tell_the_same}

-- changes of which none lies below the one before it
abbrev FirstUp : ℕ × Change → Steps → Type 0
FirstUp c [] = Unit {0}
FirstUp c (d ∷ steps) = c.0 ≤ d.0

abbrev Up : Steps → Type 0
Up [] = Unit {0}
Up (c ∷ steps) = FirstUp c steps × Up steps

first_put : (b c : ℕ × Change) (steps : Steps) → b.0 ≤ c.0 → FirstUp b steps → FirstUp b (put_rising c steps)
first_put b c [] le first = le
first_put b c (d ∷ steps) le first = elim (nat_lt d.0 c.0) as (λ (x : Bool). FirstUp b (cond x (d ∷ put_rising c steps) (c ∷ d ∷ steps))) [ true ↦ first | false ↦ le ]

put_up : (c : ℕ × Change) (steps : Steps) → Up steps → Up (put_rising c steps)
put_up c [] up = (tt, tt)
put_up c (d ∷ steps) up = elim (nat_lt d.0 c.0) as (λ (x : Bool). nat_lt d.0 c.0 ≡ x → Up (cond x (d ∷ put_rising c steps) (c ∷ d ∷ steps))) [
  | true ↦ λ e. let lt : d.0 < c.0 = grind (arith, nat_tests) in (first_put d c steps (omega arith) up.0, put_up c steps up.1)
  | false ↦ λ e. (ltb-false d.0 c.0 e, up)
] refl

rising_up : (steps : Steps) → Up (rising steps)
rising_up [] = tt
rising_up (c ∷ steps) = put_up c (rising steps) (rising_up steps)

put_first : (c : ℕ × Change) (steps : Steps) → FirstUp c steps → put_rising c steps ≡ c ∷ steps
put_first c [] first = refl
put_first c (d ∷ steps) first = ap (λ (x : Bool). cond x (d ∷ put_rising c steps) (c ∷ d ∷ steps)) (le-ltb d.0 c.0 first)

up_same : (steps : Steps) → Up steps → rising steps ≡ steps
up_same [] up = refl
up_same (c ∷ steps) up = ap (put_rising c) (up_same steps up.1) ∙ put_first c steps up.0

pub twice : (steps : Steps) → rising (rising steps) ≡ rising steps
twice steps = up_same (rising steps) (rising_up steps)

pub merged_same : merged_files_tell_the_same
merged_same d list rows q = by (row_under q 0 d.base)
  where
    by : (o : Option (ℕ × Row)) → row_with (record d { redos = list ∷ [] }) o ≡ row_with d o
    by None = refl
    by (Some found) =
        ap (λ (s : Steps). hist_of (record { base = found.1; undos = falling (records_in found.0 d.undos); redos = s }))
        (ap rising (append-nil (records_for found.0 list) ∙ rows found.0) ∙ twice (records_in found.0 d.redos))
