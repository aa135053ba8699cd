-- Changes in turn, each with its UNDO record.
use Rattle.std.proofs.Common.{◌≡◌, ◌<◌, ◌≤◌, ◌+◌, ◌-◌, ℕ, zero, suc, List, [], ◌∷◌, ◌++◌, reverse, length, get_or, take, drop, Option, Some, cond, refl, sym, ap, ◌∙◌, drop-cons, arith}
use Rattle.std.specs.Prelude.{nat_lt}
use Rattle.std.proofs.lemmas.List.{reverse-append, map-append, length-map, drop_all}
use Rattle.kt_history.specs.declared.changes.Delta.{Delta}
use Rattle.kt_history.specs.Rows.{Row, apply, undo}
use Rattle.kt_history.specs.Stores.{Steps}
use Rattle.kt_rowfiles.specs.Reading.{step_in, steps_in}
use Rattle.kt_rowfiles.specs.Flushing.{after_all, undone}
use Rattle.std.specs.Option.{option_map}
use Rattle.kt_histlaws.specs.Disks.{DiskRow}
use Rattle.kt_rowfiles.proofs.TakenSteps.{steps-reverse}
use Rattle.kt_merge.specs.Rows.{but_last, redos_of}

rest_is : {X : Type 0} (xs : List X) (i : ℕ) (x : X) → i < length xs → x ≡ get_or xs i x → drop i xs ≡ x ∷ drop (i + 1) xs
rest_is xs i x low is = drop-cons xs i x low ∙ ap (λ y. y ∷ drop (suc i) xs) (sym is) ∙ (let e : suc i ≡ i + 1 = omega arith in ap (λ k. x ∷ drop k xs) e)

-- a record that comes last is the first from the end
pub pushed_last : (xs : List Delta) (d : Delta) → reverse (steps_in (xs ++ d ∷ [])) ≡ step_in d ∷ reverse (steps_in xs)
pushed_last xs d = ap reverse (map-append step_in xs (d ∷ [])) ∙ reverse-append (steps_in xs) (step_in d ∷ [])

module _ (j : ℕ) (xs : List Delta) (i : ℕ) (row : Option Row) where
  pub row_next : (x : Delta) (row2 whole : Option Row) → i < length xs → x ≡ get_or xs i x → row2 ≡ apply x.change row → after_all (steps_in (drop i xs)) row ≡ whole → after_all (steps_in (drop (i + 1) xs)) row2 ≡ whole
  row_next x row2 whole low is e so = ap (after_all (steps_in (drop (i + 1) xs))) e ∙ sym (ap (λ (ys : List Delta). after_all (steps_in ys) row) (rest_is xs i x low is)) ∙ so

  pub undos_next : (x : Delta) (row2 : Option Row) (made made2 whole : Steps) → i < length xs → x ≡ get_or xs i x → row2 ≡ apply x.change row
      → made2 ≡ cond (nat_lt j x.ts) ((x.ts, undo x.change row) ∷ made) made → undone j (steps_in (drop i xs)) row made ≡ whole → undone j (steps_in (drop (i + 1) xs)) row2 made2 ≡ whole
  undos_next x row2 made made2 whole low is e f so =
      ap (λ (r : Option Row). undone j (steps_in (drop (i + 1) xs)) r made2) e
      ∙ ap (undone j (steps_in (drop (i + 1) xs)) (apply x.change row)) f
      ∙ sym (ap (λ (ys : List Delta). undone j (steps_in ys) row made) (rest_is xs i x low is)) ∙ so

  pub row_over : (whole : Option Row) → length xs ≤ i → after_all (steps_in (drop i xs)) row ≡ whole → row ≡ whole
  row_over whole past so = sym (ap (λ (ys : List Delta). after_all (steps_in ys) row) (drop_all i xs past)) ∙ so

  pub undos_over : (made whole : Steps) → length xs ≤ i → undone j (steps_in (drop i xs)) row made ≡ whole → made ≡ whole
  undos_over made whole past so = sym (ap (λ (ys : List Delta). undone j (steps_in ys) row made) (drop_all i xs past)) ∙ so

-- ---- the ends of lists

steps-take : (n : ℕ) (xs : List Delta) → steps_in (take n xs) ≡ take n (steps_in xs)
steps-take zero xs = refl
steps-take (suc n) [] = refl
steps-take (suc n) (x ∷ xs) = ap (λ (l : Steps). step_in x ∷ l) (steps-take n xs)

pub front_is : (xs : List Delta) (n : ℕ) → n ≡ length xs - 1 → steps_in (take n xs) ≡ but_last (steps_in xs)
front_is xs n e = steps-take n xs ∙ (let long : length (steps_in xs) ≡ length xs = length-map xs step_in in let same : n ≡ length (steps_in xs) - 1 = omega arith in ap (λ (k : ℕ). take k (steps_in xs)) same)

-- a row that is there after all changes, with its UNDO records
abbrev pub told : Option ℕ → Steps → Row → DiskRow
told deleted undos base = record { base = base; undos = undos; redos = redos_of deleted }

pub row_is : (j : ℕ) (steps : Steps) (first row : Option Row) (deleted : Option ℕ) (base : Row) (none made undos : List Delta) → row ≡ Some base → row ≡ after_all steps first
    → none ≡ [] → reverse (steps_in made) ≡ undone j steps first (reverse (steps_in none)) → undos ≡ reverse made
    → Some (told deleted (steps_in undos) base) ≡ option_map (told deleted (undone j steps first [])) (after_all steps first)
row_is j steps first row deleted base none made undos there after empty so back =
    ap (λ (u : Steps). Some (told deleted u base)) (ap steps_in back ∙ steps-reverse made ∙ so ∙ ap (λ (l : List Delta). undone j steps first (reverse (steps_in l))) empty)
    ∙ sym (ap (option_map (told deleted (undone j steps first []))) (sym after ∙ there))
