-- Changes in turn that can be undone.
use Rattle.std.proofs.Common.{◌≡◌, ◌≤◌, ◌<◌, ◌+◌, ℕ, suc, List, ◌∷◌, drop, length, get_or, drop-cons, Option, Some, None, Bool, true, sym, ap, subst, ◌∙◌, arith}
use Rattle.std.proofs.lemmas.List.{drop_all}
use Rattle.kt_history.specs.declared.changes.Delta.{Delta}
use Rattle.std.specs.Prelude.{IsTrue}
use Rattle.kt_history.specs.Rows.{Row, apply, IsRow}
use Rattle.kt_rowfiles.specs.Fitting.{is_row}
use Rattle.kt_rowfiles.specs.Flushing.{AllUndone, IsUndone}
use Rattle.kt_rowfiles.specs.Reading.{steps_in}

pub undone_next : (xs : List Delta) (i : ℕ) (x : Delta) (row row2 : Option Row) (Whole : Type 0) → i < length xs → x ≡ get_or xs i x → IsUndone x.change row → row2 ≡ apply x.change row
    → (AllUndone (steps_in (drop i xs)) row → Whole) → AllUndone (steps_in (drop (i + 1) xs)) row2 → Whole
undone_next xs i x row row2 Whole low is one on whole rest =
    let parts : drop i xs ≡ x ∷ drop (i + 1) xs = drop-cons xs i x low ∙ ap (λ y. y ∷ drop (suc i) xs) (sym is) ∙ (let e : suc i ≡ i + 1 = omega arith in ap (λ k. x ∷ drop k xs) e) in
    whole (subst (λ l. AllUndone (steps_in l) row) (sym parts) (one, subst (AllUndone (steps_in (drop (i + 1) xs))) on rest))

pub undone_over : (xs : List Delta) (i : ℕ) (row : Option Row) (Whole : Type 0) → length xs ≤ i → (AllUndone (steps_in (drop i xs)) row → Whole) → Whole
undone_over xs i row Whole past whole = whole (subst (λ l. AllUndone (steps_in l) row) (sym (drop_all i xs past)) tt)

as_true : (b : Bool) → b ≡ true → IsTrue b
as_true b h = h

pub row_true : (row : Option Row) → is_row row ≡ true → IsRow row
row_true None h = tt
row_true (Some row) h = as_true _ h
