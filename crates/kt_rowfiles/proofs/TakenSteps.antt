-- What a job takes of a row's changes.
use Rattle.std.proofs.Common.{◌≡◌, ◌≤◌, ◌<◌, ◌+◌, ℕ, inl, inr, Bool, true, false, cond, Bor, List, [], ◌∷◌, ◌++◌, drop, length, get_or, append_assoc, reverse, Option, refl, sym, ap, ◌∙◌, arith}
use Rattle.std.specs.Prelude.{nat_lt, nat_le, ◌&&◌}
use Rattle.std.proofs.lemmas.Bool.{cases_lt, lt-ltb, le-ltb}
use Rattle.std.proofs.lemmas.List.{append-nil, drop_all, reverse-append, map-append}
use Rattle.std.proofs.lemmas.List.Elements.{filter-append}
use Rattle.kt_history.specs.declared.change.Change.{Change}
use Rattle.kt_history.specs.declared.changes.Delta.{Delta}
use Rattle.kt_history.specs.Rows.{Row, apply, undo}
use Rattle.kt_history.specs.Stores.{Steps, after_steps}
use Rattle.kt_histlaws.specs.Disks.{back, led_over, AreUndos}
use Rattle.kt_rowfiles.specs.Reading.{step_in, steps_in}
use Rattle.kt_rowfiles.specs.Records.{steps_at}
use Rattle.kt_rowfiles.specs.Taking.{lies_in, spanned, led_one, led_in}
use Rattle.kt_rowfiles.specs.declared.taking.Span.{Span}
use Rattle.kt_rowfiles.proofs.Ordered.{rest_is}

module _ (span : Span) where
  pub spanned-append : (xs ys : Steps) → spanned span (xs ++ ys) ≡ spanned span xs ++ spanned span ys
  spanned-append xs ys = filter-append (λ (c : ℕ × Change). lies_in span c.0) xs ys

  -- one change more
  taken_next : (x : ℕ × Change) (rest whole old new : Steps) → new ≡ old ++ spanned span (x ∷ []) → old ++ spanned span (x ∷ rest) ≡ whole → new ++ spanned span rest ≡ whole
  taken_next x rest whole old new e so =
      ap (λ (l : Steps). l ++ spanned span rest) e ∙ append_assoc old (spanned span (x ∷ [])) (spanned span rest)
      ∙ ap (λ (l : Steps). old ++ l) (sym (spanned-append (x ∷ []) rest)) ∙ so

  -- one UNDO record more, behind which stand older ones
  led_next : (u : ℕ × Change) (rest : Steps) (row row2 : Option Row) (old new whole : Steps) → row2 ≡ back span.mark (u ∷ []) row → new ≡ led_in span (u ∷ []) row ++ old
      → led_in span (u ∷ rest) row ++ old ≡ whole → led_in span rest row2 ++ new ≡ whole
  led_next u rest row row2 old new whole e f so =
      ap (λ (r : Option Row). led_in span rest r ++ new) e ∙ ap (λ (l : Steps). led_in span rest (back span.mark (u ∷ []) row) ++ l) f ∙ by (nat_lt span.mark u.0) ∙ so
    where
      by : (b : Bool) → led_in span rest (cond b (apply u.1 row) row) ++ (cond b ([] ++ led_one span u row) [] ++ old)
          ≡ cond b (led_in span rest (apply u.1 row) ++ led_one span u row) (led_in span rest row) ++ old
      by true = sym (append_assoc (led_in span rest (apply u.1 row)) (led_one span u row) old)
      by false = refl

-- ---- records in turn, in a list and where they lie

module _ (span : Span) (xs : List Delta) (i : ℕ) where
  pub row_goes_on : (x : Delta) (row row2 whole : Option Row) → i < length xs → x ≡ get_or xs i x → row2 ≡ after_steps span.mark (step_in x ∷ []) row
      → after_steps span.mark (steps_in (drop i xs)) row ≡ whole → after_steps span.mark (steps_in (drop (i + 1) xs)) row2 ≡ whole
  row_goes_on x row row2 whole low is e so = ap (after_steps span.mark (steps_in (drop (i + 1) xs))) e ∙ sym (ap (λ (l : List Delta). after_steps span.mark (steps_in l) row) (rest_is xs i x low is)) ∙ so

  pub steps_go_on : (x : Delta) (old new whole : Steps) → i < length xs → x ≡ get_or xs i x → new ≡ old ++ spanned span (step_in x ∷ [])
      → old ++ spanned span (steps_in (drop i xs)) ≡ whole → new ++ spanned span (steps_in (drop (i + 1) xs)) ≡ whole
  steps_go_on x old new whole low is e so =
      taken_next span (step_in x) (steps_in (drop (i + 1) xs)) whole old new e (sym (ap (λ (l : List Delta). old ++ spanned span (steps_in l)) (rest_is xs i x low is)) ∙ so)

  pub row_over : (row whole : Option Row) → length xs ≤ i → after_steps span.mark (steps_in (drop i xs)) row ≡ whole → row ≡ whole
  row_over row whole past so = sym (ap (λ (l : List Delta). after_steps span.mark (steps_in l) row) (drop_all i xs past)) ∙ so

  pub steps_over : (steps whole : Steps) → length xs ≤ i → steps ++ spanned span (steps_in (drop i xs)) ≡ whole → steps ≡ whole
  steps_over steps whole past so = sym (ap (λ (l : List Delta). steps ++ spanned span (steps_in l)) (drop_all i xs past) ∙ append-nil steps) ∙ so

module _ (span : Span) (xs : List (Bor Delta)) (i : ℕ) where
  pub row_goes_on_at : (x : Bor Delta) (row row2 whole : Option Row) → i < length xs → x ≡ get_or xs i x → row2 ≡ after_steps span.mark (step_in x.now ∷ []) row
      → after_steps span.mark (steps_at (drop i xs)) row ≡ whole → after_steps span.mark (steps_at (drop (i + 1) xs)) row2 ≡ whole
  row_goes_on_at x row row2 whole low is e so = ap (after_steps span.mark (steps_at (drop (i + 1) xs))) e ∙ sym (ap (λ (l : List (Bor Delta)). after_steps span.mark (steps_at l) row) (rest_is xs i x low is)) ∙ so

  pub steps_go_on_at : (x : Bor Delta) (old new whole : Steps) → i < length xs → x ≡ get_or xs i x → new ≡ old ++ spanned span (step_in x.now ∷ [])
      → old ++ spanned span (steps_at (drop i xs)) ≡ whole → new ++ spanned span (steps_at (drop (i + 1) xs)) ≡ whole
  steps_go_on_at x old new whole low is e so =
      taken_next span (step_in x.now) (steps_at (drop (i + 1) xs)) whole old new e (sym (ap (λ (l : List (Bor Delta)). old ++ spanned span (steps_at l)) (rest_is xs i x low is)) ∙ so)

  pub row_goes_back_at : (x : Bor Delta) (row row2 whole : Option Row) → i < length xs → x ≡ get_or xs i x → row2 ≡ back span.mark (step_in x.now ∷ []) row
      → back span.mark (steps_at (drop i xs)) row ≡ whole → back span.mark (steps_at (drop (i + 1) xs)) row2 ≡ whole
  row_goes_back_at x row row2 whole low is e so = ap (back span.mark (steps_at (drop (i + 1) xs))) e ∙ sym (ap (λ (l : List (Bor Delta)). back span.mark (steps_at l) row) (rest_is xs i x low is)) ∙ so

  pub led_goes_on_at : (x : Bor Delta) (row row2 : Option Row) (old new whole : Steps) → i < length xs → x ≡ get_or xs i x → row2 ≡ back span.mark (step_in x.now ∷ []) row → new ≡ led_in span (step_in x.now ∷ []) row ++ old
      → led_in span (steps_at (drop i xs)) row ++ old ≡ whole → led_in span (steps_at (drop (i + 1) xs)) row2 ++ new ≡ whole
  led_goes_on_at x row row2 old new whole low is e f so =
      led_next span (step_in x.now) (steps_at (drop (i + 1) xs)) row row2 old new whole e f (sym (ap (λ (l : List (Bor Delta)). led_in span (steps_at l) row ++ old) (rest_is xs i x low is)) ∙ so)

  pub row_over_at : (row whole : Option Row) → length xs ≤ i → after_steps span.mark (steps_at (drop i xs)) row ≡ whole → row ≡ whole
  row_over_at row whole past so = sym (ap (λ (l : List (Bor Delta)). after_steps span.mark (steps_at l) row) (drop_all i xs past)) ∙ so

  pub back_over_at : (row whole : Option Row) → length xs ≤ i → back span.mark (steps_at (drop i xs)) row ≡ whole → row ≡ whole
  back_over_at row whole past so = sym (ap (λ (l : List (Bor Delta)). back span.mark (steps_at l) row) (drop_all i xs past)) ∙ so

  pub steps_over_at : (steps whole : Steps) → length xs ≤ i → steps ++ spanned span (steps_at (drop i xs)) ≡ whole → steps ≡ whole
  steps_over_at steps whole past so = sym (ap (λ (l : List (Bor Delta)). steps ++ spanned span (steps_at l)) (drop_all i xs past) ∙ append-nil steps) ∙ so

  pub led_over_at : (row : Option Row) (led whole : Steps) → length xs ≤ i → led_in span (steps_at (drop i xs)) row ++ led ≡ whole → led ≡ whole
  led_over_at row led whole past so = sym (ap (λ (l : List (Bor Delta)). led_in span (steps_at l) row ++ led) (drop_all i xs past)) ∙ so

-- ---- what is led back over

-- a change at or below the mark is not wanted, and one above it is where it is not above the bound
below_mark : (span : Span) (ts : ℕ) → ts ≤ span.mark → lies_in span ts ≡ false
below_mark span ts le = ap (λ (b : Bool). b && nat_le ts span.bound) (le-ltb span.mark ts le)

above_mark : (span : Span) (ts : ℕ) → span.mark < ts → lies_in span ts ≡ nat_le ts span.bound
above_mark span ts lt = ap (λ (b : Bool). b && nat_le ts span.bound) (lt-ltb span.mark ts lt)

-- UNDO records below a time at or below the mark lead over nothing that is wanted
module _ (span : Span) where
  none_led : (top : ℕ) (undos : Steps) (row other : Option Row) → AreUndos top undos row → top ≤ span.mark → led_in span undos other ≡ []
  none_led top [] row other h le = refl
  none_led top (u ∷ undos) row other h le =
      ap (λ (b : Bool). cond b (led_in span undos (apply u.1 other) ++ led_one span u other) (led_in span undos other)) (le-ltb span.mark u.0 (omega (arith, h.0)))
      ∙ none_led u.0 undos (apply u.1 row) other h.2 (omega (arith, h.0))

  none_spanned : (top : ℕ) (undos : Steps) (row : Option Row) → AreUndos top undos row → top ≤ span.mark → spanned span (led_over undos row) ≡ []
  none_spanned top [] row h le = refl
  none_spanned top (u ∷ undos) row h le =
      spanned-append span (led_over undos (apply u.1 row)) ((u.0, undo u.1 row) ∷ [])
      ∙ ap (λ (b : Bool). spanned span (led_over undos (apply u.1 row)) ++ cond b ((u.0, undo u.1 row) ∷ []) []) (below_mark span u.0 (omega (arith, h.0)))
      ∙ append-nil (spanned span (led_over undos (apply u.1 row)))
      ∙ none_spanned u.0 undos (apply u.1 row) h.2 (omega (arith, h.0))

  -- the wanted changes that UNDO records lead back over, where each leads back
  pub led_is : (top : ℕ) (undos : Steps) (row : Option Row) → AreUndos top undos row → led_in span undos row ≡ spanned span (led_over undos row)
  led_is top [] row h = refl
  led_is top (u ∷ undos) row h = elim (cases_lt span.mark u.0) [
    | inl lt ↦
        ap (λ (b : Bool). cond b (led_in span undos (apply u.1 row) ++ led_one span u row) (led_in span undos row)) (lt-ltb span.mark u.0 lt)
        ∙ ap (λ (l : Steps). l ++ led_one span u row) (led_is u.0 undos (apply u.1 row) h.2)
        ∙ sym (spanned-append span (led_over undos (apply u.1 row)) ((u.0, undo u.1 row) ∷ [])
        ∙ ap (λ (b : Bool). spanned span (led_over undos (apply u.1 row)) ++ cond b ((u.0, undo u.1 row) ∷ []) []) (above_mark span u.0 lt))
    | inr le ↦
        ap (λ (b : Bool). cond b (led_in span undos (apply u.1 row) ++ led_one span u row) (led_in span undos row)) (le-ltb span.mark u.0 le)
        ∙ none_led u.0 undos (apply u.1 row) row h.2 le
        ∙ sym (spanned-append span (led_over undos (apply u.1 row)) ((u.0, undo u.1 row) ∷ [])
        ∙ ap (λ (b : Bool). spanned span (led_over undos (apply u.1 row)) ++ cond b ((u.0, undo u.1 row) ∷ []) []) (below_mark span u.0 le)
        ∙ append-nil (spanned span (led_over undos (apply u.1 row)))
        ∙ none_spanned u.0 undos (apply u.1 row) h.2 le)
  ]

-- ---- records from the last to the first

pub steps-reverse : (xs : List Delta) → steps_in (reverse xs) ≡ reverse (steps_in xs)
steps-reverse [] = refl
steps-reverse (x ∷ xs) =
    ap steps_in (reverse-append (x ∷ []) xs) ∙ map-append step_in (reverse xs) (x ∷ []) ∙ ap (λ (l : Steps). l ++ step_in x ∷ []) (steps-reverse xs) ∙ sym (reverse-append (step_in x ∷ []) (steps_in xs))

-- ---- copies

pub copy_goes_on : (xs : List (Bor Delta)) (i : ℕ) (x : Bor Delta) (old new : List Delta) (change : Change) (whole : Steps) → i < length xs → x ≡ get_or xs i x → change ≡ x.now.change
    → new ≡ old ++ record { ordinal = x.now.ordinal; ts = x.now.ts; change = change } ∷ [] → steps_in old ++ steps_at (drop i xs) ≡ whole → steps_in new ++ steps_at (drop (i + 1) xs) ≡ whole
copy_goes_on xs i x old new change whole low is same put so =
    ap (λ (l : List Delta). steps_in l ++ steps_at (drop (i + 1) xs)) put
    ∙ ap (λ (l : Steps). l ++ steps_at (drop (i + 1) xs)) (map-append step_in old (record { ordinal = x.now.ordinal; ts = x.now.ts; change = change } ∷ []) ∙ ap (λ (c : Change). steps_in old ++ (x.now.ts, c) ∷ []) same)
    ∙ append_assoc (steps_in old) (step_in x.now ∷ []) (steps_at (drop (i + 1) xs))
    ∙ sym (ap (λ (l : List (Bor Delta)). steps_in old ++ steps_at l) (rest_is xs i x low is)) ∙ so

pub copy_over : (xs : List (Bor Delta)) (i : ℕ) (steps whole : Steps) → length xs ≤ i → steps ++ steps_at (drop i xs) ≡ whole → steps ≡ whole
copy_over xs i steps whole past so = sym (ap (λ (l : List (Bor Delta)). steps ++ steps_at l) (drop_all i xs past) ∙ append-nil steps) ∙ so
