-- The records of a row in a file, and in several.
use Rattle.std.proofs.Common.{◌≡◌, ◌≢◌, ◌≤◌, ◌<◌, ◌-◌, ◌+◌, ℕ, zero, suc, true, false, cond, List, [], ◌∷◌, take, drop, length, get_or, drop-cons, refl, sym, ap, ◌∙◌, arith}
use Rattle.std.specs.Prelude.{◌==◌}
use Rattle.std.proofs.lemmas.Bool.Decides.{nat_tests}
use Rattle.kt_history.specs.declared.changes.Delta.{Delta}
use Rattle.kt_history.specs.Stores.{Steps}
use Rattle.kt_deltafile.specs.Order.{ordinal_at}
use Rattle.kt_rowfiles.specs.Files.{records_for, records_in, rising, falling}
use Rattle.kt_rowfiles.specs.Reading.{steps_in, all_rising, all_falling}
use Rattle.kt_rowfiles.proofs.Ordered.{rising-append, falling-append}
use Rattle.kt_diskrowset.specs.declared.files.FileHeld.{FileHeld}
use Rattle.kt_diskrowset.specs.Files.{lists_of}

same : (a b : ℕ) → a ≡ b → (a == b) ≡ true
same a b e = grind (arith, nat_tests)

other : (a b : ℕ) → a ≢ b → (a == b) ≡ false
other a b ne = grind (arith, nat_tests)

take_none : (k : ℕ) → steps_in (take k []) ≡ []
take_none zero = refl
take_none (suc k) = refl

drop_none : (k : ℕ) → drop {A = Delta} k [] ≡ []
drop_none zero = refl
drop_none (suc k) = refl

none_behind : (n : ℕ) (list : List Delta) → ((i : ℕ) → i < length list → n < ordinal_at list i) → records_for n list ≡ []
none_behind n [] h = refl
none_behind n (d ∷ list) h =
    let first = h 0 (omega arith) in
    ap (λ b. cond b ((d.ts, d.change) ∷ records_for n list) (records_for n list)) (other d.ordinal n (λ e. absurd (omega arith))) ∙ none_behind n list (λ i low. h (suc i) (omega arith))

-- what stands between the lesser and the greater ordinals are the records of the row
pub own_are : (n : ℕ) (list : List Delta) (start end : ℕ) → start ≤ end → end ≤ length list → ((i : ℕ) → i < start → ordinal_at list i < n) → ((i : ℕ) → start ≤ i → i < end → ordinal_at list i ≡ n) → ((i : ℕ) → end ≤ i → i < length list → n < ordinal_at list i)
    → steps_in (take (end - start) (drop start list)) ≡ records_for n list
own_are n [] start end a b before here behind = ap (λ xs. steps_in (take (end - start) xs)) (drop_none start) ∙ take_none (end - start)
own_are n (d ∷ list) zero zero a b before here behind = sym (none_behind n (d ∷ list) (λ i low. behind i (omega arith) low))
own_are n (d ∷ list) (suc s) zero a b before here behind = absurd (omega arith)
own_are n (d ∷ list) zero (suc e) a b before here behind =
    let first = here 0 (omega arith) (omega arith) in
    let more = own_are n list zero e (omega arith) (omega arith) (λ i low. absurd (omega arith)) (λ i low high. here (suc i) (omega arith) (omega arith)) (λ i low high. behind (suc i) (omega arith) (omega arith)) in
    (let k : suc e - 0 ≡ suc (e - 0) = omega arith in ap (λ m. steps_in (take m (d ∷ list))) k) ∙ ap (λ steps. (d.ts, d.change) ∷ steps) more
    ∙ sym (ap (λ b. cond b ((d.ts, d.change) ∷ records_for n list) (records_for n list)) (same d.ordinal n first))
own_are n (d ∷ list) (suc s) (suc e) a b before here behind =
    let first = before 0 (omega arith) in
    let more = own_are n list s e (omega arith) (omega arith) (λ i low. before (suc i) (omega arith)) (λ i low high. here (suc i) (omega arith) (omega arith)) (λ i low high. behind (suc i) (omega arith) (omega arith)) in
    (let k : suc e - suc s ≡ e - s = omega arith in ap (λ m. steps_in (take m (drop s list))) k) ∙ more
    ∙ sym (ap (λ b. cond b ((d.ts, d.change) ∷ records_for n list) (records_for n list)) (other d.ordinal n (λ x. absurd (omega arith))))

-- ---- one file more

module _ (n : ℕ) (files : List FileHeld) (i : ℕ) (f : FileHeld) (low : i < length files) (is : f ≡ get_or files i f) (steps now new : Steps) (own : steps ≡ records_for n f.deltas.value.list) where
  rest_is : drop i files ≡ f ∷ drop (i + 1) files
  rest_is = drop-cons files i f low ∙ ap (λ g. g ∷ drop (suc i) files) (sym is) ∙ (let e : suc i ≡ i + 1 = omega arith in ap (λ k. f ∷ drop k files) e)

  pub falling_more : now ≡ falling (records_in n (lists_of (drop (i + 1) files))) → new ≡ all_falling steps now → new ≡ falling (records_in n (lists_of (drop i files)))
  falling_more so e =
      e ∙ ap (all_falling steps) so ∙ ap (λ s. all_falling s (falling (records_in n (lists_of (drop (i + 1) files))))) own
      ∙ sym (falling-append (records_for n f.deltas.value.list) (records_in n (lists_of (drop (i + 1) files)))) ∙ sym (ap (λ fs. falling (records_in n (lists_of fs))) rest_is)

  pub rising_more : now ≡ rising (records_in n (lists_of (drop (i + 1) files))) → new ≡ all_rising steps now → new ≡ rising (records_in n (lists_of (drop i files)))
  rising_more so e =
      e ∙ ap (all_rising steps) so ∙ ap (λ s. all_rising s (rising (records_in n (lists_of (drop (i + 1) files))))) own
      ∙ sym (rising-append (records_for n f.deltas.value.list) (records_in n (lists_of (drop (i + 1) files)))) ∙ sym (ap (λ fs. rising (records_in n (lists_of fs))) rest_is)
