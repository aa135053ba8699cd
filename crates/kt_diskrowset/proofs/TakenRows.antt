-- The history of one row, as a job takes it.
use Rattle.std.proofs.Common.{◌≡◌, ◌≤◌, ◌^◌, ℕ, suc, List, [], ◌∷◌, ◌++◌, append_assoc, length, Option, Some, sym, ap, ◌∙◌, reverse, arith}
use Rattle.std.specs.List.{All, AllByRecursion}
use Rattle.std.proofs.lemmas.List.{append-nil, map-append}
use Rattle.kt_history.specs.declared.changes.Delta.{Delta}
use Rattle.kt_history.specs.Rows.{Row}
use Rattle.kt_history.specs.Stores.{Steps, row_of, after_steps}
use Rattle.kt_histlaws.specs.Disks.{back, led_over}
use Rattle.kt_rowfiles.specs.Files.{DiskRowset, row_under, records_in, rising, falling}
use Rattle.kt_rowfiles.specs.Reading.{step_in, steps_in}
use Rattle.kt_rowfiles.specs.Taking.{spanned, led_in}
use Rattle.kt_rowfiles.specs.declared.taking.Span.{Span}
use Rattle.kt_rowfiles.proofs.TakenSteps.{spanned-append, led_is, steps-reverse}
use Rattle.kt_diskrowset.specs.Rows.{Fresh, hist_at, UndosLeadBack}
use Rattle.kt_diskrowset.proofs.Rowsets.{row_is}

-- of a row its base row, the changes that UNDO records lead back over, its REDO records, and its changes in memory
module _ (d : DiskRowset) (fresh : Fresh) (span : Span) (q : List ℕ) (found : ℕ × Row) (lead : UndosLeadBack d) (at : row_under q 0 d.base ≡ Some found) where
  abbrev pub undos : Steps
  undos = falling (records_in found.0 d.undos)

  abbrev pub redos : Steps
  redos = rising (records_in found.0 d.redos)

  -- the row is taken back, then on over the REDO records, and then over those in memory
  pub row_taken : (base first second row : Option Row) → base ≡ Some found.1 → first ≡ back span.mark undos base → second ≡ after_steps span.mark redos first → row ≡ after_steps span.mark (fresh found.0) second
      → row ≡ row_of span.mark (hist_at d fresh found)
  row_taken base first second row is e f g =
      g ∙ ap (after_steps span.mark (fresh found.0)) (f ∙ ap (after_steps span.mark redos) (e ∙ ap (back span.mark undos) is))
      ∙ sym (row_is d fresh q found span.mark lead at)

  pub steps_taken : (base : Option Row) (old one two all : Steps) → base ≡ Some found.1 → one ≡ old ++ led_in span undos base → two ≡ one ++ spanned span redos → all ≡ two ++ spanned span (fresh found.0)
      → all ≡ old ++ spanned span (hist_at d fresh found).steps
  steps_taken base old one two all is e f g =
      let led = led_over undos (Some found.1) in
      g ∙ ap (λ (l : Steps). l ++ spanned span (fresh found.0)) (f ∙ ap (λ (l : Steps). l ++ spanned span redos) (e ∙ ap (λ (l : Steps). old ++ l) (ap (led_in span undos) is ∙ led_is span (2 ^ 64) undos (Some found.1) (lead q found at))))
      ∙ append_assoc (old ++ spanned span led) (spanned span redos) (spanned span (fresh found.0))
      ∙ append_assoc old (spanned span led) (spanned span redos ++ spanned span (fresh found.0))
      ∙ ap (λ (l : Steps). old ++ l) (sym (
      spanned-append span (led ++ redos) (fresh found.0)
      ∙ ap (λ (l : Steps). l ++ spanned span (fresh found.0)) (spanned-append span led redos)
      ∙ append_assoc (spanned span led) (spanned span redos) (spanned span (fresh found.0))
      ))

-- changes that were gathered from the newest, turned about and put behind others
pub turned_behind : (none led turned old new : List Delta) (undone : Steps) → none ≡ [] → reverse (steps_in led) ≡ undone ++ reverse (steps_in none) → turned ≡ reverse led → new ≡ old ++ turned
    → steps_in new ≡ steps_in old ++ undone
turned_behind none led turned old new undone empty so back put =
    ap steps_in put ∙ map-append step_in old turned
    ∙ ap (λ (l : Steps). steps_in old ++ l) (ap steps_in back ∙ steps-reverse led ∙ so ∙ ap (λ (l : List Delta). undone ++ reverse (steps_in l)) empty ∙ append-nil undone)

-- keys that are not too long, one by one
pub all_short : (keys : List (List ℕ)) → All (λ (key : List ℕ). length key ≤ 16384) keys → AllByRecursion (λ (key : List ℕ). length key ≤ 16384) keys
all_short [] h = tt
all_short (key ∷ keys) h = (h 0 key (omega arith), all_short keys (λ k d low. h (suc k) d (omega arith)))
