-- Each pair of images that a crash leaves after opening holds what a pair from before holds.
use Rattle.std.proofs.Common.{◌≡◌, ℕ, true, List, [], inl, inr, Some, None, Ok, sym, subst, ◌∙◌}
use Rattle.std.proofs.lemmas.Bool.{false≢true}
use Rattle.kt_disk.specs.Disk.{Files, LeavesOnly, held}
use Rattle.kt_journal.specs.Frames.{IsFrom}
use Rattle.kt_journal.specs.Log.{log_of, Holds}
use Rattle.kt_journal.proofs.Faults.{same_log}
use Rattle.kt_schema.specs.declared.column.Column.{Column}
use Rattle.kt_super.specs.declared.meta.Meta.{Meta}
use Rattle.kt_super.specs.Rowsets.{has}
use Rattle.kt_super.specs.Slots.{super_of}
use Rattle.kt_files.specs.Named.{named_in}
use Rattle.kt_files.proofs.SameFiles.{holds_on, first_fault_on}
use Rattle.kt_reopen.specs.Holding.{HasFilesOf, IsOfStore, AreAlikePairs, KeepsContent}
use Rattle.kt_reopen.specs.Opened.{first_meta}
use Rattle.kt_reopen.proofs.Keeping.{past_on, answer_on, first_past, past_first, first_answer, answer_first}

module _ (columns : List Column) (l s k t : Files) where
  -- the same log, the same superblock, and the files that it names
  pub pair_same : log_of l ≡ log_of k → super_of s ≡ super_of t → ((m : Meta) → super_of t ≡ Ok (Some m) → (n : ℕ) → has (named_in m.rowsets) n ≡ true → s n ≡ t n) → AreAlikePairs columns l s k t
  pair_same logs supers named =
      let on = λ (m : Meta) (e : super_of s ≡ Ok (Some m)) (n : ℕ) (h : has (named_in m.rowsets) n ≡ true). named m (sym supers ∙ e) n h in
      let back = λ (m : Meta) (e : super_of t ≡ Ok (Some m)) (n : ℕ) (h : has (named_in m.rowsets) n ≡ true). sym (named m e n h) in
      record {
        pasts = λ rules c past. (
          past_on columns l s k t logs supers (λ m held e. holds_on s t m.rowsets held (on m e)) (λ m file offset e. first_fault_on s t m.rowsets file offset (on m e)) rules c past,
          past_on columns k t l s (sym logs) (sym supers) (λ m held e. holds_on t s m.rowsets held (back m e)) (λ m file offset e. first_fault_on t s m.rowsets file offset (back m e)) rules c past,
        );
        answers = λ answer. (
          answer_on columns l s k t logs supers (λ m held e. holds_on s t m.rowsets held (on m e)) (λ m file offset e. first_fault_on s t m.rowsets file offset (on m e)) answer,
          answer_on columns k t l s (sym logs) (sym supers) (λ m held e. holds_on t s m.rowsets held (back m e)) (λ m file offset e. first_fault_on t s m.rowsets file offset (back m e)) answer,
        );
      }

  -- the first superblock, where there was none, and a log that has nothing
  pub pair_first : log_of l ≡ Ok [] → log_of k ≡ Ok [] → super_of t ≡ Ok None → super_of s ≡ Ok (Some (first_meta columns)) → AreAlikePairs columns l s k t
  pair_first bare empty none named = record {
    pasts = λ rules c past. (past_first columns l s k t bare empty none named rules c past, first_past columns l s k t bare empty none named rules c past);
    answers = λ answer. (answer_first columns l s k t bare empty none named answer, first_answer columns l s k t bare empty none named answer);
  }

-- the first superblock names no file
names_none : (columns : List Column) (s t : Files) → super_of s ≡ Ok (Some (first_meta columns)) → super_of s ≡ super_of t → (m : Meta) → super_of t ≡ Ok (Some m) → (n : ℕ) → has (named_in m.rowsets) n ≡ true → s n ≡ t n
names_none columns s t first same m is n h =
    let both : Ok (Some m) ≡ Ok (Some (first_meta columns)) = sym is ∙ sym same ∙ first in
    let one : m ≡ first_meta columns = cc in
    absurd (false≢true (subst (λ (x : Meta). has (named_in x.rowsets) n ≡ true) one h))

module _ {L D : Type 0} (now : L → ℕ) (leaves : L → ℕ → Files → Type 0) (now' : D → ℕ) (leaves' : D → ℕ → Files → Type 0) (columns : List Column) (log log' : L) (store store' : D)
    (frames : LeavesOnly now leaves (IsFrom now leaves 1 log) log log') where
  -- other files of the store are gone
  pub keeps_files : LeavesOnly now' leaves' (HasFilesOf now' leaves' store) store store' → KeepsContent now leaves now' leaves' columns log store log' store'
  keeps_files files m n l s left left' ends =
      let a = frames.each m l left.since left.until left.left in
      let b = files.each n s left'.since left'.until left'.left in
      (a.image, b.image, a.was_left, b.was_left, pair_same columns l s a.image b.image (same_log (held l 1) (held a.image 1) a.frames) b.super b.named)

  -- or the first superblock is there, beside a log that has no record, unless an image had it
  pub keeps_first : LeavesOnly now' leaves' (IsOfStore now' leaves' (first_meta columns) store) store store' → Holds now leaves log' [] → KeepsContent now leaves now' leaves' columns log store log' store'
  keeps_first files durable m n l s left left' ends =
      let a = frames.each m l left.since left.until left.left in
      let b = files.each n s left'.since left'.until left'.left in
      let logs = same_log (held l 1) (held a.image 1) a.frames in
      let beside_none = λ (none : super_of b.image ≡ Ok None) (one : super_of s ≡ Ok (Some (first_meta columns))) (bare : log_of l ≡ Ok []). pair_first columns l s a.image b.image bare (sym logs ∙ bare) none one in
      elim b.super [
        | inl same ↦ (a.image, b.image, a.was_left, b.was_left, pair_same columns l s a.image b.image logs same b.named)
        | inr both ↦ elim ends [
          | inl last ↦ (a.image, b.image, a.was_left, b.was_left, beside_none both.0 both.1 (durable l (subst (λ (k : ℕ). leaves log' k l) last left.left)))
          | inr other ↦ elim other [
            | inl bare ↦ (a.image, b.image, a.was_left, b.was_left, beside_none both.0 both.1 bare)
            | inr had ↦ (a.image, had.image, a.was_left, had.was_left, pair_same columns l s a.image had.image logs had.super (names_none columns s had.image both.1 had.super))
          ]
        ]
      ]
