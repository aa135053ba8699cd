-- The numbers of an image that has those of an image before, and of a log whose records are told.
use Rattle.std.proofs.Common.{◌≡◌, ◌≢◌, ℕ, ◌≤◌, List, Option, inl, inr, ap, subst, arith}
use Rattle.std.specs.Prelude.{IsSome}
use Rattle.std.specs.List.{Contains}
use Rattle.std.proofs.lemmas.Bool.{cases_eq}
use Rattle.kt_disk.specs.Disk.{Files, held, LeavesOnly}
use Rattle.kt_records.specs.declared.entry.Entry.{Entry}
use Rattle.kt_records.specs.Numbers.{all_numbers}
use Rattle.kt_journal.specs.Frames.{IsFrom}
use Rattle.kt_journal.specs.Log.{records_of, found_in}
use Rattle.kt_journal.specs.Numbers.{IsNumberOf, AreUpTo, AreNear}
use Rattle.kt_journal.proofs.Faults.{same_log}

-- where its records' numbers are bounded, and its files but the log's are those of an image before
pub image_up_to : (before : Files → Type 0) (bound : ℕ) → 1 ≤ bound → AreUpTo bound before → (c d : Files) → before d → ((n : ℕ) → n ≢ 1 → c n ≡ d n)
    → ((n : ℕ) → Contains (all_numbers (records_of c)) n → n ≤ bound) → (n : ℕ) → IsNumberOf c n → n ≤ bound
image_up_to before bound up each c d was others named n is = elim is [
  | inl told ↦ named n told
  | inr there ↦ elim (cases_eq n 1) [
    | inl one ↦ omega arith
    | inr apart ↦ each d was n (inr (subst (λ (x : Option (List ℕ)). IsSome x) (others n apart) there))
  ]
]

module _ {D : Type 0} (now : D → ℕ) (leaves : D → ℕ → Files → Type 0) (old : D) where
  -- an image with the frames and the other files of one before
  pub from_up_to : (bound : ℕ) → 1 ≤ bound → AreUpTo bound (leaves old (now old)) → (c : Files) → IsFrom now leaves 1 old c → (n : ℕ) → IsNumberOf c n → n ≤ bound
  from_up_to bound up each c has =
      let same : records_of c ≡ records_of has.image = ap found_in (same_log (held c 1) (held has.image 1) has.frames) in
      image_up_to (leaves old (now old)) bound up each c has.image has.was_left (λ n apart. has.others n (apart, tt))
      (λ n told. each has.image has.was_left n (inl (subst (λ (records : List Entry). Contains (all_numbers records) n) same told)))

  -- opening leaves the numbers near
  pub near_from : (new : D) → LeavesOnly now leaves (IsFrom now leaves 1 old) old new → AreNear (leaves old (now old)) (leaves new (now new))
  near_from new run bound up each c left n is =
      let le : n ≤ bound = from_up_to bound (omega arith) each c (run.each (now new) c run.later (omega arith) left) n is in
      omega arith
