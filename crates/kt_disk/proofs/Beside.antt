-- How a run of calls goes on, as to the files that none of them is on.
use Rattle.std.proofs.Common.{◌≢◌, ℕ, List, [], ◌∷◌, Option, None, refl, ◌∙◌, arith}
use Rattle.kt_disk.specs.Disk.{Files, On, Same, Turns, LeavesOnly, IsNoneOf, ButFiles}
use Rattle.kt_disk.proofs.Moments.{started, goes_on, goes_on_same, joined}

module _ {D : Type 0} (now : D → ℕ) (leaves : D → ℕ → Files → Type 0) (files : List ℕ) (old : D) where
  abbrev P : Files → Type 0
  P = ButFiles now leaves old files

  pub beside_none : LeavesOnly now leaves P old old
  beside_none = started (λ d n. None) now leaves P old (λ c left. record { image = c; was_left = left; others = λ n apart. refl })

  -- a call that moves nothing
  pub beside_same : (mid new : D) → LeavesOnly now leaves P old mid → Turns now leaves Same mid new → LeavesOnly now leaves P old new
  beside_same mid new so_far turn = goes_on_same (λ d n. None) now leaves P old mid new so_far turn

  -- a call on a file that is not spoken of
  pub beside_call : (file : ℕ) (step : Option (List ℕ) → Option (List ℕ) → Type 0) (mid new : D) → ((n : ℕ) → IsNoneOf files n → n ≢ file) → LeavesOnly now leaves P old mid
      → Turns now leaves (On file step) mid new → LeavesOnly now leaves P old new
  beside_call file step mid new among so_far turn =
      goes_on (λ d n. None) now leaves P old mid new (On file step) so_far turn
      (λ d c left has on. record { image = has.image; was_left = has.was_left; others = λ n apart. on.others n (among n apart) ∙ has.others n apart })

  -- one run after another
  pub beside_joined : (mid new : D) → LeavesOnly now leaves P old mid → LeavesOnly now leaves (ButFiles now leaves mid files) mid new → LeavesOnly now leaves P old new
  beside_joined mid new first second =
      joined now leaves P old mid new first (record {
        later = second.later;
        each = λ m c lo hi left.
            let from = second.each m c lo hi left in
            let was = first.each (now mid) from.image first.later (omega arith) from.was_left in
            record { image = was.image; was_left = was.was_left; others = λ n apart. from.others n apart ∙ was.others n apart };
        past = second.past;
        keeps = second.keeps;
      })

-- a call on the one file
pub beside_one : {D : Type 0} (now : D → ℕ) (leaves : D → ℕ → Files → Type 0) (file : ℕ) (step : Option (List ℕ) → Option (List ℕ) → Type 0) (old mid new : D)
    → LeavesOnly now leaves (ButFiles now leaves old (file ∷ [])) old mid → Turns now leaves (On file step) mid new → LeavesOnly now leaves (ButFiles now leaves old (file ∷ [])) old new
beside_one now leaves file step old mid new so_far turn = beside_call now leaves (file ∷ []) old file step mid new (λ n apart. apart.0) so_far turn
