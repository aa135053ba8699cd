-- A log that may be opened stays one.
use Rattle.std.proofs.Common.{◌≡◌, ◌⊎◌, ℕ, ◌≤◌, List, [], ◌∷◌, length, Option, None, inl, inr, refl, ap, subst, arith, length-append}
use Rattle.std.specs.Prelude.{IsSome}
use Rattle.std.specs.List.{flat_map}
use Rattle.std.proofs.lemmas.Bool.{cases_lt}
use Rattle.kt_disk.specs.Disk.{Files, held, Torn, On, Same, Turns}
use Rattle.kt_disk.proofs.Moments.{same_left}
use Rattle.kt_journal.specs.Frames.{frame, IsShort}
use Rattle.kt_journal.specs.Log.{CanOpenFile}

no_frames : (records : List (List ℕ)) → length (flat_map frame records) ≤ 1 → length (flat_map frame records) ≡ 0
no_frames [] le = refl
no_frames (p ∷ records) le = absurd (omega (arith, length-append (frame p) (flat_map frame records)))

module _ {D : Type 0} (seen : D → Files) (now : D → ℕ) (leaves : D → ℕ → Files → Type 0) (file : ℕ) where
  pub can_open_same : (old new : D) → Turns now leaves Same old new → CanOpenFile now leaves file old → CanOpenFile now leaves file new
  can_open_same old new turn can = record {
    either = elim can.either [
      | inl there ↦ inl (λ c left. there c (same_left now leaves old new turn c left))
      | inr short ↦ inr (λ c left. short c (same_left now leaves old new turn c left))
    ];
  }

  -- an image after a write, from one before it
  from : (old new : D) (at : ℕ) → Turns now leaves (On file (Torn at 1)) old new → (c : Files) → leaves new (now new) c → leaves old (now old) c ⊎ ((d : Files) × leaves old (now old) d × On file (Torn at 1) d c)
  from old new at turn c left = elim (cases_lt (now old) (now new)) [
    | inl moved ↦ inr (turn.each (now new) c moved (omega arith) left)
    | inr still ↦ let same : now new ≡ now old = omega (arith, turn.later) in inl (subst (λ (k : ℕ). leaves old k c) same (turn.past (now new) c still left))
  ]

  pub can_open_wrote : (old new : D) (at : ℕ) (records : List (List ℕ)) → Turns now leaves (On file (Torn at 1)) old new → leaves old (now old) (seen old) → IsShort records (seen old file) → at ≡ length (flat_map frame records)
      → CanOpenFile now leaves file old → CanOpenFile now leaves file new
  can_open_wrote old new at records turn image is at_is can = record {
    either = elim can.either [
      | inl there ↦ inl (λ c left. elim (from old new at turn c left) [ inl before ↦ there c before | inr one ↦ one.2.here.stays (there one.0 one.1) ])
      | inr short ↦
          let frames : length (flat_map frame records) ≡ 0 = no_frames records (omega (arith, short (seen old) image, ap length is.whole, length-append (flat_map frame records) is.behind)) in
          inr (λ c left. elim (from old new at turn c left) [ inl before ↦ short c before | inr one ↦ omega (arith, one.2.here.no_longer, short one.0 one.1, at_is, frames) ])
    ];
  }

  -- a file that is missing comes back with one byte at most
  pub can_open_absent : (disk : D) → leaves disk (now disk) (seen disk) → CanOpenFile now leaves file disk → seen disk file ≡ None → (c : Files) → leaves disk (now disk) c → length (held c file) ≤ 1
  can_open_absent disk image can none c left = elim can.either [
    | inl there ↦ let some : IsSome (seen disk file) = there (seen disk) image in absurd (let gone : IsSome {T = List ℕ} None = subst (λ (x : Option (List ℕ)). IsSome x) none some in cc)
    | inr short ↦ short c left
  ]
