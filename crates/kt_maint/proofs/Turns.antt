-- A turn of the store that wrote files of new numbers.
use Rattle.std.proofs.Common.{◌≡◌, ◌≤◌, ◌<◌, ◌⊎◌, ◌&&◌, ◌+◌, ◌^◌, ℕ, Bool, Some, inl, inr, refl, sym, ap, ◌∙◌, arith}
use Rattle.std.specs.Prelude.{Ok, max, nat_lt}
use Rattle.std.proofs.Math.Nat.{le-max_right}
use Rattle.std.proofs.lemmas.Bool.{cases_lt, le-leb, ltb-false}
use Rattle.kt_disk.specs.Disk.{Files, bytes_of}
use Rattle.kt_super.specs.declared.meta.Meta.{Meta}
use Rattle.kt_super.specs.Slots.{of_both, slot_at, super_of, IsSlot, AreStable}
use Rattle.kt_outputs.specs.Outputs.{HasLeft}
use Rattle.kt_storeside.specs.Turns.{IsLeft, IsTurn, HasOneOf}
use Rattle.kt_engine.specs.Near.{most_files}

-- not too many file numbers are given
pub files_near : (given first next later most : ℕ) → given < first + 2 ^ 44 → next ≡ given → most ≤ next + 2 ^ 34 → later ≤ max next most → later ≤ max given (first + most_files)
files_near given first next later most low is few up = let right = le-max_right given (first + most_files) in omega (arith, low, is, few, up, right)

same_slots : (f g : Files) → g 1 ≡ f 1 → g 2 ≡ f 2 → super_of g ≡ super_of f
same_slots f g one two = λ k. of_both (slot_at 1 (bytes_of (one k))) (slot_at 2 (bytes_of (two k)))

slot_below : (first slot : ℕ) → 3 ≤ first → IsSlot slot → slot < first
slot_below first slot low (inl e) = omega arith
slot_below first slot low (inr e) = omega arith

module _ {D : Type 0} (seen : D → Files) (now : D → ℕ) (leaves : D → ℕ → Files → Type 0) (first next : ℕ) (old new : D) (low : 3 ≤ first) (left : HasLeft seen now leaves first next old new) where
  apart : (n : ℕ) → IsLeft first next n → (n < first) ⊎ (next ≤ n)
  apart n is = elim (cases_lt n first) [
    | inl lt ↦ inl lt
    | inr ge ↦ inr (ltb-false n next (ap (λ (b : Bool). b && nat_lt n next) (sym (le-leb first n ge)) ∙ is.old))
  ]

  pub left_turn : IsTurn seen now leaves first next old new
  left_turn = record {
    reads = λ n is. left.reads n (apart n is);
    images = λ c here.
        let from = left.any_moment.each (now new) c left.any_moment.later (omega arith) here in
        (from.image, from.was_left, λ n is. from.others n (apart n is));
  }

  pub super_stays : super_of (seen new) ≡ super_of (seen old)
  super_stays = same_slots (seen old) (seen new) (left.reads 1 (inl (omega arith))) (left.reads 2 (inl (omega arith)))

  pub slots_stay : AreStable seen now leaves old → AreStable seen now leaves new
  slots_stay stable slot is c here =
      let from = left.any_moment.each (now new) c left.any_moment.later (omega arith) here in
      from.others slot (inl (slot_below first slot low is)) ∙ stable slot is from.image from.was_left ∙ sym (left.reads slot (inl (slot_below first slot low is)))

  pub has_one : (m : Meta) → super_of (seen old) ≡ Ok (Some m) → AreStable seen now leaves old → HasOneOf now leaves m m new
  has_one m is stable c here =
      let from = left.any_moment.each (now new) c left.any_moment.later (omega arith) here in
      inl (same_slots (seen old) c (from.others 1 (inl (omega arith)) ∙ stable 1 (inl refl) from.image from.was_left) (from.others 2 (inl (omega arith)) ∙ stable 2 (inr refl) from.image from.was_left) ∙ is)
