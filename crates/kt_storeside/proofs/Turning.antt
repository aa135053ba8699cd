-- Publishing is a turn that uses no number.
use Rattle.std.proofs.Common.{◌≡◌, ℕ, ◌∙◌, arith, Some, inl, inr}
use Rattle.std.specs.Prelude.{◌≢◌, Ok}
use Rattle.kt_disk.specs.Disk.{Files, LeavesOnly}
use Rattle.kt_super.specs.declared.meta.Meta.{Meta}
use Rattle.kt_super.specs.Slots.{super_of}
use Rattle.kt_storeside.specs.Supers.{BetweenBoth}
use Rattle.kt_storeside.specs.Turns.{IsTurn, HasOneOf}

module _ {D : Type 0} (seen : D → Files) (now : D → ℕ) (leaves : D → ℕ → Files → Type 0) (m : Meta) (old new : D) where
  pub is_turn : ((n : ℕ) → n ≢ 1 → n ≢ 2 → seen new n ≡ seen old n) → LeavesOnly now leaves (BetweenBoth seen now leaves m old) old new → (first next : ℕ) → IsTurn seen now leaves first next old new
  is_turn others run first next = record {
    reads = λ n left. others n left.no_slot.0 left.no_slot.1.0;
    images = λ c left. let between = run.each (now new) c run.later (omega arith) left in (between.others.image, between.others.was_left, λ n apart. between.others.others n apart.no_slot);
  }

  pub one_of_both : LeavesOnly now leaves (BetweenBoth seen now leaves m old) old new → (was : Meta) → super_of (seen old) ≡ Ok (Some was) → HasOneOf now leaves was m new
  one_of_both run was is c left = elim (run.each (now new) c run.later (omega arith) left).superblock [ inl old_one ↦ inl (old_one ∙ is) | inr new_one ↦ inr new_one ]
