-- The first superblock, from its closed gate to its open one.
use Rattle.std.proofs.Common.{◌≡◌, ℕ, inl, inr, Some, None, Ok, refl, sym, ◌∙◌}
use Rattle.kt_disk.specs.Disk.{Files, LeavesOnly, bytes_of}
use Rattle.kt_disk.proofs.Moments.{weaker}
use Rattle.kt_super.specs.declared.meta.Meta.{Meta}
use Rattle.kt_super.specs.Slots.{super_of, of_both, slot_at, AreStable}
use Rattle.kt_storeside.specs.Supers.{BetweenBoth}
use Rattle.kt_storeside.proofs.Gates.{same_slot}
use Rattle.kt_reopen.specs.Holding.{IsOfStore}

module _ {D : Type 0} (seen : D → Files) (now : D → ℕ) (leaves : D → ℕ → Files → Type 0) where
  -- an image of a disk whose slots are stable has the superblock that is read
  pub super_left : (disk : D) → AreStable seen now leaves disk → (c : Files) → leaves disk (now disk) c → super_of c ≡ super_of (seen disk)
  super_left disk stable c left =
      let one = stable 1 (inl refl) c left in
      let two = stable 2 (inr refl) c left in
      λ k. of_both (slot_at 1 (bytes_of (one k))) (slot_at 2 (bytes_of (two k)))

  -- one that has the superblock that is read or this one, where the first is none
  pub first_or_none : (first : Meta) (old new : D) → AreStable seen now leaves old → super_of (seen old) ≡ Ok None → LeavesOnly now leaves (BetweenBoth seen now leaves first old) old new → LeavesOnly now leaves (IsOfStore now leaves first old) old new
  first_or_none first old new stable none run = weaker now leaves (BetweenBoth seen now leaves first old) (IsOfStore now leaves first old) old new
      (λ c w.
      let image = w.others.image in
      let left = w.others.was_left in
      let bare = super_left old stable image left ∙ none in
      record {
        image = image;
        was_left = left;
        super = elim w.superblock [
          | inl same ↦ inl (same ∙ none ∙ sym bare)
          | inr new_one ↦ inr (bare, new_one)
        ];
        named = λ m e. absurd (let clash : Ok (Some m) ≡ Ok None = sym e ∙ bare in cc);
        slots = λ k is x spells. elim (w.slots k is x spells) [
          | inl was ↦ inl (same_slot k image (seen old) (stable k is image left) ∙ was)
          | inr new_one ↦ inr new_one
        ];
      })
      run
