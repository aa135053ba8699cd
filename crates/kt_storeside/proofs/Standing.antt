-- What a turn leaves of the files that a superblock names.
use Rattle.std.proofs.Common.{◌≡◌, ℕ, ◌≤◌, ◌<◌, Bool, true, false, leb, ltb, refl, sym, ◌∙◌, arith}
use Rattle.std.proofs.lemmas.Bool.{leb-true, ltb-true}
use Rattle.kt_disk.specs.Disk.{Files}
use Rattle.kt_base.proofs.Values.{both_true}
use Rattle.kt_super.specs.declared.meta.Meta.{Meta}
use Rattle.kt_super.specs.Body.{IsMeta}
use Rattle.kt_super.specs.Rowsets.{has}
use Rattle.kt_storeside.specs.Supers.{named, FilesStand}
use Rattle.kt_storeside.specs.Turns.{is_new, IsLeft, IsTurn}
use Rattle.kt_storeside.proofs.Named.{named_between}

not_new : (b : Bool) → (b ≡ true → ⊥) → b ≡ false
not_new true un = absurd (un refl)
not_new false un = refl

-- a number below the first new one, and above the slots', is left alone
pub left_below : (first next n : ℕ) → 3 ≤ n → n < first → IsLeft first next n
left_below first next n least below = record {
  no_slot = (λ e. absurd (omega (arith, least, e)), (λ e. absurd (omega (arith, least, e)), tt));
  old = not_new (is_new first next n) (λ e. absurd (omega (arith, below, leb-true first n (both_true (leb first n) (ltb n next) e).0)));
}

-- and so is one that is still to be given
pub left_above : (first next n : ℕ) → 3 ≤ first → first ≤ next → next ≤ n → IsLeft first next n
left_above first next n least rise above = record {
  no_slot = (λ e. absurd (omega (arith, least, rise, above, e)), (λ e. absurd (omega (arith, least, rise, above, e)), tt));
  old = not_new (is_new first next n) (λ e. absurd (omega (arith, above, ltb-true n next (both_true (leb first n) (ltb n next) e).1)));
}

module _ {D : Type 0} (seen : D → Files) (now : D → ℕ) (leaves : D → ℕ → Files → Type 0) (first next : ℕ) (old new : D) (turn : IsTurn seen now leaves first next old new) (m : Meta) (rules : IsMeta m) (given : m.next_file ≤ first) where
  pub left : (n : ℕ) → has (named m) n ≡ true → IsLeft first next n
  left n e = let b = named_between m n rules e in left_below first next n b.least (omega (arith, b.below, given))

  -- each image after it has the named files as the disk read before it
  pub image_has : FilesStand seen now leaves m old → (c : Files) → leaves new (now new) c → (n : ℕ) → has (named m) n ≡ true → c n ≡ seen old n
  image_has stand c is n e = let from = turn.images c is in from.2 n (left n e) ∙ stand from.0 from.1 n e

  -- so they stand after it
  pub still_stand : FilesStand seen now leaves m old → FilesStand seen now leaves m new
  still_stand stand c is n e = image_has stand c is n e ∙ sym (turn.reads n (left n e))
