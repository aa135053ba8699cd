-- The files beside the log, as a caller keeps them.
use Rattle.std.proofs.Common.{ℕ, [], ◌∷◌, arith}
use Rattle.kt_disk.specs.Disk.{Files, LeavesOnly, ButFiles}
use Rattle.kt_journal.specs.Frames.{IsFrom}
use Rattle.kt_engine.specs.Engines.{KeepsOthers}

module _ {L : Type 0} (now : L → ℕ) (leaves : L → ℕ → Files → Type 0) (old new : L) where
  -- what an append leaves of them at each moment it leaves now
  pub appended_others : LeavesOnly now leaves (ButFiles now leaves old (1 ∷ [])) old new → KeepsOthers now leaves old new
  appended_others run image left = run.each (now new) image run.later (omega arith) left

  -- and so does an opening
  pub opened_others : LeavesOnly now leaves (IsFrom now leaves 1 old) old new → KeepsOthers now leaves old new
  opened_others run image left =
      let from = run.each (now new) image run.later (omega arith) left in
      record { image = from.image; was_left = from.was_left; others = from.others }
