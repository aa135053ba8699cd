-- What files tell is what the rowset tells that has them.
use Rattle.std.proofs.Common.{◌≡◌, ℕ, Bool, false, cond, List, [], inr, sym, ap, ◌∙◌}
use Rattle.kt_pool.specs.Contents.{Contents}
use Rattle.kt_rowfiles.specs.Files.{DiskRowset}
use Rattle.kt_rowfiles.specs.Fitting.{undos_fit}
use Rattle.kt_diskrowset.specs.declared.base.BaseHeld.{BaseHeld}
use Rattle.kt_diskrowset.specs.declared.files.FileHeld.{FileHeld}
use Rattle.kt_diskrowset.specs.declared.rowset.DiskRowSet.{DiskRowSet}
use Rattle.kt_diskrowset.specs.Held.{files_told, store_told, IsReadOf}
use Rattle.kt_diskrowset.specs.Rows.{rows_of, store_with}
use Rattle.kt_diskrowset.specs.Rowset.{held_with, held_of, files_with, fresh_of, store_of}
use Rattle.kt_diskrowset.proofs.Copying.{lists_as}

-- whoever owns them
pub told_with : (number : ℕ) (base : BaseHeld) (undo redo : List FileHeld) → files_with number base undo redo ≡ files_told (held_with number base undo redo)
told_with number base undo redo = λ k. record { rowset = number; last_dms = 0; base = rows_of base.set.value.rows; undos = lists_as undo k; redos = lists_as redo k }

-- without a change in memory they tell all
pub told_bare : (s : DiskRowSet) (pool : Contents) → ((n : ℕ) → fresh_of s pool n ≡ []) → store_of s pool ≡ store_told (held_of s)
told_bare s pool none = λ k. store_with (told_with s.number s.base s.undo s.redo k) (λ n. none n k)

-- what is opened of files whose UNDO records do not fit
pub read_unfit : (number : ℕ) (base : BaseHeld) (undo redo : List FileHeld) → undos_fit (files_with number base undo redo) ≡ false → IsReadOf (held_with number base undo redo) (held_with number base [] redo)
read_unfit number base undo redo unfit =
    let h = held_with number base undo redo in
    inr (ap (λ (b : Bool). cond b h (record h { undos = [] })) (sym (sym (ap (λ (d : DiskRowset). undos_fit d) (told_with number base undo redo)) ∙ unfit)))
