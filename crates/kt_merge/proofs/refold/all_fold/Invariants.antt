use Rattle.std.proofs.Common.{◌<◌, ℕ}
use Rattle.kt_baseset.specs.Tables.{cells_in}
use Rattle.kt_rowfiles.specs.Files.{records_in}
use Rattle.kt_diskrowset.specs.Files.{lists_of}
use Rattle.kt_merge.specs.Major.{redos_at}
use Rattle.kt_merge.specs.Rewriting.{Folds}
use Rattle.kt_merge.proofs.refold.all_fold.Given as goal

abbrev pub invariant-rows : goal.invariant-rows
invariant-rows l = (n : ℕ) → n < l.ordinal → Folds l.base.schema (records_in n (lists_of l.undo)) (redos_at n l.redo) (cells_in l.base.rows n)
