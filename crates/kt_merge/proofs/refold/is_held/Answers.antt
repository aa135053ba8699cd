use Rattle.std.proofs.Common.{List, subst}
use Rattle.std.proofs.lemmas.Bool.{OnTrue_at, OnTrue_from}
use Rattle.kt_baseset.specs.declared.schema.ColumnShape.{ColumnShape}
use Rattle.kt_merge.specs.Major.{IsHeld}
use Rattle.kt_merge.specs.Rows.{disk_row_of}
use Rattle.kt_merge.proofs.Holding.{held_row}
use Rattle.kt_merge.proofs.refold.is_held.Goals as goal

pub returns : goal.returns
returns c =
    OnTrue_from c.fits_files.result (IsHeld c.args.columns.now (disk_row_of c.args.row.now))
    (λ yes. subst (λ (cs : List ColumnShape). IsHeld cs (disk_row_of c.args.row.now)) c.as_slice.ensures (held_row _ _ c.args.row.now (OnTrue_at yes c.fits_files.ensures.yes)))
