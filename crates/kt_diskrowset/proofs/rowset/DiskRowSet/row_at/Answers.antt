use Rattle.std.proofs.Common.{◌∙◌, Option, ap}
use Rattle.std.proofs.lemmas.Result.{IfOk-weaker}
use Rattle.kt_history.specs.Rows.{Row}
use Rattle.kt_history.specs.Stores.{after_steps}
use Rattle.kt_histlaws.specs.Disks.{disk_row_at}
use Rattle.kt_baseset.specs.Tables.{cells_in}
use Rattle.kt_dms.specs.Stores.{deltas_of, steps_for}
use Rattle.kt_diskrowset.specs.Files.{row_with_files}
use Rattle.kt_diskrowset.specs.Mems.{steps_in_mems}
use Rattle.kt_diskrowset.proofs.Rowsets.{row_read}
use Rattle.kt_diskrowset.proofs.rowset.DiskRowSet.row_at.Goals as goal

pub returns : goal.returns
returns c =
    let s = c.args.self.now in
    let frozen = c.deref.result.now in
    let own = steps_for c.args.ordinal (deltas_of s.active c.args.pool.now) in
    let in_frozen : Option Row = c.in_ok-in_frozen.in_frozen in
    let before =
    c.in_ok-in_frozen.ensures
    ∙ ap (λ (row : Option Row). after_steps c.args.t (steps_in_mems c.args.pool.now c.args.ordinal frozen) row) (c.in_ok-in_files.ensures ∙ ap (λ (base : Row). disk_row_at c.args.t (row_with_files s.undo s.redo c.args.ordinal base)) c.in_ok-base.ensures) in
    IfOk-weaker c.at.result _ _
    (λ row e q at. row_read s c.args.pool.now c.requires.stands q frozen c.deref.ensures.value c.args.ordinal c.args.t (cells_in s.base.set.value.rows c.args.ordinal) row at (e ∙ ap (λ (row : Option Row). after_steps c.args.t own row) before)) c.at.ensures
