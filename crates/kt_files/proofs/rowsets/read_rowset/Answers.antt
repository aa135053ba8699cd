use Rattle.std.proofs.Common.{◌≡◌, ◌∙◌, Err, ap}
use Rattle.kt_files.specs.declared.refusal.FilesNo.{FilesNo}
use Rattle.kt_files.specs.declared.refusal.FilesNo.TheVariants.{Place}
use Rattle.kt_files.proofs.Lists.{undo_fault, redo_fault, names_rowset}
use Rattle.kt_files.proofs.rowsets.read_rowset.Goals as goal

pub returns-in-Err-read_list-clause-place : goal.returns-in-Err-read_list-clause-place
returns-in-Err-read_list-clause-place g c file offset e told =
    let no : c.in-Err-read_list.error ≡ Place file offset = cc in
    undo_fault (g.D.Disk.seen c.args.disk.now) (g.D.Disk.seen c.read_base.new.disk) (c.read_base.ensures.seen told) c.args.rowset.now c.in-Ok.value c.rows-rows.result c.as_slice.result.now file offset
    (c.in-Ok.ensures.holds told) c.rows-rows.ensures c.as_slice.ensures (c.read_list.ensures.place file offset (c.in-Err-read_list.is ∙ ap (λ (x : FilesNo). Err x) no) told)

pub returns-in-Err-read_list-2-clause-place : goal.returns-in-Err-read_list-2-clause-place
returns-in-Err-read_list-2-clause-place g c file offset e told =
    let no : c.in-Err-read_list-2.error ≡ Place file offset = cc in
    redo_fault (g.D.Disk.seen c.args.disk.now) (g.D.Disk.seen c.read_base.new.disk) (g.D.Disk.seen c.read_list.new.disk) (c.read_base.ensures.seen told) (c.read_list.ensures.seen told ∙ c.read_base.ensures.seen told)
    c.args.rowset.now c.in-Ok.value c.rows-rows.result c.as_slice.result.now c.as_slice-2.result.now c.in-Ok-read_list.value file offset
    (c.in-Ok.ensures.holds told) c.rows-rows.ensures c.as_slice.ensures (c.in-Ok-read_list.ensures.hold told) c.as_slice-2.ensures (c.read_list-2.ensures.place file offset (c.in-Err-read_list-2.is ∙ ap (λ (x : FilesNo). Err x) no) told)

pub returns-clause-named : goal.returns-clause-named
returns-clause-named g c =
    names_rowset c.args.rowset.now c.in-Ok.value c.in-Ok-read_list.value c.in-Ok-read_list-2.value c.as_slice.result.now c.as_slice-2.result.now c.in-Ok.ensures.named c.in-Ok-read_list.ensures.named c.as_slice.ensures c.in-Ok-read_list-2.ensures.named c.as_slice-2.ensures
