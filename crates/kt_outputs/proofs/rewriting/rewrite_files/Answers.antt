use Rattle.std.proofs.Common.{List, refl, ◌∙◌, ap, subst, arith}
use Rattle.kt_diskrowset.specs.Files.{lists_of, as_files}
use Rattle.kt_deltafile.specs.declared.file.Way.TheVariants.{Redo, Undo}
use Rattle.kt_diskrowset.specs.declared.files.FileHeld.{FileHeld}
use Rattle.kt_outputs.specs.Rewriting.{AreNumbered}
use Rattle.kt_outputs.proofs.Numbered.{rowset_again}
use Rattle.kt_outputs.proofs.Written.{free_then, left_then, left_three, stable_three, there_first, there_second, there_third, rowset_same}
use Rattle.kt_outputs.proofs.rewriting.rewrite_files.Goals as goal

-- the numbers behind the files that are written are free
pub rewrite_deltas-requires-clause-vacant : goal.rewrite_deltas-requires-clause-vacant
rewrite_deltas-requires-clause-vacant g c = λ told.
    free_then g.D.Disk.seen g.D.Disk.now g.D.Disk.leaves c.args.next.now c.rewrite_base.new.next c.rewrite_base.new.next c.args.disk.now c.rewrite_base.new.disk c.rewrite_base.new.disk c.in_ok-base.ensures.up (omega arith)
    (c.in_ok-base.ensures.left told) (c.requires.vacant told)

pub rewrite_deltas-requires-2-clause-vacant : goal.rewrite_deltas-requires-2-clause-vacant
rewrite_deltas-requires-2-clause-vacant g c = λ told.
    free_then g.D.Disk.seen g.D.Disk.now g.D.Disk.leaves c.args.next.now c.rewrite_deltas.new.next c.rewrite_deltas.new.next c.args.disk.now c.rewrite_deltas.new.disk c.rewrite_deltas.new.disk (let a = c.in_ok-base.ensures.up in let b = c.in_ok-undo.ensures.up in omega arith) (omega arith)
    (left_then g.D.Disk.seen g.D.Disk.now g.D.Disk.leaves c.args.next.now c.rewrite_base.new.next c.rewrite_deltas.new.next c.args.disk.now c.rewrite_base.new.disk c.rewrite_deltas.new.disk c.in_ok-base.ensures.up c.in_ok-undo.ensures.up (c.in_ok-base.ensures.left told) (c.in_ok-undo.ensures.left told))
    (c.requires.vacant told)

-- what was left where a call failed
pub returns-in_err-undo-clause-left : goal.returns-in_err-undo-clause-left
returns-in_err-undo-clause-left g c = λ told.
    left_then g.D.Disk.seen g.D.Disk.now g.D.Disk.leaves c.args.next.now c.rewrite_base.new.next c.rewrite_deltas.new.next c.args.disk.now c.rewrite_base.new.disk c.rewrite_deltas.new.disk c.in_ok-base.ensures.up c.rewrite_deltas.ensures.up (c.in_ok-base.ensures.left told) (c.rewrite_deltas.ensures.left told)

pub returns-in_err-redo-clause-left : goal.returns-in_err-redo-clause-left
returns-in_err-redo-clause-left g c = λ told.
    left_three g.D.Disk.seen g.D.Disk.now g.D.Disk.leaves c.args.next.now c.rewrite_base.new.next c.rewrite_deltas.new.next c.rewrite_deltas-2.new.next c.args.disk.now c.rewrite_base.new.disk c.rewrite_deltas.new.disk c.rewrite_deltas-2.new.disk
    c.in_ok-base.ensures.up c.in_ok-undo.ensures.up c.rewrite_deltas-2.ensures.up (c.in_ok-base.ensures.left told) (c.in_ok-undo.ensures.left told) (c.rewrite_deltas-2.ensures.left told)

pub returns-clause-left : goal.returns-clause-left
returns-clause-left g c = λ told.
    left_three g.D.Disk.seen g.D.Disk.now g.D.Disk.leaves c.args.next.now c.rewrite_base.new.next c.rewrite_deltas.new.next c.rewrite_deltas-2.new.next c.args.disk.now c.rewrite_base.new.disk c.rewrite_deltas.new.disk c.rewrite_deltas-2.new.disk
    c.in_ok-base.ensures.up c.in_ok-undo.ensures.up c.in_ok-redo.ensures.up (c.in_ok-base.ensures.left told) (c.in_ok-undo.ensures.left told) (c.in_ok-redo.ensures.left told)

pub returns-clause-stable : goal.returns-clause-stable
returns-clause-stable g c = λ told.
    stable_three g.D.Disk.seen g.D.Disk.now g.D.Disk.leaves c.args.next.now c.rewrite_base.new.next c.rewrite_deltas.new.next c.rewrite_deltas-2.new.next c.args.disk.now c.rewrite_base.new.disk c.rewrite_deltas.new.disk c.rewrite_deltas-2.new.disk
    c.in_ok-base.ensures.up c.in_ok-undo.ensures.up c.in_ok-redo.ensures.up (c.in_ok-base.ensures.left told) (c.in_ok-undo.ensures.left told) (c.in_ok-redo.ensures.left told)
    (c.in_ok-base.ensures.stable told) (c.in_ok-undo.ensures.stable told) (c.in_ok-redo.ensures.stable told)

pub returns-clause-same : goal.returns-clause-same
returns-clause-same g c =
    rowset_same c.args.rowset.now.number c.in_ok-base.base c.in_ok-undo.undo c.in_ok-redo.redo c.args.rowset.now c.in_ok-base.ensures.same (c.in_ok-undo.ensures.same ∙ ap lists_of c.as_slice.ensures) (c.in_ok-redo.ensures.same ∙ ap lists_of c.as_slice-2.ensures)

pub returns-clause-holds : goal.returns-clause-holds
returns-clause-holds g c = λ told whole dms files there stand.
    let seen = g.D.Disk.seen in
    let now = g.D.Disk.now in
    let leaves = g.D.Disk.leaves in
    let base = c.in_ok-base.ensures in
    let undo = c.in_ok-undo.ensures in
    let redo = c.in_ok-redo.ensures in
    rowset_again files c.args.rowset.now.number dms c.in_ok-base.base c.in_ok-undo.undo c.in_ok-redo.redo c.args.rowset.now c.as_slice.result.now c.as_slice-2.result.now base.same c.as_slice.ensures c.as_slice-2.ensures whole stand
    (base.holds told files
    (there_first seen now leaves c.args.next.now c.rewrite_base.new.next c.rewrite_deltas.new.next c.rewrite_deltas-2.new.next c.args.disk.now c.rewrite_base.new.disk c.rewrite_deltas.new.disk c.rewrite_deltas-2.new.disk base.up undo.up redo.up (base.left told) (undo.left told) (redo.left told) files there) stand.base)
    (λ rows of stands. undo.holds told Undo rows of files
    (there_second seen now leaves c.args.next.now c.rewrite_base.new.next c.rewrite_deltas.new.next c.rewrite_deltas-2.new.next c.args.disk.now c.rewrite_base.new.disk c.rewrite_deltas.new.disk c.rewrite_deltas-2.new.disk base.up undo.up redo.up (base.left told) (undo.left told) (redo.left told) files there) stands)
    (λ rows of stands. redo.holds told Redo rows of files
    (there_third seen now leaves c.args.next.now c.rewrite_base.new.next c.rewrite_deltas.new.next c.rewrite_deltas-2.new.next c.args.disk.now c.rewrite_base.new.disk c.rewrite_deltas.new.disk c.rewrite_deltas-2.new.disk base.up undo.up redo.up (base.left told) (undo.left told) (redo.left told) files there) stands)

pub returns-clause-numbered : goal.returns-clause-numbered
returns-clause-numbered g c = record {
  number = refl;
  undo_at = c.rewrite_base.new.next;
  redo_at = c.rewrite_deltas.new.next;
  base = c.in_ok-base.ensures.numbered;
  undo = subst (λ (l : List FileHeld). AreNumbered c.rewrite_base.new.next c.rewrite_deltas.new.next (as_files l) (as_files c.in_ok-undo.undo)) c.as_slice.ensures c.in_ok-undo.ensures.numbered;
  redo = subst (λ (l : List FileHeld). AreNumbered c.rewrite_deltas.new.next c.rewrite_deltas-2.new.next (as_files l) (as_files c.in_ok-redo.redo)) c.as_slice-2.ensures c.in_ok-redo.ensures.numbered;
}
