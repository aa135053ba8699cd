use Rattle.std.proofs.Common.{◌≡◌, ◌<◌, List, [], length, map, get_or, refl, sym, ap, subst, ◌∙◌, arith, rules}
use Rattle.std.proofs.lemmas.List.{take_all}
use Rattle.kt_diskrowset.specs.declared.data.RowSetData.{RowSetData}
use Rattle.kt_diskrowset.specs.Data.{files_in, held_in}
use Rattle.kt_files.specs.Reading.{HoldAll}
use Rattle.kt_outputs.specs.Named.{IsShort, AreShort}
use Rattle.kt_outputs.proofs.Named.{all_and}
use Rattle.kt_outputs.specs.Outputs.{meta_in, all_file_numbers, CountUp, IsWhole, AreWhole, AreWritten}
use Rattle.kt_outputs.proofs.Written.{left_none, stable_none, free_then, left_then, stable_then, there_before, there_behind, all_written, written_more, whole_more, counted_rowsets}
use Rattle.kt_outputs.proofs.outputs.write_outputs.Goals as goal

pub returns-in_err-rowsets-clause-left : goal.returns-in_err-rowsets-clause-left
returns-in_err-rowsets-clause-left g c told = left_none g.D.Disk.seen g.D.Disk.now g.D.Disk.leaves c.args.next.now.file c.args.disk.now

pub outputs-init : goal.outputs-init
outputs-init g c = record {
  long = search rules;
  room = search rules;
  rowset = omega arith;
  written = subst (AreWritten c.args.next.now.rowset []) (sym c.in_ok-rowsets.ensures.items) tt;
  holds = λ told whole files there. subst (λ (l : List RowSetData). HoldAll files (map (meta_in 0) l) (map held_in l)) (sym c.in_ok-rowsets.ensures.items) tt;
  numbered = subst (λ (l : List RowSetData). CountUp c.args.next.now.file c.args.next.now.file (all_file_numbers l)) (sym c.in_ok-rowsets.ensures.items) refl;
  short = subst AreShort (sym c.in_ok-rowsets.ensures.items) tt;
  up = omega arith;
  few_rowsets = λ few. few;
  few_files = omega arith;
  stable = λ told. stable_none g.D.Disk.seen g.D.Disk.now g.D.Disk.leaves c.args.next.now.file c.args.disk.now;
  left = λ told. left_none g.D.Disk.seen g.D.Disk.now g.D.Disk.leaves c.args.next.now.file c.args.disk.now;
  faults = omega arith;
}

pub write_rowset-requires-clause-vacant : goal.write_rowset-requires-clause-vacant
write_rowset-requires-clause-vacant g c = λ told.
    free_then g.D.Disk.seen g.D.Disk.now g.D.Disk.leaves c.args.next.now.file c.outputs.next.file c.outputs.next.file c.args.disk.now c.outputs.disk c.outputs.disk c.outputs.invariant.up (omega arith) (c.outputs.invariant.left told) (c.requires.vacant told)

pub returns-in_err-written-clause-left : goal.returns-in_err-written-clause-left
returns-in_err-written-clause-left g c = λ told.
    left_then g.D.Disk.seen g.D.Disk.now g.D.Disk.leaves c.args.next.now.file c.outputs.next.file c.write_rowset.new.next c.args.disk.now c.outputs.disk c.write_rowset.new.disk c.outputs.invariant.up c.write_rowset.ensures.up (c.outputs.invariant.left told) (c.write_rowset.ensures.left told)

pub outputs-preserved : goal.outputs-preserved
outputs-preserved g c =
    let seen = g.D.Disk.seen in
    let now = g.D.Disk.now in
    let leaves = g.D.Disk.leaves in
    let i = c.outputs.invariant in
    let e = c.in_ok-written.ensures in
    let rowsets : List RowSetData = c.args.outputs.now.rowsets in
    let k = c.outputs.rowset-index in
    let x = c.rowset-item.result in
    let lt : k < length rowsets = omega (arith, c.outputs-test.true, ap (λ (l : List RowSetData). length l) c.as_slice-rowset-items.ensures) in
    let is : x ≡ get_or rowsets k x = c.rowset-item.is ∙ ap (λ (l : List RowSetData). get_or l k x) c.as_slice-rowset-items.ensures in
    record {
      long = (let a = c.push_reserved.ensures.len in let b = i.long in omega arith);
      room = (let a = c.push_reserved.ensures.capacity in let b = i.room in omega arith);
      rowset = (let a = i.rowset in omega arith);
      written = written_more c.args.next.now.rowset c.outputs.next.rowset rowsets c.outputs.rowsets.items c.push_reserved.new.self.items k x c.in_ok-written.written lt i.written c.push_reserved.ensures.items i.rowset
          (e.same ∙ ap (λ (d : RowSetData). record (files_in d) { rowset = c.outputs.next.rowset }) is) e.fresh;
      holds = λ told whole files there.
          let parts = whole_more rowsets k x lt whole in
          all_written files c.outputs.rowsets.items c.push_reserved.new.self.items c.in_ok-written.written c.push_reserved.ensures.items
          (i.holds told parts.0 files (there_before seen now leaves c.args.next.now.file c.outputs.next.file c.write_rowset.new.next c.args.disk.now c.outputs.disk c.write_rowset.new.disk i.up e.up (e.left told) files there))
          (e.holds told (subst IsWhole (sym is) parts.1) files (there_behind seen now leaves c.args.next.now.file c.outputs.next.file c.write_rowset.new.next c.args.disk.now c.outputs.disk c.write_rowset.new.disk i.up e.up files there));
      numbered = counted_rowsets c.args.next.now.file c.outputs.next.file c.write_rowset.new.next c.outputs.rowsets.items c.push_reserved.new.self.items c.in_ok-written.written c.push_reserved.ensures.items i.numbered e.numbered;
      short = all_and (λ (d : RowSetData). IsShort d) c.outputs.rowsets.items c.push_reserved.new.self.items c.in_ok-written.written c.push_reserved.ensures.items i.short e.short;
      up = (let a = i.up in let b = e.up in omega arith);
      few_rowsets = λ few. omega arith;
      few_files = (let a = i.few_files in let b = e.few in omega arith);
      stable = λ told. stable_then seen now leaves c.args.next.now.file c.outputs.next.file c.write_rowset.new.next c.args.disk.now c.outputs.disk c.write_rowset.new.disk i.up e.up (i.stable told) (e.left told) (e.stable told);
      left = λ told. left_then seen now leaves c.args.next.now.file c.outputs.next.file c.write_rowset.new.next c.args.disk.now c.outputs.disk c.write_rowset.new.disk i.up e.up (i.left told) (e.left told);
      faults = (let a = i.faults in let b = e.faults in omega arith);
    }

pub returns-clause-written : goal.returns-clause-written
returns-clause-written g c =
    subst (AreWritten c.args.next.now.rowset c.args.outputs.now.rowsets) (sym c.of.ensures)
    (subst (λ (l : List RowSetData). AreWritten c.args.next.now.rowset l c.outputs.rowsets.items) (take_all c.outputs.rowset-index c.args.outputs.now.rowsets (let a = ap (λ (l : List RowSetData). length l) c.as_slice-rowset-items.ensures in omega arith)) c.outputs.invariant.written)

pub returns-clause-holds : goal.returns-clause-holds
returns-clause-holds g c = λ told whole files there.
    subst (λ (l : List RowSetData). HoldAll files (map (meta_in 0) l) (map held_in l)) (sym c.of.ensures)
    (c.outputs.invariant.holds told (subst AreWhole (sym (take_all c.outputs.rowset-index c.args.outputs.now.rowsets (let a = ap (λ (l : List RowSetData). length l) c.as_slice-rowset-items.ensures in omega arith))) whole) files there)

pub returns-clause-numbered : goal.returns-clause-numbered
returns-clause-numbered g c =
    subst (λ (l : List RowSetData). CountUp c.args.next.now.file c.outputs.next.file (all_file_numbers l)) (sym c.of.ensures) c.outputs.invariant.numbered

pub returns-clause-short : goal.returns-clause-short
returns-clause-short g c = subst AreShort (sym c.of.ensures) c.outputs.invariant.short
