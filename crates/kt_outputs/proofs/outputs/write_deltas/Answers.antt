use Rattle.std.proofs.Common.{◌≡◌, true, ◌≤◌, ◌<◌, List, length, map, refl, sym, ap, subst, ◌∙◌, arith, rules}
use Rattle.std.proofs.lemmas.List.{take_all}
use Rattle.kt_diskrowset.specs.declared.files.FileHeld.{FileHeld}
use Rattle.kt_diskrowset.specs.Files.{as_files, lists_of}
use Rattle.kt_files.specs.Reading.{HoldEach}
use Rattle.kt_super.specs.Rowsets.{is_small}
use Rattle.kt_outputs.specs.Named.{AreShortFiles}
use Rattle.kt_outputs.proofs.Named.{all_and}
use Rattle.kt_outputs.specs.Outputs.{delta_ref, delta_numbers, CountUp, IsOfWay, AreOfWay}
use Rattle.kt_outputs.proofs.Written.{left_none, stable_none, free_then, left_then, stable_then, there_before, there_behind, lists_more, each_written, of_way_more, counted_files}
use Rattle.kt_outputs.proofs.outputs.write_deltas.Goals as goal

pub returns-in_err-files-clause-left : goal.returns-in_err-files-clause-left
returns-in_err-files-clause-left g c told = left_none g.D.Disk.seen g.D.Disk.now g.D.Disk.leaves c.args.next.now c.args.disk.now

pub deltas-init : goal.deltas-init
deltas-init g c = record {
  long = search rules;
  room = search rules;
  same = ap lists_of c.in_ok-files.ensures.items;
  holds = λ told way rows of files there. subst (λ (l : List FileHeld). HoldEach files way rows (map delta_ref l) (as_files l)) (sym c.in_ok-files.ensures.items) tt;
  numbered = subst (λ (l : List FileHeld). CountUp c.args.next.now c.args.next.now (delta_numbers l)) (sym c.in_ok-files.ensures.items) refl;
  short = subst AreShortFiles (sym c.in_ok-files.ensures.items) tt;
  up = omega arith;
  few = omega arith;
  stable = λ told. stable_none g.D.Disk.seen g.D.Disk.now g.D.Disk.leaves c.args.next.now c.args.disk.now;
  left = λ told. left_none g.D.Disk.seen g.D.Disk.now g.D.Disk.leaves c.args.next.now c.args.disk.now;
  faults = omega arith;
}

pub write_delta-requires-clause-vacant : goal.write_delta-requires-clause-vacant
write_delta-requires-clause-vacant g c = λ told.
    free_then g.D.Disk.seen g.D.Disk.now g.D.Disk.leaves c.args.next.now c.deltas.next c.deltas.next c.args.disk.now c.deltas.disk c.deltas.disk c.deltas.invariant.up (omega arith) (c.deltas.invariant.left told) (c.requires.vacant told)

pub returns-in_err-file-clause-left : goal.returns-in_err-file-clause-left
returns-in_err-file-clause-left g c = λ told.
    left_then g.D.Disk.seen g.D.Disk.now g.D.Disk.leaves c.args.next.now c.deltas.next c.write_delta.new.next c.args.disk.now c.deltas.disk c.write_delta.new.disk c.deltas.invariant.up c.write_delta.ensures.up (c.deltas.invariant.left told) (c.write_delta.ensures.left told)

pub deltas-preserved : goal.deltas-preserved
deltas-preserved g c =
    let seen = g.D.Disk.seen in
    let now = g.D.Disk.now in
    let leaves = g.D.Disk.leaves in
    let i = c.deltas.invariant in
    let e = c.in_ok-file.ensures in
    let up : c.deltas.next ≤ c.write_delta.new.next = e.up in
    let lt : c.deltas.delta-index < length c.args.deltas.now = c.deltas-test.true in
    record {
      long = (let a = c.push_reserved.ensures.len in let b = i.long in omega arith);
      room = (let a = c.push_reserved.ensures.capacity in let b = i.room in omega arith);
      same = lists_more c.args.deltas.now c.deltas.delta-index c.delta-item.result c.in_ok-file.file c.deltas.files.items c.push_reserved.new.self.items lt i.same c.push_reserved.ensures.items (e.same ∙ ap (λ (f : FileHeld). f.deltas.value) c.delta-item.is);
      holds = λ told way rows of files there.
          let parts = of_way_more way rows c.args.deltas.now c.deltas.delta-index c.delta-item.result lt of in
          each_written files way rows c.deltas.files.items c.push_reserved.new.self.items c.in_ok-file.file c.push_reserved.ensures.items
          (i.holds told way rows parts.0 files (there_before seen now leaves c.args.next.now c.deltas.next c.write_delta.new.next c.args.disk.now c.deltas.disk c.write_delta.new.disk i.up up (e.left told) files there))
          (e.holds told way rows (subst (IsOfWay way rows) (sym c.delta-item.is) parts.1) files (there_behind seen now leaves c.args.next.now c.deltas.next c.write_delta.new.next c.args.disk.now c.deltas.disk c.write_delta.new.disk i.up up files there));
      numbered = counted_files c.args.next.now c.deltas.next c.write_delta.new.next c.deltas.files.items c.push_reserved.new.self.items c.in_ok-file.file c.push_reserved.ensures.items i.numbered e.number e.given;
      short = all_and (λ (f : FileHeld). is_small f.len ≡ true) c.deltas.files.items c.push_reserved.new.self.items c.in_ok-file.file c.push_reserved.ensures.items i.short e.short;
      up = (let a = i.up in omega arith);
      few = (let a = i.few in let b = e.few in omega arith);
      stable = λ told. stable_then seen now leaves c.args.next.now c.deltas.next c.write_delta.new.next c.args.disk.now c.deltas.disk c.write_delta.new.disk i.up up (i.stable told) (e.left told) (e.stable told);
      left = λ told. left_then seen now leaves c.args.next.now c.deltas.next c.write_delta.new.next c.args.disk.now c.deltas.disk c.write_delta.new.disk i.up up (i.left told) (e.left told);
      faults = (let a = i.faults in let b = e.faults in omega arith);
    }

pub returns-clause-same : goal.returns-clause-same
returns-clause-same g c = ap lists_of c.of.ensures ∙ c.deltas.invariant.same ∙ ap lists_of (take_all c.deltas.delta-index c.args.deltas.now (omega arith))

pub returns-clause-holds : goal.returns-clause-holds
returns-clause-holds g c = λ told way rows of files there.
    subst (λ (l : List FileHeld). HoldEach files way rows (map delta_ref l) (as_files l)) (sym c.of.ensures)
    (c.deltas.invariant.holds told way rows (subst (AreOfWay way rows) (sym (take_all c.deltas.delta-index c.args.deltas.now (omega arith))) of) files there)

pub returns-clause-numbered : goal.returns-clause-numbered
returns-clause-numbered g c = subst (λ (l : List FileHeld). CountUp c.args.next.now c.deltas.next (delta_numbers l)) (sym c.of.ensures) c.deltas.invariant.numbered

pub returns-clause-short : goal.returns-clause-short
returns-clause-short g c = subst AreShortFiles (sym c.of.ensures) c.deltas.invariant.short
