use Rattle.std.proofs.Common.{◌≢◌, ◌≤◌, ◌<◌, List, [], ◌∷◌, length, map, refl, sym, ap, subst, ◌∙◌, arith, rules}
use Rattle.std.proofs.lemmas.List.{take_all}
use Rattle.kt_diskrowset.specs.declared.files.FileHeld.{FileHeld}
use Rattle.kt_diskrowset.specs.Files.{as_file, as_files, lists_of}
use Rattle.kt_files.specs.Reading.{HoldsDeltas, HoldEach}
use Rattle.kt_outputs.specs.Outputs.{delta_ref, IsOfWay, AreOfWay}
use Rattle.kt_outputs.specs.Rewriting.{AreNumbered, EachStands}
use Rattle.kt_outputs.proofs.Numbered.{numbered_more, stands_more}
use Rattle.kt_outputs.proofs.Written.{left_none, stable_none, free_then, left_then, stable_then, there_before, there_behind, lists_more, each_written, of_way_more}
use Rattle.kt_outputs.proofs.rewriting.rewrite_deltas.Goals as goal

pub returns-in_err-files-clause-left : goal.returns-in_err-files-clause-left
returns-in_err-files-clause-left g c told = left_none g.D.Disk.seen g.D.Disk.now g.D.Disk.leaves c.args.next.now c.args.disk.now

pub deltas-init : goal.deltas-init
deltas-init g c = record {
  long = search rules;
  room = search rules;
  same = ap lists_of c.in_ok-files.ensures.items;
  holds = λ told way rows of files there stands. subst (λ (l : List FileHeld). HoldEach files way rows (map delta_ref l) (as_files l)) (sym c.in_ok-files.ensures.items) tt;
  numbered = subst (λ (l : List FileHeld). AreNumbered c.args.next.now c.args.next.now (as_files []) (as_files l)) (sym c.in_ok-files.ensures.items) refl;
  up = omega arith;
  few = omega arith;
  stable = λ told. stable_none g.D.Disk.seen g.D.Disk.now g.D.Disk.leaves c.args.next.now c.args.disk.now;
  left = λ told. left_none g.D.Disk.seen g.D.Disk.now g.D.Disk.leaves c.args.next.now c.args.disk.now;
  faults = omega arith;
}

pub rewrite_delta-requires-clause-vacant : goal.rewrite_delta-requires-clause-vacant
rewrite_delta-requires-clause-vacant g c = λ told.
    free_then g.D.Disk.seen g.D.Disk.now g.D.Disk.leaves c.args.next.now c.deltas.next c.deltas.next c.args.disk.now c.deltas.disk c.deltas.disk c.deltas.invariant.up (omega arith) (c.deltas.invariant.left told) (c.requires.vacant told)

pub returns-in_err-file-clause-left : goal.returns-in_err-file-clause-left
returns-in_err-file-clause-left g c = λ told.
    left_then g.D.Disk.seen g.D.Disk.now g.D.Disk.leaves c.args.next.now c.deltas.next c.rewrite_delta.new.next c.args.disk.now c.deltas.disk c.rewrite_delta.new.disk c.deltas.invariant.up c.rewrite_delta.ensures.up (c.deltas.invariant.left told) (c.rewrite_delta.ensures.left told)

pub deltas-preserved : goal.deltas-preserved
deltas-preserved g c =
    let seen = g.D.Disk.seen in
    let now = g.D.Disk.now in
    let leaves = g.D.Disk.leaves in
    let i = c.deltas.invariant in
    let e = c.in_ok-file.ensures in
    let up : c.deltas.next ≤ c.rewrite_delta.new.next = e.up in
    let lt : c.deltas.delta-index < length c.args.deltas.now = c.deltas-test.true in
    record {
      long = (let a = c.push_reserved.ensures.len in let b = i.long in omega arith);
      room = (let a = c.push_reserved.ensures.capacity in let b = i.room in omega arith);
      same = lists_more c.args.deltas.now c.deltas.delta-index c.delta-item.result c.in_ok-file.file c.deltas.files.items c.push_reserved.new.self.items lt i.same c.push_reserved.ensures.items (e.same ∙ ap (λ (f : FileHeld). f.deltas.value) c.delta-item.is);
      holds = λ told way rows of files there stands.
          let parts = of_way_more way rows c.args.deltas.now c.deltas.delta-index c.delta-item.result lt of in
          let stand = stands_more files way rows c.args.deltas.now c.deltas.delta-index c.delta-item.result lt stands in
          each_written files way rows c.deltas.files.items c.push_reserved.new.self.items c.in_ok-file.file c.push_reserved.ensures.items
          (i.holds told way rows parts.0 files (there_before seen now leaves c.args.next.now c.deltas.next c.rewrite_delta.new.next c.args.disk.now c.deltas.disk c.rewrite_delta.new.disk i.up up (e.left told) files there) stand.0)
          (e.holds told way rows (subst (IsOfWay way rows) (sym c.delta-item.is) parts.1) files (there_behind seen now leaves c.args.next.now c.deltas.next c.rewrite_delta.new.next c.args.disk.now c.deltas.disk c.rewrite_delta.new.disk i.up up files there)
          (subst (λ (f : FileHeld). f.file ≢ 0 → HoldsDeltas files way rows (delta_ref f) (as_file f)) (sym c.delta-item.is) stand.1));
      numbered = numbered_more c.args.next.now c.deltas.next c.rewrite_delta.new.next c.args.deltas.now c.deltas.delta-index c.delta-item.result c.in_ok-file.file c.deltas.files.items c.push_reserved.new.self.items lt c.push_reserved.ensures.items i.numbered
          (subst (λ (f : FileHeld). AreNumbered c.deltas.next c.rewrite_delta.new.next (as_file f ∷ []) (as_file c.in_ok-file.file ∷ [])) c.delta-item.is e.numbered);
      up = (let a = i.up in omega arith);
      few = (let a = i.few in let b = e.few in omega arith);
      stable = λ told. stable_then seen now leaves c.args.next.now c.deltas.next c.rewrite_delta.new.next c.args.disk.now c.deltas.disk c.rewrite_delta.new.disk i.up up (i.stable told) (e.left told) (e.stable told);
      left = λ told. left_then seen now leaves c.args.next.now c.deltas.next c.rewrite_delta.new.next c.args.disk.now c.deltas.disk c.rewrite_delta.new.disk i.up up (i.left told) (e.left told);
      faults = (let a = i.faults in let b = e.faults in omega arith);
    }

pub returns-clause-same : goal.returns-clause-same
returns-clause-same g c = ap lists_of c.of.ensures ∙ c.deltas.invariant.same ∙ ap lists_of (take_all c.deltas.delta-index c.args.deltas.now (omega arith))

pub returns-clause-holds : goal.returns-clause-holds
returns-clause-holds g c = λ told way rows of files there stands.
    let all = take_all c.deltas.delta-index c.args.deltas.now (omega arith) in
    subst (λ (l : List FileHeld). HoldEach files way rows (map delta_ref l) (as_files l)) (sym c.of.ensures)
    (c.deltas.invariant.holds told way rows (subst (AreOfWay way rows) (sym all) of) files there (subst (EachStands files way rows) (sym all) stands))

pub returns-clause-numbered : goal.returns-clause-numbered
returns-clause-numbered g c =
    subst (λ (l : List FileHeld). AreNumbered c.args.next.now c.deltas.next (as_files c.args.deltas.now) (as_files l)) (sym c.of.ensures)
    (subst (λ (l : List FileHeld). AreNumbered c.args.next.now c.deltas.next (as_files l) (as_files c.deltas.files.items)) (take_all c.deltas.delta-index c.args.deltas.now (omega arith)) c.deltas.invariant.numbered)
