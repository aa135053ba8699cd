use Rattle.std.proofs.Common.{◌≡◌, ◌<◌, List, [], length, map, get_or, refl, sym, ap, subst, ◌∙◌, arith, rules}
use Rattle.std.proofs.lemmas.List.{take_all}
use Rattle.kt_diskrowset.specs.declared.data.RowSetData.{RowSetData}
use Rattle.kt_diskrowset.specs.Data.{files_in, held_in}
use Rattle.kt_files.specs.Reading.{HoldAll}
use Rattle.kt_outputs.specs.Outputs.{meta_in, IsWhole, AreWhole}
use Rattle.kt_outputs.specs.Rewriting.{HasNumbers, KeptStand}
use Rattle.kt_outputs.specs.Again.{AreAgain, AllNumbered, AllKeptStand}
use Rattle.kt_outputs.proofs.AllNumbered.{again_more, all_numbered_more, kept_more}
use Rattle.kt_outputs.proofs.Written.{left_none, stable_none, free_then, left_then, stable_then, there_before, there_behind, all_written, whole_more}
use Rattle.kt_outputs.proofs.again.write_again.Goals as goal

pub returns-in_err-rowsets-clause-left : goal.returns-in_err-rowsets-clause-left
returns-in_err-rowsets-clause-left g c told = left_none g.D.Disk.seen g.D.Disk.now g.D.Disk.leaves c.args.next.now.file c.args.disk.now

pub outputs-init : goal.outputs-init
outputs-init g c = record {
  long = search rules;
  room = search rules;
  rowset = refl;
  again = subst (AreAgain []) (sym c.in_ok-rowsets.ensures.items) tt;
  holds = λ told whole files there stand. subst (λ (l : List RowSetData). HoldAll files (map (meta_in 0) l) (map held_in l)) (sym c.in_ok-rowsets.ensures.items) tt;
  numbered = subst (AllNumbered c.args.next.now.file c.args.next.now.file []) (sym c.in_ok-rowsets.ensures.items) refl;
  up = omega arith;
  few = omega arith;
  stable = λ told. stable_none g.D.Disk.seen g.D.Disk.now g.D.Disk.leaves c.args.next.now.file c.args.disk.now;
  left = λ told. left_none g.D.Disk.seen g.D.Disk.now g.D.Disk.leaves c.args.next.now.file c.args.disk.now;
  faults = omega arith;
}

pub write_rewritten-requires-clause-vacant : goal.write_rewritten-requires-clause-vacant
write_rewritten-requires-clause-vacant g c = λ told.
    free_then g.D.Disk.seen g.D.Disk.now g.D.Disk.leaves c.args.next.now.file c.outputs.next.file c.outputs.next.file c.args.disk.now c.outputs.disk c.outputs.disk c.outputs.invariant.up (omega arith) (c.outputs.invariant.left told) (c.requires.vacant told)

pub returns-in_err-written-clause-left : goal.returns-in_err-written-clause-left
returns-in_err-written-clause-left g c = λ told.
    left_then g.D.Disk.seen g.D.Disk.now g.D.Disk.leaves c.args.next.now.file c.outputs.next.file c.write_rewritten.new.next.file c.args.disk.now c.outputs.disk c.write_rewritten.new.disk c.outputs.invariant.up c.write_rewritten.ensures.up (c.outputs.invariant.left told) (c.write_rewritten.ensures.left told)

pub outputs-preserved : goal.outputs-preserved
outputs-preserved g c =
    let seen = g.D.Disk.seen in
    let now = g.D.Disk.now in
    let leaves = g.D.Disk.leaves in
    let i = c.outputs.invariant in
    let e = c.in_ok-written.ensures in
    let rowsets : List RowSetData = c.args.outputs.now.rowsets in
    let first = c.args.next.now.file in
    let at = c.outputs.next.file in
    let next = c.write_rewritten.new.next.file in
    let items = c.outputs.rowsets.items in
    let more = c.push_reserved.new.self.items in
    let d = c.in_ok-written.written in
    let k = c.outputs.rowset-index in
    let x = c.rowset-item.result in
    let lt : k < length rowsets = omega (arith, c.outputs-test.true, ap (λ (l : List RowSetData). length l) c.as_slice-rowset-items.ensures) in
    let is : x ≡ get_or rowsets k x = c.rowset-item.is ∙ ap (λ (l : List RowSetData). get_or l k x) c.as_slice-rowset-items.ensures in
    record {
      long = (let a = c.push_reserved.ensures.len in let b = i.long in omega arith);
      room = (let a = c.push_reserved.ensures.capacity in let b = i.room in omega arith);
      rowset = e.rowset ∙ i.rowset;
      again = again_more rowsets items more k x d lt c.push_reserved.ensures.items i.again (e.same ∙ ap files_in is) e.fresh;
      holds = λ told whole files there stand.
          let parts = whole_more rowsets k x lt whole in
          let kept = kept_more files rowsets k x lt stand in
          all_written files items more d c.push_reserved.ensures.items
          (i.holds told parts.0 files (there_before seen now leaves first at next c.args.disk.now c.outputs.disk c.write_rewritten.new.disk i.up e.up (e.left told) files there) kept.0)
          (e.holds told (subst IsWhole (sym is) parts.1) 0 files (there_behind seen now leaves first at next c.args.disk.now c.outputs.disk c.write_rewritten.new.disk i.up e.up files there) (subst (KeptStand files) (sym is) kept.1));
      numbered = all_numbered_more rowsets items more k x d lt c.push_reserved.ensures.items first at next i.numbered (subst (λ (r : RowSetData). HasNumbers at next (held_in r) (held_in d)) is e.numbered);
      up = (let a = i.up in let b = e.up in omega arith);
      few = (let a = i.few in let b = e.few in omega arith);
      stable = λ told. stable_then seen now leaves first at next c.args.disk.now c.outputs.disk c.write_rewritten.new.disk i.up e.up (i.stable told) (e.left told) (e.stable told);
      left = λ told. left_then seen now leaves first at next c.args.disk.now c.outputs.disk c.write_rewritten.new.disk i.up e.up (i.left told) (e.left told);
      faults = (let a = i.faults in let b = e.faults in omega arith);
    }

pub returns-clause-again : goal.returns-clause-again
returns-clause-again g c =
    let all = take_all c.outputs.rowset-index c.args.outputs.now.rowsets (let a = ap (λ (l : List RowSetData). length l) c.as_slice-rowset-items.ensures in omega arith) in
    subst (AreAgain c.args.outputs.now.rowsets) (sym c.of.ensures) (subst (λ (l : List RowSetData). AreAgain l c.outputs.rowsets.items) all c.outputs.invariant.again)

pub returns-clause-holds : goal.returns-clause-holds
returns-clause-holds g c = λ told whole files there stand.
    let all = take_all c.outputs.rowset-index c.args.outputs.now.rowsets (let a = ap (λ (l : List RowSetData). length l) c.as_slice-rowset-items.ensures in omega arith) in
    subst (λ (l : List RowSetData). HoldAll files (map (meta_in 0) l) (map held_in l)) (sym c.of.ensures)
    (c.outputs.invariant.holds told (subst AreWhole (sym all) whole) files there (subst (AllKeptStand files) (sym all) stand))

pub returns-clause-numbered : goal.returns-clause-numbered
returns-clause-numbered g c =
    let all = take_all c.outputs.rowset-index c.args.outputs.now.rowsets (let a = ap (λ (l : List RowSetData). length l) c.as_slice-rowset-items.ensures in omega arith) in
    subst (AllNumbered c.args.next.now.file c.outputs.next.file c.args.outputs.now.rowsets) (sym c.of.ensures)
    (subst (λ (l : List RowSetData). AllNumbered c.args.next.now.file c.outputs.next.file l c.outputs.rowsets.items) all c.outputs.invariant.numbered)
