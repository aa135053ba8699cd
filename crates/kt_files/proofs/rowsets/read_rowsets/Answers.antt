use Rattle.std.proofs.Common.{◌≡◌, ◌<◌, ◌∙◌, List, Err, length, get_or, sym, ap, arith}
use Rattle.kt_disk.proofs.Moments.{turns_then}
use Rattle.kt_super.specs.declared.meta.MetaRowset.{MetaRowset}
use Rattle.kt_files.specs.declared.refusal.FilesNo.{FilesNo}
use Rattle.kt_files.specs.declared.refusal.FilesNo.TheVariants.{Place}
use Rattle.kt_files.proofs.Lists.{all_more, first_fault, fresh_more, numbers_more, names_more}
use Rattle.kt_files.proofs.rowsets.read_rowsets.Goals as goal

pub returns-in-Err-clause-place : goal.returns-in-Err-clause-place
returns-in-Err-clause-place g c file offset e told =
    let no : c.in-Err.error ≡ Place file offset = cc in
    let list : List MetaRowset = c.args.meta.now.rowsets in
    let i = c.rowsets.rowset-index in
    let r = c.rowset-item.result in
    let listed : c.as_slice-rowset-items.result.now ≡ list = c.as_slice-rowset-items.ensures in
    let lt : i < length list = omega (arith, ap length listed) in
    let is : get_or list i r ≡ r = ap (λ (l : List MetaRowset). get_or l i r) (sym listed) ∙ sym c.rowset-item.is in
    first_fault (g.D.Disk.seen c.args.disk.now) (g.D.Disk.seen c.rowsets.disk) (c.rowsets.invariant.seen told) list i r c.rowsets.rowsets.items file offset lt is (c.rowsets.invariant.hold told)
    (c.read_rowset.ensures.place file offset (c.in-Err.is ∙ ap (λ (x : FilesNo). Err x) no) told)

pub rowsets-preserved : goal.rowsets-preserved
rowsets-preserved g c =
    let list : List MetaRowset = c.args.meta.now.rowsets in
    let i = c.rowsets.rowset-index in
    let r = c.rowset-item.result in
    let listed : c.as_slice-rowset-items.result.now ≡ list = c.as_slice-rowset-items.ensures in
    let lt : i < length list = omega (arith, ap length listed) in
    let is : get_or list i r ≡ r = ap (λ (l : List MetaRowset). get_or l i r) (sym listed) ∙ sym c.rowset-item.is in
    record {
      hold = λ told. all_more (g.D.Disk.seen c.args.disk.now) (g.D.Disk.seen c.rowsets.disk) (c.rowsets.invariant.seen told) list i r c.rowsets.rowsets.items c.push.new.self.items c.in-Ok.value lt is
          (c.rowsets.invariant.hold told) c.in_ok-push.ensures.items (c.in-Ok.ensures.holds told);
      named = names_more list i r c.rowsets.rowsets.items c.push.new.self.items c.in-Ok.value lt is c.rowsets.invariant.named c.in_ok-push.ensures.items c.in-Ok.ensures.named;
      fresh = fresh_more c.rowsets.rowsets.items c.push.new.self.items c.in-Ok.value c.rowsets.invariant.fresh c.in_ok-push.ensures.items c.in-Ok.ensures.fresh;
      numbers = numbers_more list i r c.rowsets.rowsets.items c.push.new.self.items c.in-Ok.value lt is c.rowsets.invariant.numbers c.in_ok-push.ensures.items c.in-Ok.ensures.number;
      seen = λ told. c.read_rowset.ensures.seen told ∙ c.rowsets.invariant.seen told;
      images = λ told. turns_then _ _ _ _ _ (c.rowsets.invariant.images told) (c.read_rowset.ensures.images told);
      faults = (let before = c.rowsets.invariant.faults in let more = c.read_rowset.ensures.faults in omega arith);
    }
