use Rattle.std.proofs.Common.{Bool, sym, ◌∙◌, arith}
use Rattle.kt_diskrowset.specs.declared.rowset.DiskRowSet.{DiskRowSet}
use Rattle.kt_diskrowset.specs.Rowset.{name_of}
use Rattle.kt_stores.specs.Shelf.{is_rowset}
use Rattle.kt_stores.proofs.Ordered.{read_is}
use Rattle.kt_stores.proofs.Seeking.{position_is, fail_next, seek_here, seek_past}
use Rattle.kt_stores.proofs.stores.rewriting.first_numbered.Goals as goal

pub returns-then-has_number : goal.returns-then-has_number
returns-then-has_number c =
    let p : DiskRowSet → Bool = λ r. is_rowset c.args.number (name_of r) in
    let here = read_is c.args.rowsets.now c.loop-at.at c.index-rowsets-at.result (omega arith) c.index-rowsets-at.is in
    sym (position_is p c.args.rowsets.now ∙ seek_here p c.loop-at.at c.args.rowsets.now c.index-rowsets-at.result c.loop-at.invariant here (sym c.has_number.ensures ∙ c.if-has_number.true))

pub loop-at-preserved : goal.loop-at-preserved
loop-at-preserved c =
    let p : DiskRowSet → Bool = λ r. is_rowset c.args.number (name_of r) in
    let here = read_is c.args.rowsets.now c.loop-at.at c.index-rowsets-at.result (omega arith) c.index-rowsets-at.is in
    fail_next p c.loop-at.at c.args.rowsets.now c.index-rowsets-at.result c.loop-at.invariant here (sym c.has_number.ensures ∙ c.if-has_number.false)

pub returns : goal.returns
returns c =
    let p : DiskRowSet → Bool = λ r. is_rowset c.args.number (name_of r) in
    sym (position_is p c.args.rowsets.now ∙ seek_past p c.args.rowsets.now (λ k y low here. c.loop-at.invariant k y (omega arith) here))
