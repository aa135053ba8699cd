use Rattle.std.proofs.Common.{◌≡◌, ◌≢◌, ◌-◌, length, sym, ◌∙◌, arith}
use Rattle.std.proofs.lemmas.Bool.{eqb-false}
use Rattle.kt_key.proofs.Decoding.{so_far_more, so_far_none, so_far_no_last}
use Rattle.kt_key.proofs.read.decode_key.Goals as goal

pub returns-in-None : goal.returns-in-None
returns-in-None c =
    so_far_none c.args.kinds.now c.args.bytes.now c.loop-at.at c.loop-at.cells.items c.loop-at.rest.now (omega arith) c.loop-at.invariant (rw c.in-None.is at c.in_ok-cell.ensures)

pub loop-at-preserved : goal.loop-at-preserved
loop-at-preserved c =
    let read = rw c.in-Some.is at c.in_ok-cell.ensures in
    so_far_more c.args.kinds.now c.args.bytes.now c.loop-at.at c.loop-at.cells.items c.loop-at.rest.now c.split_at.result.1.now c.in-Some.field-0.cell c.push.new.self.items (omega arith) c.loop-at.invariant
    read.0 read.1 (rw c.split_at.ensures.back read.2) c.in_ok-push-in-Some.ensures.items

pub returns-in-None-2 : goal.returns-in-None-2
returns-in-None-2 c =
    let some : length c.args.kinds.now ≢ 0 = eqb-false _ _ (sym c.is_empty.ensures ∙ c.if-is_empty.false) in
    let last : c.loop-at.at ≡ length c.args.kinds.now - 1 = omega arith in
    so_far_no_last c.args.kinds.now c.args.bytes.now (length c.args.kinds.now - 1) c.loop-at.cells.items c.loop-at.rest.now (omega arith) (rw last at c.loop-at.invariant) (rw c.in-None-2.is at c.in_ok-cell-2.ensures)
