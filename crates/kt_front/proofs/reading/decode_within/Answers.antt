use Rattle.std.proofs.Common.{◌∙◌, ap, arith}
use Rattle.kt_bytes.proofs.Numbers.{IsBytes}
use Rattle.kt_front.specs.Items.{items_in}
use Rattle.kt_front.proofs.Blocks.{whole_read, items_are, spells_any, held}
use Rattle.kt_front.proofs.Faults.{cause_among, not_among}
use Rattle.kt_front.proofs.reading.decode_within.Goals as goal

pub of-requires-in-Ok : goal.of-requires-in-Ok
of-requires-in-Ok c =
    let fits : IsBytes c.args.bytes.now = λ i. omega (arith, c.type_inv.bytes i) in
    held c.args.n c.args.bytes.now c.in_ok-held-in-Ok.held c.in_ok-starts-in-Ok.starts (omega arith) c.in_ok-held-in-Ok.ensures (spells_any c.args.most c.args.bytes.now c.args.n _ (omega arith) (whole_read c.args.most c.args.n c.args.bytes.now (omega arith) fits c.in-Ok.ensures)) c.in_ok-starts-in-Ok.ensures

pub returns-in_ok-held-in-Ok-clause-found : goal.returns-in_ok-held-in-Ok-clause-found
returns-in_ok-held-in-Ok-clause-found c =
    let fits : IsBytes c.args.bytes.now = λ i. omega (arith, c.type_inv.bytes i) in
    rw (c.of-in-Ok.ensures, c.in_ok-held-in-Ok.ensures) (whole_read c.args.most c.args.n c.args.bytes.now (omega arith) fits c.in-Ok.ensures)

pub returns-in_ok-held-in-Ok-clause-only : goal.returns-in_ok-held-in-Ok-clause-only
returns-in_ok-held-in-Ok-clause-only c = λ items s. c.of-in-Ok.ensures ∙ (ap (items_in c.args.n) c.in_ok-held-in-Ok.ensures ∙ items_are c.args.most c.args.bytes.now c.args.n items (omega arith) s)

pub returns-in-Err-clause-only : goal.returns-in-Err-clause-only
returns-in-Err-clause-only c = λ items s. not_among c.args.most c.args.n c.args.bytes.now items c.in-Err.stop c.among.result (omega arith) s c.in-Err.ensures c.among.ensures

pub returns-in-Err-clause-place : goal.returns-in-Err-clause-place
returns-in-Err-clause-place c =
    let fits : IsBytes c.args.bytes.now = λ i. omega (arith, c.type_inv.bytes i) in
    cause_among c.args.most c.args.n c.args.bytes.now c.in-Err.stop c.among.result (omega arith) fits c.in-Err.ensures c.among.ensures
