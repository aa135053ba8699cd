use Rattle.std.proofs.Common.{Ok, Err, ◌∙◌, refl, arith, ap}
use Rattle.std.specs.Ordering.{nat_cmp}
use Rattle.std.proofs.lemmas.List.{length-set}
use Rattle.std.proofs.lemmas.List.Edits.{length-insert}
use Rattle.kt_history.proofs.PlaceLaws.{says_at}
use Rattle.kt_history.proofs.Merging.{set_below, insert_below}
use Rattle.kt_history.proofs.row_ref.put_behind.Goals as goal

pub index_mut-requires : goal.index_mut-requires
index_mut-requires c = omega (arith, (says_at nat_cmp c.args.id c.args.cell c.deref.result.now c.deref.result.now (Ok c.in-Ok.at) refl c.in-Ok.ensures.place).0, c.deref.ensures.len)

pub insert_at-requires : goal.insert_at-requires
insert_at-requires c = omega (arith, (says_at nat_cmp c.args.id c.args.cell c.deref.result.now c.deref.result.now (Err c.in-Err.at) refl c.in-Err.ensures.place).0, c.deref.ensures.len)

pub returns-in-Ok-clause-put : goal.returns-in-Ok-clause-put
returns-in-Ok-clause-put c = (says_at nat_cmp c.args.id c.args.cell c.args.cells.now.items c.deref.result.now (Ok c.in-Ok.at) c.deref.ensures.value c.in-Ok.ensures.place).1 c.index_mut.result.now c.index_mut.ensures.value

pub returns-in-Ok-clause-bound : goal.returns-in-Ok-clause-bound
returns-in-Ok-clause-bound c =
    let within = (says_at nat_cmp c.args.id c.args.cell c.args.cells.now.items c.deref.result.now (Ok c.in-Ok.at) c.deref.ensures.value c.in-Ok.ensures.place).0 in
    omega (arith, within, length-set c.args.cells.now.items c.in-Ok.at (c.index_mut.result.now.0, c.args.cell))

pub returns-in-Ok-clause-below : goal.returns-in-Ok-clause-below
returns-in-Ok-clause-below c =
    let within = (says_at nat_cmp c.args.id c.args.cell c.args.cells.now.items c.deref.result.now (Ok c.in-Ok.at) c.deref.ensures.value c.in-Ok.ensures.place).0 in
    let below = rw c.deref.ensures.value at c.in-Ok.ensures.below in
    let found = rw c.deref.ensures.value at c.in-Ok.ensures.found in
    set_below c.args.id c.in-Ok.at (c.index_mut.result.now.0, c.args.cell) c.args.cells.now.items within (ap (λ x. x.0) c.index_mut.ensures.value ∙ found c.index_mut.result.now within) below

pub returns-in_ok-insert_at-in-Err-clause-put : goal.returns-in_ok-insert_at-in-Err-clause-put
returns-in_ok-insert_at-in-Err-clause-put c = c.in_ok-insert_at-in-Err.ensures ∙ (says_at nat_cmp c.args.id c.args.cell c.args.cells.now.items c.deref.result.now (Err c.in-Err.at) c.deref.ensures.value c.in-Err.ensures.place).1

pub returns-in_ok-insert_at-in-Err-clause-below : goal.returns-in_ok-insert_at-in-Err-clause-below
returns-in_ok-insert_at-in-Err-clause-below c =
    let within = (says_at nat_cmp c.args.id c.args.cell c.args.cells.now.items c.deref.result.now (Err c.in-Err.at) c.deref.ensures.value c.in-Err.ensures.place).0 in
    let below = rw c.deref.ensures.value at c.in-Err.ensures.below in
    rw c.in_ok-insert_at-in-Err.ensures (insert_below c.args.id c.in-Err.at c.args.cell c.args.cells.now.items within below)

pub returns-in_ok-insert_at-in-Err-clause-bound : goal.returns-in_ok-insert_at-in-Err-clause-bound
returns-in_ok-insert_at-in-Err-clause-bound c =
    let within = (says_at nat_cmp c.args.id c.args.cell c.args.cells.now.items c.deref.result.now (Err c.in-Err.at) c.deref.ensures.value c.in-Err.ensures.place).0 in
    rw c.in_ok-insert_at-in-Err.ensures (omega (arith, within, length-insert c.args.cells.now.items c.in-Err.at (c.args.id, c.args.cell) within))
