use Rattle.std.proofs.Common.{◌≡◌, ◌+◌, ◌-◌, ◌<◌, length, ap, inl, inr, arith, get_or}
use Rattle.std.specs.Prelude.{slice_get}
use Rattle.kt_stores.specs.Parts.{kept, shelved}
use Rattle.kt_stores.proofs.Ordered.{get_at, frozen_at, rowset_at, count, frozen_stand, rowsets_stand}
use Rattle.kt_stores.proofs.Lifting.{active_taken, frozen_taken, rowset_taken}
use Rattle.kt_stores.proofs.Rewritten.{filed_still}
use Rattle.kt_stores.proofs.stores.taking.take_at.Goals as goal

pub take_in-requires-clause-thawed : goal.take_in-requires-clause-thawed
take_in-requires-clause-thawed g c = c.requires.may (inl c.args.active.now) (ap (slice_get (kept c.args.active.now c.args.frozen.now c.args.rowsets.now)) c.if-at-eq0.true)

pub returns-then-at-eq0-clause-taken : goal.returns-then-at-eq0-clause-taken
returns-then-at-eq0-clause-taken g c =
    let r = g.R.RowStore in
    active_taken r.stands r.owns (shelved r.target r.store r.is_closed r.cells) c.args.pool.now c.take_in.new.pool c.args.ts c.args.op.now c.take_in.result c.args.active.now c.args.frozen.now c.args.rowsets.now c.args.at c.take_in.new.store c.if-at-eq0.true c.take_in.ensures

pub take_in-requires-then-at-count-clause-stands : goal.take_in-requires-then-at-count-clause-stands
take_in-requires-then-at-count-clause-stands g c = frozen_stand c.args.active.now c.args.frozen.now c.args.rowsets.now g.R.RowStore.stands c.args.pool.now c.requires.stand (c.args.at - 1) _ c.if-at-count.true

pub take_in-requires-then-at-count-clause-thawed : goal.take_in-requires-then-at-count-clause-thawed
take_in-requires-then-at-count-clause-thawed g c =
    let e : c.args.at ≡ 1 + (c.args.at - 1) = omega arith in
    c.requires.may (inl _) (frozen_at c.args.active.now c.args.frozen.now c.args.rowsets.now c.args.at (c.args.at - 1) _ e (get_at c.args.frozen.now (c.args.at - 1) _ c.if-at-count.true))

pub take_here-requires-clause-stands : goal.take_here-requires-clause-stands
take_here-requires-clause-stands g c =
    let n = count c.args.active.now c.args.frozen.now c.args.rowsets.now in
    let bound = c.requires.bound in
    rowsets_stand c.args.active.now c.args.frozen.now c.args.rowsets.now g.R.RowStore.stands c.args.pool.now c.requires.stand (c.args.at - 1 - length c.args.frozen.now) c.index-rowsets-at.result (omega arith)

pub take_here-requires-clause-thawed : goal.take_here-requires-clause-thawed
take_here-requires-clause-thawed g c =
    let n = count c.args.active.now c.args.frozen.now c.args.rowsets.now in
    let bound = c.requires.bound in
    let j = c.args.at - 1 - length c.args.frozen.now in
    let e : c.args.at ≡ 1 + length c.args.frozen.now + (c.args.at - 1 - length c.args.frozen.now) = omega arith in
    let low : c.args.at - 1 - length c.args.frozen.now < length c.args.rowsets.now = omega arith in
    c.requires.may (inr (get_or c.args.rowsets.now (c.args.at - 1 - length c.args.frozen.now) c.index-rowsets-at.result))
    (rowset_at c.args.active.now c.args.frozen.now c.args.rowsets.now c.args.at (c.args.at - 1 - length c.args.frozen.now) (get_or c.args.rowsets.now (c.args.at - 1 - length c.args.frozen.now) c.index-rowsets-at.result) e (get_at c.args.rowsets.now (c.args.at - 1 - length c.args.frozen.now) c.index-rowsets-at.result low))

pub returns-then-at-count-clause-taken : goal.returns-then-at-count-clause-taken
returns-then-at-count-clause-taken g c =
    let r = g.R.RowStore in
    let e : c.args.at ≡ 1 + (c.args.at - 1) = omega arith in
    frozen_taken r.stands r.owns (shelved r.target r.store r.is_closed r.cells) c.args.pool.now c.take_in-then-at-count.new.pool c.args.ts c.args.op.now c.take_in-then-at-count.result c.args.active.now c.args.frozen.now c.args.rowsets.now c.args.at (c.args.at - 1) _ c.take_in-then-at-count.new.store e c.if-at-count.true c.take_in-then-at-count.ensures

pub returns-else-at-count-clause-taken : goal.returns-else-at-count-clause-taken
returns-else-at-count-clause-taken g c =
    let r = g.R.RowStore in
    let n = count c.args.active.now c.args.frozen.now c.args.rowsets.now in
    let bound = c.requires.bound in
    let e : c.args.at ≡ 1 + length c.args.frozen.now + (c.args.at - 1 - length c.args.frozen.now) = omega arith in
    let low : c.args.at - 1 - length c.args.frozen.now < length c.args.rowsets.now = omega arith in
    rowset_taken r.stands r.owns (shelved r.target r.store r.is_closed r.cells) c.args.pool.now c.take_here.new.pool c.args.ts c.args.op.now c.take_here.result c.args.active.now c.args.frozen.now c.args.rowsets.now c.args.at (c.args.at - 1 - length c.args.frozen.now) c.index-rowsets-at.result c.take_here.new.self e low c.take_here.ensures.taken

pub returns-else-at-count-clause-files : goal.returns-else-at-count-clause-files
returns-else-at-count-clause-files g c =
    let n = count c.args.active.now c.args.frozen.now c.args.rowsets.now in
    let bound = c.requires.bound in
    let j = c.args.at - 1 - length c.args.frozen.now in
    let low : c.args.at - 1 - length c.args.frozen.now < length c.args.rowsets.now = omega arith in
    filed_still g.R.FileStore.files c.args.rowsets.now j (get_or c.args.rowsets.now j c.index-rowsets-at.result) c.take_here.new.self (get_at c.args.rowsets.now j c.index-rowsets-at.result low) c.take_here.ensures.files
