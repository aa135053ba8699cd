use Rattle.std.proofs.Common.{◌≡◌, ◌+◌, ◌≤◌, ◌∷◌, ℕ, List, length, drop, Option, Some, refl, sym, ap, subst, arith}
use Rattle.std.proofs.lemmas.List.{drop_all}
use Rattle.kt_history.specs.declared.operation.RowOp.{RowOp}
use Rattle.kt_history.specs.declared.target.Target.{Target}
use Rattle.kt_records.specs.declared.entry.CommitRow.{CommitRow}
use Rattle.kt_reopen.specs.Bare.{bare}
use Rattle.kt_reopen.specs.Steps.{Does, DoesNotFit}
use Rattle.kt_reopen.proofs.NeedLaws.{dropped, rows_reach, names_left, rows_left}
use Rattle.kt_reopen.proofs.Replayed.{first_left}
use Rattle.kt_reopen.proofs.Taking.{need_alone, some_is}
use Rattle.kt_reopen.proofs.WritesDone.{AlongOps, along_next, room_one, late_here, all_done}
use Rattle.kt_reopen.proofs.replaying.take_told.Goals as goal

pub take_named-requires-clause-room : goal.take_named-requires-clause-room
take_named-requires-clause-room c =
    let m = c.args.meta.now in
    let o = c.args.stores.now in
    let ops = c.args.ops.now in
    let rows = c.args.rows.now in
    let i = c.ops.at in
    let op = c.at-op.result in
    let left : drop i ops ≡ op ∷ drop (i + 1) ops = first_left ops i (i + 1) op (omega arith) c.at-op.ensures refl in
    let along = subst (λ (rest : List RowOp). AlongOps m c.args.ts o ops (Some rows) c.ops.stores rest (dropped i (Some rows))) left c.ops.invariant in
    let reach = rows_reach ops rows c.requires.may.rows in
    let names = names_left rows i c.index-rows-at.result (omega (arith, reach)) c.index-rows-at.is in
    subst (λ (n : ℕ). n ≤ c.ops.stores.pool.reserved) (need_alone (bare m) op c.index-rows-at.result _ names) (room_one m c.args.ts o ops (Some rows) c.ops.stores op (drop (i + 1) ops) (dropped i (Some rows)) along)

pub ops-preserved : goal.ops-preserved
ops-preserved c =
    let ops = c.args.ops.now in
    let rows = c.args.rows.now in
    let i = c.ops.at in
    let op = c.at-op.result in
    let left : drop i ops ≡ op ∷ drop (i + 1) ops = first_left ops i (i + 1) op (omega arith) c.at-op.ensures refl in
    let along = subst (λ rest. AlongOps c.args.meta.now c.args.ts c.args.stores.now ops (Some rows) c.ops.stores rest (dropped i (Some rows))) left c.ops.invariant in
    let reach = rows_reach ops rows c.requires.may.rows in
    let names = names_left rows i c.index-rows-at.result (omega (arith, reach)) c.index-rows-at.is in
    subst (λ told. AlongOps c.args.meta.now c.args.ts c.args.stores.now ops (Some rows) c.take_named.new.stores (drop (i + 1) ops) told) (rows_left (Some rows) i (λ others e. let same = ap (λ (l : List CommitRow). length l) (some_is rows others e) in omega (arith, reach)))
    (along_next c.args.meta.now c.args.ts c.args.stores.now ops (Some rows) c.ops.stores op (drop (i + 1) ops) (dropped i (Some rows)) along c.take_named.new.stores
    (subst (λ told. Does c.ops.stores c.take_named.new.stores c.args.meta.now c.args.ts op told) (sym names) (c.in_ok-take_named.ensures.does c.if-not-branch.false)))

pub returns-then-not-branch-clause-late : goal.returns-then-not-branch-clause-late
returns-then-not-branch-clause-late c = λ _ fill.
    let ops = c.args.ops.now in
    let rows = c.args.rows.now in
    let i = c.ops.at in
    let op = c.at-op.result in
    let left : drop i ops ≡ op ∷ drop (i + 1) ops = first_left ops i (i + 1) op (omega arith) c.at-op.ensures refl in
    let along = subst (λ (rest : List RowOp). AlongOps c.args.meta.now c.args.ts c.args.stores.now ops (Some rows) c.ops.stores rest (dropped i (Some rows))) left c.ops.invariant in
    let reach = rows_reach ops rows c.requires.may.rows in
    let names = names_left rows i c.index-rows-at.result (omega (arith, reach)) c.index-rows-at.is in
    late_here c.args.meta.now c.args.ts c.args.stores.now ops (Some rows) c.ops.stores op (drop (i + 1) ops) (dropped i (Some rows)) along
    (subst (λ (told : Option (List Target)). DoesNotFit c.ops.stores c.args.meta.now c.args.ts op told) (sym names) (c.in_ok-take_named.ensures.not_ c.if-not-branch.true)) fill

pub returns-clause-does : goal.returns-clause-does
returns-clause-does c = λ _.
    let ops = c.args.ops.now in
    let told = dropped c.ops.at (Some c.args.rows.now) in
    all_done c.args.meta.now c.args.ts c.args.stores.now ops (Some c.args.rows.now) c.ops.stores told
    (subst (λ (rest : List RowOp). AlongOps c.args.meta.now c.args.ts c.args.stores.now ops (Some c.args.rows.now) c.ops.stores rest told) (drop_all c.ops.at ops (omega arith)) c.ops.invariant)
