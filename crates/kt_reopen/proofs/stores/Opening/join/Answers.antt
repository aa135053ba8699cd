use Rattle.std.proofs.Common.{◌≡◌, ◌∙◌, ◌-◌, [], suc, Some, sym, ap, subst, refl, arith}
use Rattle.std.specs.Prelude.{slice_get}
use Rattle.std.specs.Vec.{with_item}
use Rattle.kt_history.specs.Stores.{share}
use Rattle.kt_stores.proofs.Ordered.{set_on}
use Rattle.kt_memrowset.specs.Stores as mem
use Rattle.kt_reopen.specs.declared.stores.Opening.{Opening}
use Rattle.kt_reopen.specs.Standing.{placed, names_in, KeyUnderAt, JoinsAt}
use Rattle.kt_reopen.specs.Steps.{MayJoin}
use Rattle.kt_reopen.proofs.Replayed.{here_is}
use Rattle.kt_reopen.proofs.Growing.{rowset_in, mem_joined, disk_joined}
use Rattle.kt_reopen.proofs.Had.{mem_fits, plain_change, there_not_never, rowset_named}
use Rattle.kt_reopen.proofs.stores.Opening.join.Goals as goal

pub apply_reserved-requires-clause-fits : goal.apply_reserved-requires-clause-fits
apply_reserved-requires-clause-fits c =
    let o = c.args.self.now in
    let op = c.args.op.now in
    let under = subst (λ n. KeyUnderAt c.args.ts op.key n o) c.if-at-eq0.true c.requires.under in
    let may = subst (λ n. MayJoin c.args.ts op.key n c.args.kind (placed [] o)) c.if-at-eq0.true (c.requires.may []) in
    mem_fits c.args.kind [] c.args.ts op (mem.store_of o.mem o.pool) _ under may

pub returns-then-at-eq0-clause-joins : goal.returns-then-at-eq0-clause-joins
returns-then-at-eq0-clause-joins c =
    let o = c.args.self.now in
    let op = c.args.op.now in
    let after : Opening = record { mem = c.apply_reserved.new.self; rowsets = o.rowsets; pool = c.apply_reserved.new.pool } in
    subst (λ n. JoinsAt o after n c.args.ts op c.args.kind (share op)) (sym c.if-at-eq0.true)
    (mem_joined o c.args.ts op c.args.kind c.requires.kept c.requires.reserved c.apply_reserved.new.self c.apply_reserved.new.pool c.apply_reserved.ensures.joins)

pub rejoin-requires-clause-stands : goal.rejoin-requires-clause-stands
rejoin-requires-clause-stands c =
    let o = c.args.self.now in
    rowset_in o c.requires.kept (c.args.at - 1) c.index_mut.result.now (here_is o.rowsets.items (c.args.at - 1) c.index_mut.result.now (omega arith) c.index_mut.ensures.value refl)

pub rejoin-requires-clause-there : goal.rejoin-requires-clause-there
rejoin-requires-clause-there c =
    let o = c.args.self.now in
    let op = c.args.op.now in
    let i = c.args.at - 1 in
    let d = c.index_mut.result.now in
    let place : c.args.at ≡ suc i = omega arith in
    there_not_never o c.args.kind c.args.ts op.key i d (here_is o.rowsets.items i d (omega arith) c.index_mut.ensures.value refl)
    (subst (λ n. MayJoin c.args.ts op.key n c.args.kind (placed [] o)) place (c.requires.may []))

pub rejoin-requires-clause-under : goal.rejoin-requires-clause-under
rejoin-requires-clause-under c =
    let o = c.args.self.now in
    let i = c.args.at - 1 in
    let d = c.index_mut.result.now in
    let place : c.args.at ≡ suc i = omega arith in
    (subst (λ n. KeyUnderAt c.args.ts c.args.op.now.key n o) place c.requires.under) d (here_is o.rowsets.items i d (omega arith) c.index_mut.ensures.value refl)

pub returns-clause-joins : goal.returns-clause-joins
returns-clause-joins c =
    let o = c.args.self.now in
    let op = c.args.op.now in
    let i = c.args.at - 1 in
    let d = c.index_mut.result.now in
    let place : c.args.at ≡ suc i = omega arith in
    let may = subst (λ n. MayJoin c.args.ts op.key n c.args.kind (placed [] o)) place (c.requires.may []) in
    let after : Opening = record { mem = o.mem; rowsets = with_item o.rowsets i c.rejoin.new.self; pool = c.rejoin.new.pool } in
    subst (λ n. JoinsAt o after n c.args.ts op c.args.kind (share op)) (sym place)
    (disk_joined o c.args.ts op c.args.kind c.requires.kept c.requires.reserved after i d c.rejoin.new.self (here_is o.rowsets.items i d (omega arith) c.index_mut.ensures.value refl) refl (set_on o.rowsets.items i c.rejoin.new.self) c.rejoin.ensures.joined
    (λ fill. plain_change c.args.kind c.args.ts op.key i (placed [] o) may fill op))

pub returns-clause-named : goal.returns-clause-named
returns-clause-named c =
    let o = c.args.self.now in
    let i = c.args.at - 1 in
    let d = c.index_mut.result.now in
    let place : c.args.at ≡ suc i = omega arith in
    ap (slice_get (names_in o)) place ∙ rowset_named o i d (here_is o.rowsets.items i d (omega arith) c.index_mut.ensures.value refl) ∙ ap (λ n. Some n) (sym c.rejoin.ensures.named)
