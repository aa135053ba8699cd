use Rattle.std.proofs.Common.{◌≡◌, ◌∙◌, ◌-◌, suc, Some, sym, ap, subst, refl, arith}
use Rattle.std.proofs.lemmas.Result.{IfOk-weaker}
use Rattle.kt_history.specs.Stores.{hist_in}
use Rattle.kt_memrowset.specs.Stores as mem
use Rattle.kt_diskrowset.specs.Rowset as rowset
use Rattle.kt_reopen.specs.Standing.{placed, KeyUnderAt}
use Rattle.kt_reopen.specs.Steps.{had_at}
use Rattle.kt_reopen.proofs.Replayed.{here_is}
use Rattle.kt_reopen.proofs.Growing.{rowset_in}
use Rattle.kt_reopen.proofs.Had.{mem_had, disk_had, rowset_had}
use Rattle.kt_reopen.proofs.stores.Opening.had.Goals as goal

pub returns-then-at-eq0 : goal.returns-then-at-eq0
returns-then-at-eq0 c = λ fill.
    let o = c.args.self.now in
    let ts = c.args.ts in
    let q = c.args.key.now in
    let under = subst (λ n. KeyUnderAt ts q n o) c.if-at-eq0.true c.requires.under in
    ap (λ n. had_at ts q n (placed fill o)) c.if-at-eq0.true ∙ ap (λ b. Some b) (mem_had fill ts q (mem.store_of o.mem o.pool) under ∙ sym c.live.ensures)

pub had-requires : goal.had-requires
had-requires c =
    let o = c.args.self.now in
    rowset_in o c.requires.kept (c.args.at - 1) c.index.result.now (here_is o.rowsets.items (c.args.at - 1) c.index.result.now (omega arith) c.index.ensures refl)

pub returns : goal.returns
returns c =
    let o = c.args.self.now in
    let ts = c.args.ts in
    let q = c.args.key.now in
    let i = c.args.at - 1 in
    let d = c.index.result.now in
    let at = here_is o.rowsets.items i d (omega arith) c.index.ensures refl in
    let place : c.args.at ≡ suc i = omega arith in
    IfOk-weaker c.had.result _ _
    (λ had told fill. ap (λ n. had_at ts q n (placed fill o)) place ∙ rowset_had o fill ts q i d at ∙ ap (λ b. Some b) (sym told))
    (disk_had c.had.result ts (hist_in q (rowset.store_of d o.pool)) c.had.ensures.first c.had.ensures.later)
