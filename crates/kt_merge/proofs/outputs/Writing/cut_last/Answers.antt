use Rattle.std.proofs.Common.{◌<◌, ◌∙◌, length, sym, ap, subst, arith}
use Rattle.kt_merge.specs.Told.{told_by_all, AreOutputs}
use Rattle.kt_merge.proofs.Cuts.{open_front}
use Rattle.kt_merge.proofs.WrittenRowsets.{open_few, outputs_cut, told_end, told_last}
use Rattle.kt_merge.proofs.outputs.Writing.cut_last.Goals as goal

pub returns-then-next-eq0-clause-told : goal.returns-then-next-eq0-clause-told
returns-then-next-eq0-clause-told c = told_end c.args.columns.now c.args.self.now (sym c.next.ensures ∙ c.if-next-eq0.true)

pub cut-requires-clause-some : goal.cut-requires-clause-some
cut-requires-clause-some c = omega (arith, c.next.ensures, c.if-next-eq0.false)

pub cut-requires-clause-most : goal.cut-requires-clause-most
cut-requires-clause-most c = let few = open_few c.args.self.now.growing.rows.items c.requires.writes.grows.opened in omega (arith, few)

pub returns-clause-outputs : goal.returns-clause-outputs
returns-clause-outputs c =
    let old = c.args.self.now in
    let some : 0 < length old.growing.rows.items = omega (arith, c.next.ensures, c.if-next-eq0.false) in
    subst (AreOutputs c.args.columns.now) (sym c.in_ok-push.ensures.items)
    (outputs_cut c.args.columns.now old.done.items old.growing c.in_ok-last.last c.requires.writes.done c.requires.writes.full c.requires.writes.rise c.in_ok-last.ensures.output c.in_ok-last.ensures.rows c.in_ok-last.ensures.told
    (open_front old.growing.rows.items c.requires.writes.grows.opened) some)

pub returns-clause-told : goal.returns-clause-told
returns-clause-told c = ap told_by_all c.in_ok-push.ensures.items ∙ told_last c.args.self.now c.in_ok-last.last c.in_ok-last.ensures.told
