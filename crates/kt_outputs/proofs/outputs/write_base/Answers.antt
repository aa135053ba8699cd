use Rattle.std.proofs.Common.{sym, ◌∙◌, subst, arith}
use Rattle.kt_baseset.specs.Tables.{BaseValue}
use Rattle.kt_baseset.specs.Spelling.{SpellsBase}
use Rattle.kt_diskrowset.specs.declared.base.BaseHeld.{BaseHeld}
use Rattle.kt_outputs.proofs.Written.{left_none, base_holds}
use Rattle.kt_outputs.proofs.outputs.write_base.Goals as goal

pub returns-in_err-bytes-clause-left : goal.returns-in_err-bytes-clause-left
returns-in_err-bytes-clause-left g c told = left_none g.D.Disk.seen g.D.Disk.now g.D.Disk.leaves c.args.next.now c.args.disk.now

pub returns-in_err-held-clause-left : goal.returns-in_err-held-clause-left
returns-in_err-held-clause-left g c told = left_none g.D.Disk.seen g.D.Disk.now g.D.Disk.leaves c.args.next.now c.args.disk.now

pub returns-clause-holds : goal.returns-clause-holds
returns-clause-holds g c told files there =
    let given = c.in_ok-len.ensures.given in
    let held : BaseHeld = record { file = c.args.next.now; len = c.in_ok-len.len; set = c.in_ok-held.held.set } in
    base_holds files held c.args.base.now c.as_slice.result.now c.in_ok-held.ensures.2
    (subst (λ (v : BaseValue). SpellsBase v.schema v.rows c.as_slice.result.now) c.deref.ensures (subst (SpellsBase c.deref.result.now.schema c.deref.result.now.rows) (sym c.as_slice.ensures) c.in_ok-bytes.ensures))
    (there c.args.next.now (omega arith) (omega arith) ∙ c.in_ok-len.ensures.written told) c.in_ok-len.ensures.len
