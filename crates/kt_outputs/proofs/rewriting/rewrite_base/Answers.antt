use Rattle.std.proofs.lemmas.Result.{IfOk-weaker}
use Rattle.kt_files.specs.Held.{base_in}
use Rattle.kt_outputs.proofs.Numbered.{one_kept, base_kept, base_result}
use Rattle.kt_outputs.proofs.Written.{left_none, stable_none}
use Rattle.kt_outputs.proofs.rewriting.rewrite_base.Goals as goal

pub returns-in_err-copy-clause-left : goal.returns-in_err-copy-clause-left
returns-in_err-copy-clause-left g c told = left_none g.D.Disk.seen g.D.Disk.now g.D.Disk.leaves c.args.next.now c.args.disk.now

-- it stays
pub returns-then-base-ne0-clause-numbered : goal.returns-then-base-ne0-clause-numbered
returns-then-base-ne0-clause-numbered g c = one_kept c.args.next.now (base_in c.args.base.now) (base_in c.in_ok-copy.field-0) c.if-base-ne0.true c.in_ok-copy.ensures.0 c.in_ok-copy.ensures.1 c.in_ok-copy.ensures.2

pub returns-then-base-ne0-clause-holds : goal.returns-then-base-ne0-clause-holds
returns-then-base-ne0-clause-holds g c told files there stands = base_kept files c.args.base.now c.in_ok-copy.field-0 c.in_ok-copy.ensures.0 c.in_ok-copy.ensures.1 c.in_ok-copy.ensures.2 (stands c.if-base-ne0.true)

pub returns-then-base-ne0-clause-stable : goal.returns-then-base-ne0-clause-stable
returns-then-base-ne0-clause-stable g c told = stable_none g.D.Disk.seen g.D.Disk.now g.D.Disk.leaves c.args.next.now c.args.disk.now

pub returns-then-base-ne0-clause-left : goal.returns-then-base-ne0-clause-left
returns-then-base-ne0-clause-left g c told = left_none g.D.Disk.seen g.D.Disk.now g.D.Disk.leaves c.args.next.now c.args.disk.now

-- it is written
pub returns-clause-numbered : goal.returns-clause-numbered
returns-clause-numbered g c = base_result c.args.next.now c.write_base.new.next (base_in c.args.base.now) c.write_base.result c.if-base-ne0.false c.write_base.ensures.number c.write_base.ensures.short c.write_base.ensures.same c.write_base.ensures.given

pub returns-clause-holds : goal.returns-clause-holds
returns-clause-holds g c = IfOk-weaker c.write_base.result _ _ (λ b h told files there stands. h told files there) c.write_base.ensures.holds
