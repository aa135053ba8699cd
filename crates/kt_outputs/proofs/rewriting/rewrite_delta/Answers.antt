use Rattle.std.proofs.lemmas.Result.{IfOk-weaker}
use Rattle.kt_diskrowset.specs.Files.{as_file}
use Rattle.kt_outputs.proofs.Numbered.{one_kept, delta_kept, delta_result}
use Rattle.kt_outputs.proofs.Written.{left_none, stable_none}
use Rattle.kt_outputs.proofs.rewriting.rewrite_delta.Goals as goal

pub returns-in_err-copy-clause-left : goal.returns-in_err-copy-clause-left
returns-in_err-copy-clause-left g c told = left_none g.D.Disk.seen g.D.Disk.now g.D.Disk.leaves c.args.next.now c.args.disk.now

-- it stays
pub returns-then-delta-ne0-clause-numbered : goal.returns-then-delta-ne0-clause-numbered
returns-then-delta-ne0-clause-numbered g c = one_kept c.args.next.now (as_file c.args.delta.now) (as_file c.in_ok-copy.field-0) c.if-delta-ne0.true c.in_ok-copy.ensures.0 c.in_ok-copy.ensures.1 c.in_ok-copy.ensures.2

pub returns-then-delta-ne0-clause-holds : goal.returns-then-delta-ne0-clause-holds
returns-then-delta-ne0-clause-holds g c told way rows of files there stands = delta_kept files way rows c.args.delta.now c.in_ok-copy.field-0 c.in_ok-copy.ensures.0 c.in_ok-copy.ensures.1 c.in_ok-copy.ensures.2 (stands c.if-delta-ne0.true)

pub returns-then-delta-ne0-clause-stable : goal.returns-then-delta-ne0-clause-stable
returns-then-delta-ne0-clause-stable g c told = stable_none g.D.Disk.seen g.D.Disk.now g.D.Disk.leaves c.args.next.now c.args.disk.now

pub returns-then-delta-ne0-clause-left : goal.returns-then-delta-ne0-clause-left
returns-then-delta-ne0-clause-left g c told = left_none g.D.Disk.seen g.D.Disk.now g.D.Disk.leaves c.args.next.now c.args.disk.now

-- it is written
pub returns-clause-numbered : goal.returns-clause-numbered
returns-clause-numbered g c = delta_result c.args.next.now c.write_delta.new.next (as_file c.args.delta.now) c.write_delta.result c.if-delta-ne0.false c.write_delta.ensures.number c.write_delta.ensures.short c.write_delta.ensures.same c.write_delta.ensures.given

pub returns-clause-holds : goal.returns-clause-holds
returns-clause-holds g c = IfOk-weaker c.write_delta.result _ _ (λ f h told way rows of files there stands. h told way rows of files there) c.write_delta.ensures.holds
