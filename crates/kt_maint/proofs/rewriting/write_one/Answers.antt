use Rattle.std.proofs.Common.{◌≤◌, ◌+◌, ◌^◌, refl, arith}
use Rattle.std.proofs.lemmas.Result.{IfOk-weaker}
use Rattle.kt_maint.proofs.OneOut.{new_files}
use Rattle.kt_maint.proofs.rewriting.write_one.Goals as goal

pub returns-clause-added : goal.returns-clause-added
returns-clause-added g c =
    let e = c.write_rewritten-written.ensures in
    record { meta = refl; up = ((let x : c.args.lent.now.next_rowset ≤ c.args.lent.now.next_rowset = omega arith in x), e.up); risen = (let x : c.args.lent.now.next_rowset ≤ c.args.lent.now.next_rowset + 2 ^ 31 = omega arith in x); few_files = e.few; left = e.left; faults_rise = e.faults; rose = e.fault }

pub returns-clause-files : goal.returns-clause-files
returns-clause-files g c =
    let e = c.write_rewritten-written.ensures in
    new_files g.D.Disk.tells g.D.Disk.seen g.D.Disk.now g.D.Disk.leaves c.args.lent.now _ c.args.rowset.now c.write_rewritten-written.result e.same e.fresh e.numbered
    (IfOk-weaker c.write_rewritten-written.result _ _ (λ out holds told. holds told c.requires.whole) e.holds) e.stable
