use Rattle.kt_storeside.proofs.Gates.{prepared, opened}
use Rattle.kt_reopen.proofs.Publishing.{first_or_none}
use Rattle.kt_reopen.proofs.first.publish_first.Goals as goal

pub returns-in_err-prepared-clause-any_moment : goal.returns-in_err-prepared-clause-any_moment
returns-in_err-prepared-clause-any_moment g c = λ told.
    let m = c.args.meta.now in
    let old = c.args.store.now in
    first_or_none g.D.Disk.seen g.D.Disk.now g.D.Disk.leaves m old c.prepare.new.disk (c.requires.stable told) (c.requires.none told)
    (prepared g.D.Disk.seen g.D.Disk.now g.D.Disk.leaves m old c.prepare.new.disk (c.requires.stable told) (c.prepare.ensures.any_moment told))

pub returns-in_err-open_gate-clause-any_moment : goal.returns-in_err-open_gate-clause-any_moment
returns-in_err-open_gate-clause-any_moment g c = λ told.
    let m = c.args.meta.now in
    let old = c.args.store.now in
    first_or_none g.D.Disk.seen g.D.Disk.now g.D.Disk.leaves m old c.open_gate.new.disk (c.requires.stable told) (c.requires.none told)
    (opened g.D.Disk.seen g.D.Disk.now g.D.Disk.leaves m old c.prepare.new.disk c.open_gate.new.disk c.in_ok-prepared.prepared.slot (c.requires.stable told) (c.in_ok-prepared.ensures.ready told).slot
    (g.met.D.Disk.reads_as_image c.prepare.new.disk told) (c.prepare.ensures.any_moment told) (c.open_gate.ensures.any_moment told m (c.in_ok-prepared.ensures.ready told)))

pub returns-clause-any_moment : goal.returns-clause-any_moment
returns-clause-any_moment g c = λ told.
    let m = c.args.meta.now in
    let old = c.args.store.now in
    first_or_none g.D.Disk.seen g.D.Disk.now g.D.Disk.leaves m old c.open_gate.new.disk (c.requires.stable told) (c.requires.none told)
    (opened g.D.Disk.seen g.D.Disk.now g.D.Disk.leaves m old c.prepare.new.disk c.open_gate.new.disk c.in_ok-prepared.prepared.slot (c.requires.stable told) (c.in_ok-prepared.ensures.ready told).slot
    (g.met.D.Disk.reads_as_image c.prepare.new.disk told) (c.prepare.ensures.any_moment told) (c.open_gate.ensures.any_moment told m (c.in_ok-prepared.ensures.ready told)))
