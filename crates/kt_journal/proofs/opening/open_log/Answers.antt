use Rattle.kt_disk.specs.Disk.{held}
use Rattle.kt_journal.proofs.Lifted.{opened_reads, opened_stands, opened_holds, from_lifts}
use Rattle.kt_journal.proofs.opening.open_log.Goals as goal

pub returns-clause-reads : goal.returns-clause-reads
returns-clause-reads g c = opened_reads g.L.Disk.seen g.L.Disk.now g.L.Disk.leaves c.open_frames.result g.L.Disk.tells (held (g.L.Disk.seen c.args.disk.now) 1) c.open_frames.ensures.sound c.open_frames.ensures.reads

pub returns-clause-stands : goal.returns-clause-stands
returns-clause-stands g c = opened_stands g.L.Disk.seen g.L.Disk.now g.L.Disk.leaves c.open_frames.result g.L.Disk.tells c.open_frames.new.disk c.open_frames.ensures.sound c.open_frames.ensures.settled

pub returns-clause-holds : goal.returns-clause-holds
returns-clause-holds g c =
    opened_holds g.L.Disk.seen g.L.Disk.now g.L.Disk.leaves c.open_frames.result g.L.Disk.tells c.open_frames.new.disk
    (opened_stands g.L.Disk.seen g.L.Disk.now g.L.Disk.leaves c.open_frames.result g.L.Disk.tells c.open_frames.new.disk c.open_frames.ensures.sound c.open_frames.ensures.settled)

pub returns-clause-any_moment : goal.returns-clause-any_moment
returns-clause-any_moment g c told = from_lifts g.L.Disk.seen g.L.Disk.now g.L.Disk.leaves c.args.disk.now c.open_frames.new.disk (c.open_frames.ensures.any_moment told)
