use Rattle.std.proofs.Common.{◌≡◌, ◌++◌}
use Rattle.kt_journal.specs.Log.{records_of}
use Rattle.kt_journal.proofs.Lifted.{appended_stands, appended_holds, leaves_lift, openable_after}
use Rattle.kt_journal.proofs.append.append.Goals as goal

pub append_frames-requires-clause-settled : goal.append_frames-requires-clause-settled
append_frames-requires-clause-settled g c told = (c.requires.stands told).settled

pub returns-clause-stands : goal.returns-clause-stands
returns-clause-stands g c = appended_stands g.L.Disk.seen g.L.Disk.now g.L.Disk.leaves c.append_frames.result g.L.Disk.tells c.args.disk.now c.append_frames.new.disk c.args.end c.args.records.now c.requires.stands c.requires.in_order c.append_frames.ensures.settled

pub returns-clause-holds : goal.returns-clause-holds
returns-clause-holds g c =
    appended_holds g.L.Disk.seen g.L.Disk.now g.L.Disk.leaves c.append_frames.result g.L.Disk.tells c.append_frames.new.disk (records_of (g.L.Disk.seen c.append_frames.new.disk) ≡ records_of (g.L.Disk.seen c.args.disk.now) ++ c.args.records.now)
    (appended_stands g.L.Disk.seen g.L.Disk.now g.L.Disk.leaves c.append_frames.result g.L.Disk.tells c.args.disk.now c.append_frames.new.disk c.args.end c.args.records.now c.requires.stands c.requires.in_order c.append_frames.ensures.settled)

pub returns-clause-any_moment : goal.returns-clause-any_moment
returns-clause-any_moment g c told = leaves_lift g.L.Disk.seen g.L.Disk.now g.L.Disk.leaves c.args.disk.now c.append_frames.new.disk c.args.end c.args.records.now (c.requires.stands told) (c.requires.in_order told) (c.append_frames.ensures.any_moment told)

pub returns-clause-openable : goal.returns-clause-openable
returns-clause-openable g c told =
    openable_after g.L.Disk.seen g.L.Disk.now g.L.Disk.leaves c.args.disk.now c.append_frames.new.disk (records_of (g.L.Disk.seen c.args.disk.now)) c.args.records.now
    (leaves_lift g.L.Disk.seen g.L.Disk.now g.L.Disk.leaves c.args.disk.now c.append_frames.new.disk c.args.end c.args.records.now (c.requires.stands told) (c.requires.in_order told) (c.append_frames.ensures.any_moment told))
