use Rattle.kt_journal.proofs.Openable.{can_open_absent}
use Rattle.kt_journal.proofs.journal.open_journal.Goals as goal

pub open_log-requires : goal.open_log-requires
open_log-requires g c = record { absent = λ told. can_open_absent g.L.Disk.seen _ _ _ _ (g.met.L.Disk.reads_as_image c.args.disk told) (c.requires.openable told) }

pub returns-in-Err-clause-openable_err : goal.returns-in-Err-clause-openable_err
returns-in-Err-clause-openable_err g c told = c.open_log.ensures.openable told (c.requires.openable told)

pub returns-in-Ok-clause-openable : goal.returns-in-Ok-clause-openable
returns-in-Ok-clause-openable g c told = c.open_log.ensures.openable told (c.requires.openable told)
