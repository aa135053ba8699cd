use Rattle.std.proofs.Common.{arith}
use Rattle.kt_disk.proofs.Beside.{beside_none}
use Rattle.kt_journal.proofs.Opened.{short_seen, short_images, at_rest, steady_leaves}
use Rattle.kt_journal.proofs.opening.shut_log.Goals as goal

pub shut_end-requires-clause-short : goal.shut_end-requires-clause-short
shut_end-requires-clause-short g c told =
    short_seen g.L.Disk.seen _ _ _ _ _ _ (c.requires.ends told) (c.requires.steady told) (omega (arith, c.requires.len told))

pub shut_end-requires-clause-images : goal.shut_end-requires-clause-images
shut_end-requires-clause-images g c told =
    short_images g.L.Disk.seen _ _ _ _ _ _ (c.requires.ends told) (c.requires.steady told) (omega (arith, c.requires.len told))

pub shut_end-requires-clause-end : goal.shut_end-requires-clause-end
shut_end-requires-clause-end g c told = (c.requires.ends told).place_is

pub shut_end-requires-clause-fit : goal.shut_end-requires-clause-fit
shut_end-requires-clause-fit g c told = (c.requires.ends told).fit

pub returns-clause-settled : goal.returns-clause-settled
returns-clause-settled g c told =
    at_rest g.L.Disk.seen _ _ _ _ _ _ (c.requires.ends told) (c.requires.steady told) (omega (arith, c.requires.len told))

pub returns-clause-any_moment : goal.returns-clause-any_moment
returns-clause-any_moment g c told =
    steady_leaves g.L.Disk.seen _ _ _ _ _ _ (c.requires.ends told) (c.requires.steady told)

pub returns-clause-elsewhere : goal.returns-clause-elsewhere
returns-clause-elsewhere g c told = beside_none _ _ _ _
