use Rattle.std.proofs.Common.{rules, ap, ◌∙◌}
use Rattle.kt_seatlock.specs.Views.{carried_in}
use Rattle.kt_seatlock.proofs.Keeps.{joins}
use Rattle.kt_seatlock.proofs.lock.SeatLock.join.Goals as goal

pub join_seat-requires : goal.join_seat-requires
join_seat-requires g c = (search rules, search rules, c.args.other.carries ∙ ap carried_in c.requires.outside.1, search rules, joins _ _ _ _ _ _ _ c.requires.outside.0 c.requires.outside.1)
