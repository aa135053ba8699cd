use Rattle.std.proofs.Common.{rules, arith, ◌≡◌, ◌+◌, ◌<◌, length}
use Rattle.kt_seatlock.proofs.Keeps.{counts, inside_of}
use Rattle.kt_seatlock.proofs.lock.SeatLock.count.Goals as goal

pub fetch_add-requires : goal.fetch_add-requires
fetch_add-requires g c = let x = inside_of g.T.Shared.trail g.T.Shared.part g.T.Shared.owner c.args.seat.now.me.0.stage c.requires.inside.0 in let before : c.args.before ≡ length c.args.seat.now.me.0.seen = c.requires.inside.1 in
    let none : c.args.seat.now.me.0.ahead ≡ 0 = c.requires.level in let one = c.requires.one in let differ = c.if-after-before.true in let fits = c.ranges.after in
    let room : length c.args.seat.now.me.0.seen + c.args.seat.now.me.0.ahead + 1 < 18446744073709551616 = omega arith in (search rules, search rules, counts _ _ _ _ _ _ x.0 x.1 room)
