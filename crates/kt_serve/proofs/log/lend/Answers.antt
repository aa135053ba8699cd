use Rattle.std.proofs.Common.{◌≡◌, ◌≤◌, ◌+◌, ◌++◌, [], ap, ◌∙◌, Err, arith, length}
use Rattle.kt_engine.proofs.Devices.{goes_whole}
use Rattle.kt_serve.proofs.Flights.{place_there, placed_within}
use Rattle.kt_serve.proofs.log.lend.Goals as goal

pub place-requires : goal.place-requires
place-requires g c = place_there c.args.by c.args.engine.now.tablet.places c.args.engine.now.tablet.core.aloft c.requires.0 c.requires.1 c.standing.ensures.placed c.requires.2

-- where nothing is queued or out, it is durable
pub unreachable-requires-in-Err-Empty : goal.unreachable-requires-in-Err-Empty
unreachable-requires-in-Err-Empty g c =
    let x = c.args.engine.now in
    let none = c.log_out.ensures.empty.0 (c.in-Err-Empty.is ∙ ap Err c.in-Err-Empty.field-0-is) in
    let at = c.standing.ensures.at_home none.1 in
    let out : x.log.out ≡ [] = ((c.standing.ensures.home at.0 at.1).known (goes_whole x c.standing.ensures.whole none.0).0).1 in
    let few : length (x.log.out ++ x.log.queued) ≡ 0 = ap (λ l. length (l ++ x.log.queued)) out ∙ ap length none.2 in
    let low : c.place.result ≤ x.log.known.count + length (x.log.out ++ x.log.queued) = placed_within _ c.args.by c.place.result x.tablet.places x.tablet.core.aloft c.requires.0 c.requires.1 c.standing.ensures.among c.requires.2 c.place.ensures in
    omega (arith, few, low, c.durable.ensures)
