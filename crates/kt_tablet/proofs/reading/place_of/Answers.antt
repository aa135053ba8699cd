use Rattle.kt_tablet.proofs.Snaps.{reached_begin, parts_below}
use Rattle.kt_tablet.proofs.reading.place_of.Goals as goal

pub returns-then-begin_at-clause-parts : goal.returns-then-begin_at-clause-parts
returns-then-begin_at-clause-parts c =
    let told = c.begin_at.ensures in
    let is = c.if-begin_at.true in
    reached_begin c.args.changes.now c.args.key.now c.args.hint c.requires (told.bound is) (told.here is) (told.before is)

pub count_below-requires : goal.count_below-requires
count_below-requires c = parts_below c.args.changes.now c.args.key.now c.requires
