use Rattle.kt_tablet.proofs.Snaps.{above_begin, parts_not_above}
use Rattle.kt_tablet.proofs.reading.place_above.Goals as goal

pub returns-then-end_at-clause-parts : goal.returns-then-end_at-clause-parts
returns-then-end_at-clause-parts c =
    let told = c.end_at.ensures in
    let is = c.if-end_at.true in
    above_begin c.args.changes.now c.args.key.now c.args.hint c.requires (told.bound is) (told.here is) (told.before is)

pub returns-then-begin_above-clause-parts : goal.returns-then-begin_above-clause-parts
returns-then-begin_above-clause-parts c =
    let told = c.begin_above.ensures in
    let is = c.if-begin_above.true in
    above_begin c.args.changes.now c.args.key.now c.args.hint c.requires (told.bound is) (told.here is) (told.before is)

pub count_not_above-requires : goal.count_not_above-requires
count_not_above-requires c = parts_not_above c.args.changes.now c.args.key.now c.requires
