use Rattle.kt_tablet.proofs.Snaps.{reached_begin}
use Rattle.kt_tablet.proofs.reading.base_of.Goals as goal

pub base_from-requires-clause-parts : goal.base_from-requires-clause-parts
base_from-requires-clause-parts c =
    let told = c.start_at.ensures in
    let is = c.if-start_at.true in
    reached_begin c.args.changes.now c.args.key.now c.args.hint.now c.requires (told.bound is) (told.here is) (told.before is)
