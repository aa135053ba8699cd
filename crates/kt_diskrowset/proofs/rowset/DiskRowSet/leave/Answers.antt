use Rattle.std.proofs.Common.{[], ◌∷◌}
use Rattle.kt_diskrowset.proofs.Beside.{stand_front, apart_front}
use Rattle.kt_diskrowset.proofs.Gone.{has_gone}
use Rattle.kt_diskrowset.proofs.Settled.{emptied_all}
use Rattle.kt_diskrowset.proofs.rowset.DiskRowSet.leave.Goals as goal

pub empty_all-requires-clause-stand : goal.empty_all-requires-clause-stand
empty_all-requires-clause-stand c = stand_front c.args.pool.now c.args.self.frozen.items (c.args.self.active ∷ []) c.requires.stand

pub empty_all-requires-clause-apart : goal.empty_all-requires-clause-apart
empty_all-requires-clause-apart c = apart_front c.args.pool.now c.args.self.frozen.items (c.args.self.active ∷ []) c.requires.apart

pub empty_into-requires : goal.empty_into-requires
empty_into-requires c = (emptied_all c.args.self c.args.pool.now c.empty_all.new.pool c.requires c.empty_all.ensures.emptied).stand.0

pub returns : goal.returns
returns c =
    has_gone c.args.self c.args.pool.now c.empty_all.new.pool c.empty_into.new.pool c.requires c.empty_all.ensures.emptied c.empty_into.ensures.frame c.empty_into.ensures.fewer c.empty_into.ensures.reserved c.empty_into.ensures.size
