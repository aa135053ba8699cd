use Rattle.std.proofs.Common.{◌≤◌, sym, subst, ◌∙◌, arith}
use Rattle.kt_engine.specs.Moments.{LeavesInTurn}
use Rattle.kt_storeside.proofs.Named.{first_file}
use Rattle.kt_maint.proofs.Turns.{left_turn, super_stays, slots_stay}
use Rattle.kt_maint.proofs.ending.take_home.Goals as goal

pub store_home-requires-clause-turn : goal.store_home-requires-clause-turn
store_home-requires-clause-turn g c = λ told.
    let e = c.args.engine.now in
    let low : 3 ≤ e.store.next_file = (let a = first_file e.store.meta c.standing.ensures.side.rules in let b = c.standing.ensures.side.files in omega arith) in
    left_turn g.D.Disk.seen g.D.Disk.now g.D.Disk.leaves _ _ _ _ low (c.requires.may.left told)

pub store_home-requires-clause-superblock : goal.store_home-requires-clause-superblock
store_home-requires-clause-superblock g c = λ told.
    let e = c.args.engine.now in
    let low : 3 ≤ e.store.next_file = (let a = first_file e.store.meta c.standing.ensures.side.rules in let b = c.standing.ensures.side.files in omega arith) in
    super_stays g.D.Disk.seen g.D.Disk.now g.D.Disk.leaves _ _ _ _ low (c.requires.may.left told) ∙ (c.standing.ensures.side.publishes told).superblock

pub store_home-requires-clause-slots : goal.store_home-requires-clause-slots
store_home-requires-clause-slots g c = λ told.
    let e = c.args.engine.now in
    let low : 3 ≤ e.store.next_file = (let a = first_file e.store.meta c.standing.ensures.side.rules in let b = c.standing.ensures.side.files in omega arith) in
    slots_stay g.D.Disk.seen g.D.Disk.now g.D.Disk.leaves _ _ _ _ low (c.requires.may.left told) (c.standing.ensures.side.publishes told).slots

-- at each moment no file had changed but those of new numbers
pub store_home-requires-clause-moments : goal.store_home-requires-clause-moments
store_home-requires-clause-moments g c = λ told.
    let s = c.args.engine.now.store in
    subst (λ o. LeavesInTurn g.D.Disk.seen g.D.Disk.now g.D.Disk.leaves o s.next_file c.args.lent.next_file s.known c.args.lent.device) (sym c.requires.may.meta.1) (c.requires.may.left told).any_moment
