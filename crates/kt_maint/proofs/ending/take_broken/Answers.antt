use Rattle.std.proofs.Common.{◌≤◌, true, refl, sym, ap, subst, arith}
use Rattle.std.specs.Prelude.{IsTrue}
use Rattle.kt_engine.specs.Moments.{LeavesInTurn}
use Rattle.kt_storeside.specs.Turns.{IsTurn, HasOneOf}
use Rattle.kt_storeside.specs.Sides.{published_in}
use Rattle.kt_storeside.proofs.Named.{first_file}
use Rattle.kt_maint.proofs.Failed.{of_lent}
use Rattle.kt_maint.proofs.Turns.{left_turn, has_one}
use Rattle.kt_maint.proofs.Visiting.{stopped_either, stands_either}
use Rattle.kt_maint.proofs.ending.take_broken.Goals as goal

pub stop-requires-clause-turn : goal.stop-requires-clause-turn
stop-requires-clause-turn g c = λ lent same.
    let e = c.args.engine.now in
    let low : 3 ≤ e.store.next_file = (let a = first_file e.store.meta c.standing.ensures.side.rules in let b = c.standing.ensures.side.files in omega arith) in
    of_lent (λ l. IsTrue g.D.Disk.tells → IsTurn g.D.Disk.seen g.D.Disk.now g.D.Disk.leaves e.store.next_file l.next_file e.store.known l.device) _ lent same (λ told. left_turn g.D.Disk.seen g.D.Disk.now g.D.Disk.leaves _ _ _ _ low (c.requires.may.left told))

pub stop-requires-clause-one_of : goal.stop-requires-clause-one_of
stop-requires-clause-one_of g c = λ lent same.
    let e = c.args.engine.now in
    let low : 3 ≤ e.store.next_file = (let a = first_file e.store.meta c.standing.ensures.side.rules in let b = c.standing.ensures.side.files in omega arith) in
    of_lent (λ l. IsTrue g.D.Disk.tells → HasOneOf g.D.Disk.now g.D.Disk.leaves e.store.meta (published_in true e.store.lent e.store.meta) l.device) _ lent same (λ told.
    subst (λ o. HasOneOf g.D.Disk.now g.D.Disk.leaves e.store.meta (published_in true o e.store.meta) c.args.lent.device) (sym c.requires.may.meta.1)
    (has_one g.D.Disk.seen g.D.Disk.now g.D.Disk.leaves _ _ _ _ low (c.requires.may.left told) e.store.meta (c.standing.ensures.side.publishes told).superblock (c.standing.ensures.side.publishes told).slots))

pub returns-clause-still : goal.returns-clause-still
returns-clause-still g c = stands_either c.args.by c.args.engine.now c.stop.new.self c.stop.ensures.core c.stop.ensures.once

pub returns-clause-stopped : goal.returns-clause-stopped
returns-clause-stopped g c = stopped_either c.args.engine.now c.stop.new.self c.stop.ensures.core c.stop.ensures.once

pub returns-clause-home : goal.returns-clause-home
returns-clause-home g c = let is = c.stop.ensures.store_home _ refl in (ap (λ v. v.log) is, ap (λ v. v.store.holder) is)

pub stop-requires-clause-store_moments : goal.stop-requires-clause-store_moments
stop-requires-clause-store_moments g c = λ lent same.
    let s = c.args.engine.now.store in
    of_lent (λ l. IsTrue g.D.Disk.tells → LeavesInTurn g.D.Disk.seen g.D.Disk.now g.D.Disk.leaves s.lent s.next_file l.next_file s.known l.device) _ lent same
    (λ told. subst (λ o. LeavesInTurn g.D.Disk.seen g.D.Disk.now g.D.Disk.leaves o s.next_file c.args.lent.next_file s.known c.args.lent.device) (sym c.requires.may.meta.1) (c.requires.may.left told).any_moment)
