use Rattle.std.proofs.Common.{◌≡◌, ◌+◌, true, refl, sym, ap, subst, ◌∙◌, arith}
use Rattle.std.specs.Prelude.{IsTrue}
use Rattle.kt_engine.specs.Jobs.{JobView}
use Rattle.std.proofs.Math.Nat.{le-max_left}
use Rattle.kt_engine.specs.Moments.{LeavesInTurn}
use Rattle.kt_engine.specs.Near.{most_rowsets, most_files}
use Rattle.kt_super.specs.Slots.{super_of}
use Rattle.kt_storeside.specs.Sides.{published_in}
use Rattle.kt_storeside.specs.Turns.{HasOneOf}
use Rattle.kt_maint.proofs.Failed.{of_lent}
use Rattle.kt_maint.proofs.Stages.{some_is}
use Rattle.kt_maint.proofs.Visiting.{came_broken}
use Rattle.kt_maint.proofs.publishing.publish_and_return.Goals as goal

pub returns-in-Ok-clause-published : goal.returns-in-Ok-clause-published
returns-in-Ok-clause-published g c = λ job has.
    let p = c.requires.publishing in
    let same : p.job ≡ job = some_is p.job job (sym p.has ∙ has) in (
      c.store_home.ensures.came job p.meta p.is.0 p.own.0 has,
      ap (λ v. v.store.meta.number) c.store_home.ensures.home ∙ ap (λ o. (published_in true o c.args.engine.now.store.meta).number) p.is.0 ∙ sym p.own.1 ∙ ap (λ (j : JobView). j.super) same,
    )

pub returns-in-Err-Memory-clause-memory : goal.returns-in-Err-Memory-clause-memory
returns-in-Err-Memory-clause-memory g c = λ job has stops. let p = c.requires.publishing in c.store_home-in-Err-Memory.ensures.came job p.meta p.is.0 p.own.0 has

pub returns-in-Err-Fault-clause-broken : goal.returns-in-Err-Fault-clause-broken
returns-in-Err-Fault-clause-broken g c = λ stops. came_broken c.args.by c.args.engine.now _ _ (c.stop.ensures.store_home _ refl) (c.stop.ensures.core c.requires.goes) refl refl refl

pub returns-in-Err-Fault-clause-numbers : goal.returns-in-Err-Fault-clause-numbers
returns-in-Err-Fault-clause-numbers g c = ap (λ v. v.store.next_rowset) (c.stop.ensures.store_home _ refl)

pub store_home-requires-clause-near : goal.store_home-requires-clause-near
store_home-requires-clause-near g c = let n = c.requires.publishing.numbers.0 in let left = le-max_left c.args.engine.now.store.next_rowset (c.args.engine.now.first_rowset + most_rowsets) in omega (arith, n, left)

pub store_home-requires-in-Err-Memory-clause-near : goal.store_home-requires-in-Err-Memory-clause-near
store_home-requires-in-Err-Memory-clause-near g c = let n = c.requires.publishing.numbers.0 in let left = le-max_left c.args.engine.now.store.next_rowset (c.args.engine.now.first_rowset + most_rowsets) in omega (arith, n, left)

pub store_home-requires-clause-near_files : goal.store_home-requires-clause-near_files
store_home-requires-clause-near_files g c = let n = c.requires.publishing.numbers.1 in let left = le-max_left c.args.engine.now.store.next_file (c.args.engine.now.first_file + most_files) in omega (arith, n, left)

pub store_home-requires-in-Err-Memory-clause-near_files : goal.store_home-requires-in-Err-Memory-clause-near_files
store_home-requires-in-Err-Memory-clause-near_files g c = let n = c.requires.publishing.numbers.1 in let left = le-max_left c.args.engine.now.store.next_file (c.args.engine.now.first_file + most_files) in omega (arith, n, left)

-- at each moment the store had the superblock from before or the one that went out

pub store_home-requires-clause-moments : goal.store_home-requires-clause-moments
store_home-requires-clause-moments g c = λ t.
    let s = c.args.engine.now.store in
    subst (λ o. LeavesInTurn g.D.Disk.seen g.D.Disk.now g.D.Disk.leaves o s.next_file c.args.lent.next_file s.known c.publish-answer.new.disk) (sym (c.requires.publishing.is.1 ∙ sym c.requires.publishing.is.0 ∙ c.in-Some.is)) (rw (← c.requires.publishing.device) (c.publish-answer.ensures.any_moment t))

pub store_home-requires-in-Err-Memory-clause-moments : goal.store_home-requires-in-Err-Memory-clause-moments
store_home-requires-in-Err-Memory-clause-moments g c = λ t.
    let s = c.args.engine.now.store in
    subst (λ o. LeavesInTurn g.D.Disk.seen g.D.Disk.now g.D.Disk.leaves o s.next_file c.args.lent.next_file s.known c.publish-answer.new.disk) (sym (c.requires.publishing.is.1 ∙ sym c.requires.publishing.is.0 ∙ c.in-Some.is)) (rw (← c.requires.publishing.device) (c.publish-answer.ensures.any_moment t))

pub stop-requires-clause-store_moments : goal.stop-requires-clause-store_moments
stop-requires-clause-store_moments g c = λ lent same.
    let s = c.args.engine.now.store in
    of_lent (λ l. IsTrue g.D.Disk.tells → LeavesInTurn g.D.Disk.seen g.D.Disk.now g.D.Disk.leaves s.lent s.next_file l.next_file s.known l.device) _ lent same (λ t. subst (λ o. LeavesInTurn g.D.Disk.seen g.D.Disk.now g.D.Disk.leaves o s.next_file c.args.lent.next_file s.known c.publish-answer.new.disk) (sym (c.requires.publishing.is.1 ∙ sym c.requires.publishing.is.0 ∙ c.in-Some.is)) (rw (← c.requires.publishing.device) (c.publish-answer.ensures.any_moment t)))

pub stop-requires-clause-one_of : goal.stop-requires-clause-one_of
stop-requires-clause-one_of g c = λ lent same.
    let s = c.args.engine.now.store in
    of_lent (λ l. IsTrue g.D.Disk.tells → HasOneOf g.D.Disk.now g.D.Disk.leaves s.meta (published_in true s.lent s.meta) l.device) _ lent same (λ t. subst (λ o. HasOneOf g.D.Disk.now g.D.Disk.leaves s.meta (published_in true o s.meta) c.publish-answer.new.disk) (sym (c.requires.publishing.is.1 ∙ sym c.requires.publishing.is.0 ∙ c.in-Some.is)) (c.publish-answer.ensures.one_of t s.meta (ap (λ d. super_of (g.D.Disk.seen d)) c.requires.publishing.device ∙ (c.standing.ensures.side.publishes t).superblock)))
