use Rattle.std.proofs.Common.{rules, ◌≡◌, ◌≤◌, Some, inl, inr, refl, sym, ap, subst, ◌∙◌, true, arith}
use Rattle.std.specs.Prelude.{IsTrue, Ok, Err}
use Rattle.kt_base.specs.Causes.{Rose}
use Rattle.kt_super.specs.declared.refusal.PrepareNo.TheVariants.{Fault, Memory}
use Rattle.kt_super.specs.Slots.{super_of, AreStable}
use Rattle.kt_storeside.specs.Turns.{IsTurn, HasOneOf}
use Rattle.kt_storeside.specs.Sides.{published_in}
use Rattle.kt_engine.specs.Moments.{LeavesInTurn}
use Rattle.kt_engine.specs.Stored.{next_super}
use Rattle.kt_engine.specs.Visits.{root_of}
use Rattle.kt_serve.proofs.Ending.{just_stopped, closed, meta_is}
use Rattle.kt_serve.proofs.Failed.{of_lent, no_log}
use Rattle.kt_serve.proofs.close.publish_lent.Goals as goal

-- it is published

pub store_home-requires-clause-turn : goal.store_home-requires-clause-turn
store_home-requires-clause-turn g c = λ t. rw (← c.requires.device) (c.publish-answer.ensures.turn t _ _)

pub returns-in-Ok-clause-ends : goal.returns-in-Ok-clause-ends
returns-in-Ok-clause-ends g c =
    let is = c.store_home.ensures.home in
    let published : published_in true c.args.lent.meta c.args.engine.now.store.meta ≡ next_super c.args.engine.now = ap (λ o. published_in true o c.args.engine.now.store.meta) c.requires.meta.0 in
    closed c.args.engine.now _ c.requires.done refl (ap (λ v. v.tablet) is) (ap (λ v. v.log) is) (ap (λ v. v.store.whole) is) (ap (λ v. v.store.meta) is ∙ published)

pub returns-in-Ok-clause-tablet : goal.returns-in-Ok-clause-tablet
returns-in-Ok-clause-tablet g c = inl (ap (λ v. v.tablet) c.store_home.ensures.home)

-- there was no memory for it

pub returns-in-Err-Memory-clause-tablet : goal.returns-in-Err-Memory-clause-tablet
returns-in-Err-Memory-clause-tablet g c = inl (ap (λ v. v.tablet) c.store_home-in-Err-Memory.ensures.home)

-- the device has failed

pub returns-in-Err-Fault-clause-tablet : goal.returns-in-Err-Fault-clause-tablet
returns-in-Err-Fault-clause-tablet g c = inr (c.stop.ensures.core c.requires.done.goes)

pub returns-in-Err-Fault-clause-ends : goal.returns-in-Err-Fault-clause-ends
returns-in-Err-Fault-clause-ends g c = just_stopped c.args.engine.now _ (c.stop.ensures.core c.requires.done.goes)

pub returns-in-Err-Fault-clause-store_home : goal.returns-in-Err-Fault-clause-store_home
returns-in-Err-Fault-clause-store_home g c = ap (λ v. v.store.holder) (c.stop.ensures.store_home _ refl)

-- each superblock has the same columns

pub returns-in-Ok-clause-root : goal.returns-in-Ok-clause-root
returns-in-Ok-clause-root g c = ap root_of c.store_home.ensures.home ∙ (λ k. record (root_of c.args.engine.now) { columns = (sym (ap (λ v. v.store.meta.schema) c.store_home.ensures.home) ∙ c.store_home.ensures.columns) k })

pub returns-in-Err-Memory-clause-root : goal.returns-in-Err-Memory-clause-root
returns-in-Err-Memory-clause-root g c = ap root_of c.store_home-in-Err-Memory.ensures.home ∙ (λ k. record (root_of c.args.engine.now) { columns = (sym (ap (λ v. v.store.meta.schema) c.store_home-in-Err-Memory.ensures.home) ∙ c.store_home-in-Err-Memory.ensures.columns) k })

pub returns-in-Err-Fault-clause-root : goal.returns-in-Err-Fault-clause-root
returns-in-Err-Fault-clause-root g c = ap root_of (c.stop.ensures.store_home _ refl) ∙ ap (λ t. root_of (record c.args.engine.now { tablet = t })) (c.stop.ensures.core c.requires.done.goes)

pub returns-in-Err-Fault-clause-home : goal.returns-in-Err-Fault-clause-home
returns-in-Err-Fault-clause-home g c = ap (λ v. v.log.holder) (c.stop.ensures.store_home _ refl) ∙ c.requires.home

-- ---- what is asked of the turn

pub store_home-requires-clause-superblock : goal.store_home-requires-clause-superblock
store_home-requires-clause-superblock g c = λ t.
    let sent : published_in true c.args.lent.meta c.args.engine.now.store.meta ≡ next_super c.args.engine.now = ap (λ o. published_in true o c.args.engine.now.store.meta) c.requires.meta.0 in
    c.in-Ok.ensures.superblock t ∙ ap (λ m. Ok (Some m)) (meta_is c.args.lent.meta _ _ c.in-Some.is c.requires.meta.0 ∙ sym sent)

pub store_home-requires-in-Err-Memory-clause-turn : goal.store_home-requires-in-Err-Memory-clause-turn
store_home-requires-in-Err-Memory-clause-turn g c = λ t. rw (← c.requires.device) (c.publish-answer.ensures.turn t _ _)

pub store_home-requires-in-Err-Memory-clause-superblock : goal.store_home-requires-in-Err-Memory-clause-superblock
store_home-requires-in-Err-Memory-clause-superblock g c =
    let memory : c.publish-answer.result ≡ Err Memory = search rules in
    λ t. ap (λ d. super_of (g.D.Disk.seen d)) (c.publish-answer.ensures.memory memory ∙ c.requires.device) ∙ (c.standing.ensures.side.publishes t).superblock

pub store_home-requires-in-Err-Memory-clause-slots : goal.store_home-requires-in-Err-Memory-clause-slots
store_home-requires-in-Err-Memory-clause-slots g c =
    let memory : c.publish-answer.result ≡ Err Memory = search rules in
    λ t. subst (λ d. AreStable g.D.Disk.seen g.D.Disk.now g.D.Disk.leaves d) (sym (c.publish-answer.ensures.memory memory ∙ c.requires.device)) (c.standing.ensures.side.publishes t).slots

pub stop-requires-clause-out : goal.stop-requires-clause-out
stop-requires-clause-out g c = λ batch same. absurd (no_log _ batch same)

pub stop-requires-clause-faults : goal.stop-requires-clause-faults
stop-requires-clause-faults g c = λ batch same. absurd (no_log _ batch same)

pub stop-requires-clause-rose : goal.stop-requires-clause-rose
stop-requires-clause-rose g c = λ batch same. absurd (no_log _ batch same)

pub stop-requires-clause-images : goal.stop-requires-clause-images
stop-requires-clause-images g c = λ batch same. absurd (no_log _ batch same)

pub stop-requires-clause-opens : goal.stop-requires-clause-opens
stop-requires-clause-opens g c = λ batch same. absurd (no_log _ batch same)

pub stop-requires-clause-others : goal.stop-requires-clause-others
stop-requires-clause-others g c = λ batch same. absurd (no_log _ batch same)

-- the store is what has failed

pub stop-requires-clause-store_out : goal.stop-requires-clause-store_out
stop-requires-clause-store_out g c = λ lent same. c.requires.out

pub stop-requires-clause-store_faults : goal.stop-requires-clause-store_faults
stop-requires-clause-store_faults g c = λ lent same.
    of_lent (λ l. g.D.Disk.faults c.args.engine.now.store.known ≤ g.D.Disk.faults l.device) _ lent same (rw (← c.requires.device) c.publish-answer.ensures.faults)

pub stop-requires-clause-store_rose : goal.stop-requires-clause-store_rose
stop-requires-clause-store_rose g c =
    let failed : c.publish-answer.result ≡ Err Fault = search rules in
    λ lent same. of_lent (λ l. Rose (g.D.Disk.faults c.args.engine.now.store.known) (g.D.Disk.faults l.device)) _ lent same (rw (← c.requires.device) (c.publish-answer.ensures.fault failed))

pub stop-requires-clause-numbers : goal.stop-requires-clause-numbers
stop-requires-clause-numbers g c = λ lent same.
    let n = c.requires.numbers.1 in
    of_lent (λ l. c.args.engine.now.store.next_file ≤ l.next_file) _ lent same (omega arith)

pub stop-requires-clause-turn : goal.stop-requires-clause-turn
stop-requires-clause-turn g c = λ lent same.
    of_lent (λ l. IsTrue g.D.Disk.tells → IsTurn g.D.Disk.seen g.D.Disk.now g.D.Disk.leaves c.args.engine.now.store.next_file l.next_file c.args.engine.now.store.known l.device) _ lent same (λ t. rw (← c.requires.device) (c.publish-answer.ensures.turn t _ _))

pub stop-requires-clause-one_of : goal.stop-requires-clause-one_of
stop-requires-clause-one_of g c = λ lent same.
    let x = c.args.engine.now in
    of_lent (λ l. IsTrue g.D.Disk.tells → HasOneOf g.D.Disk.now g.D.Disk.leaves x.store.meta (published_in true x.store.lent x.store.meta) l.device) _ lent same (λ t.
    let was = ap (λ d. super_of (g.D.Disk.seen d)) c.requires.device ∙ (c.standing.ensures.side.publishes t).superblock in
    subst (λ o. HasOneOf g.D.Disk.now g.D.Disk.leaves x.store.meta (published_in true o x.store.meta) c.publish-answer.new.disk) (sym (c.requires.meta.1 ∙ c.in-Some.is)) (c.publish-answer.ensures.one_of t x.store.meta was))

-- no job publishes

pub store_home-requires-clause-job : goal.store_home-requires-clause-job
store_home-requires-clause-job g c = λ m is. inl c.requires.free

pub store_home-requires-in-Err-Memory-clause-job : goal.store_home-requires-in-Err-Memory-clause-job
store_home-requires-in-Err-Memory-clause-job g c = λ m is. inl c.requires.free

-- at each moment the store had the superblock from before or the one that went out

pub store_home-requires-clause-moments : goal.store_home-requires-clause-moments
store_home-requires-clause-moments g c = λ t.
    let s = c.args.engine.now.store in
    subst (λ o. LeavesInTurn g.D.Disk.seen g.D.Disk.now g.D.Disk.leaves o s.next_file c.args.lent.next_file s.known c.publish-answer.new.disk) (sym (c.requires.meta.1 ∙ c.in-Some.is)) (rw (← c.requires.device) (c.publish-answer.ensures.any_moment t))

pub store_home-requires-in-Err-Memory-clause-moments : goal.store_home-requires-in-Err-Memory-clause-moments
store_home-requires-in-Err-Memory-clause-moments g c = λ t.
    let s = c.args.engine.now.store in
    subst (λ o. LeavesInTurn g.D.Disk.seen g.D.Disk.now g.D.Disk.leaves o s.next_file c.args.lent.next_file s.known c.publish-answer.new.disk) (sym (c.requires.meta.1 ∙ c.in-Some.is)) (rw (← c.requires.device) (c.publish-answer.ensures.any_moment t))

pub stop-requires-clause-log_moments : goal.stop-requires-clause-log_moments
stop-requires-clause-log_moments g c = λ batch same. absurd (no_log _ batch same)

pub stop-requires-clause-store_moments : goal.stop-requires-clause-store_moments
stop-requires-clause-store_moments g c = λ lent same.
    let s = c.args.engine.now.store in
    of_lent (λ l. IsTrue g.D.Disk.tells → LeavesInTurn g.D.Disk.seen g.D.Disk.now g.D.Disk.leaves s.lent s.next_file l.next_file s.known l.device) _ lent same (λ t.
    subst (λ o. LeavesInTurn g.D.Disk.seen g.D.Disk.now g.D.Disk.leaves o s.next_file c.args.lent.next_file s.known c.publish-answer.new.disk) (sym (c.requires.meta.1 ∙ c.in-Some.is)) (rw (← c.requires.device) (c.publish-answer.ensures.any_moment t)))

pub returns-in-Ok-clause-upkeep : goal.returns-in-Ok-clause-upkeep
returns-in-Ok-clause-upkeep g c = c.store_home.ensures.upkeep (inr c.requires.free)

pub returns-in-Err-Memory-clause-upkeep : goal.returns-in-Err-Memory-clause-upkeep
returns-in-Err-Memory-clause-upkeep g c = c.store_home-in-Err-Memory.ensures.upkeep (inr c.requires.free)

pub returns-in-Err-Fault-clause-upkeep : goal.returns-in-Err-Fault-clause-upkeep
returns-in-Err-Fault-clause-upkeep g c = ap (λ v. v.upkeep) (c.stop.ensures.store_home _ refl)
