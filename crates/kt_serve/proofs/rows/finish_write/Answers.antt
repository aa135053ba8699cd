use Rattle.std.proofs.Common.{Result, Ok, Err, rules, refl, arith}
use Rattle.std.specs.Prelude.{OnErr}
use Rattle.kt_history.specs.declared.reply.Reply.TheVariants as reply
use Rattle.kt_seatlock.specs.Passes.{number, seen, part}
use Rattle.kt_serve.proofs.Stills.{going_after, going_self, still_going}
use Rattle.kt_serve.proofs.Commands.{after_going}
use Rattle.kt_serve.proofs.Applies.{flying_as, flying_still, flying_after}
use Rattle.kt_serve.proofs.Rests.{upkeep_same, upkeep_then}
use Rattle.kt_serve.proofs.rows.finish_write.Goals as goal

on_err : {A E : Type 0} (r : Result A E) {P : Type 0} → P → OnErr r P
on_err (Ok x) p = tt
on_err (Err e) p = p

pub loop-init : goal.loop-init
loop-init g c = (search rules, c.requires.home, going_self _ _ _, λ i f. f, omega arith, upkeep_same _ _ refl)

pub go_far-requires-clause-flying : goal.go_far-requires-clause-flying
go_far-requires-clause-flying g c = let f = c.requires.flying in
    (f.0, flying_as (number c.args.pass.now) (number c.loop.pass) f.0 c.loop.at c.args.write.now (part c.loop.pass) c.loop.invariant.0.0.1 (c.loop.invariant.3 f.0 f.1))

-- it could not go on
pub returns-in_err-to-clause-upkeep : goal.returns-in_err-to-clause-upkeep
returns-in_err-to-clause-upkeep g c = upkeep_then _ _ _ c.loop.invariant.5 c.go_far.ensures.upkeep

pub returns-in_err-to-clause-root : goal.returns-in_err-to-clause-root
returns-in_err-to-clause-root g c = λ root h. (still_going _ _ _ _ _ c.in_err-to.ensures.still).root root (c.loop.invariant.2.root root h)

pub returns-in_err-to-clause-going : goal.returns-in_err-to-clause-going
returns-in_err-to-clause-going g c = on_err c.from_residual.result (going_after _ _ _ _ _ _ _ _ c.loop.invariant.0.0.1 c.loop.invariant.2 (still_going _ _ _ _ _ c.in_err-to.ensures.still))

-- the visit has brought it on
pub loop-preserved-in-Applied : goal.loop-preserved-in-Applied
loop-preserved-in-Applied g c = let a = rw c.in-Applied.is at c.in_ok-to.ensures.applied in (
  search rules,
  c.go_far.ensures.home,
  going_after _ _ _ _ _ _ _ _ c.loop.invariant.0.0.1 c.loop.invariant.2 a.0,
  λ i f. flying_after (number c.args.pass.now) (number c.loop.pass) i c.loop.at c.in-Applied.to c.args.write.now (part c.loop.pass) (part c.go_far.new.pass) c.loop.invariant.0.0.1 (a.1 i) (c.loop.invariant.3 i f),
  omega (arith, a.3),
  upkeep_then _ _ _ c.loop.invariant.5 c.go_far.ensures.upkeep,
)

pub returns-in-Ended-clause-upkeep : goal.returns-in-Ended-clause-upkeep
returns-in-Ended-clause-upkeep g c = upkeep_then _ _ _ c.loop.invariant.5 c.go_far.ensures.upkeep

pub returns-in-Ended-clause-root : goal.returns-in-Ended-clause-root
returns-in-Ended-clause-root g c = let a = rw c.in-Ended.is at c.in_ok-to.ensures.applied in
    λ root h. a.0 root (c.loop.invariant.2.root root h)

pub returns-in-Ended-clause-reply : goal.returns-in-Ended-clause-reply
returns-in-Ended-clause-reply g c = let a = rw c.in-Ended.is at c.in_ok-to.ensures.applied in
    λ i f. after_going (number c.args.pass.now) (number c.loop.pass) i (reply.At c.in-Ended.field-0.ts c.in-Ended.field-0.outcomes) (part c.args.pass.now) (part c.loop.pass) (part c.go_far.new.pass) (seen c.args.pass.now) (seen c.loop.pass) (seen c.go_far.new.pass) c.loop.invariant.0.0.1 c.loop.invariant.2
    (a.1 i (flying_as (number c.args.pass.now) (number c.loop.pass) i c.loop.at c.args.write.now (part c.loop.pass) c.loop.invariant.0.0.1 (c.loop.invariant.3 i f)))

-- its REPLICATE is not durable yet
pub loop-preserved : goal.loop-preserved
loop-preserved g c = let still = rw c.in-Early.is at c.in_ok-to.ensures.applied in (
  search rules,
  c.go_far.ensures.home,
  going_after _ _ _ _ _ _ _ _ c.loop.invariant.0.0.1 c.loop.invariant.2 (still_going _ _ _ _ _ still),
  λ i f. flying_after (number c.args.pass.now) (number c.loop.pass) i c.loop.at c.loop.at c.args.write.now (part c.loop.pass) (part c.go_far.new.pass) c.loop.invariant.0.0.1 (flying_still (number c.loop.pass) i c.loop.at c.args.write.now (part c.loop.pass) (part c.go_far.new.pass) (seen c.loop.pass) (seen c.go_far.new.pass) still) (c.loop.invariant.3 i f),
  c.loop.invariant.4,
  upkeep_then _ _ _ c.loop.invariant.5 c.go_far.ensures.upkeep,
)

pub returns-in-Stopped-clause-upkeep : goal.returns-in-Stopped-clause-upkeep
returns-in-Stopped-clause-upkeep g c = upkeep_then _ _ _ c.loop.invariant.5 c.go_far.ensures.upkeep

pub returns-in-Stopped-clause-root : goal.returns-in-Stopped-clause-root
returns-in-Stopped-clause-root g c = let a = rw c.in-Stopped.is at c.in_ok-to.ensures.applied in
    λ root h. (still_going _ _ _ _ _ a.0).root root (c.loop.invariant.2.root root h)

pub returns-in-Stopped-clause-going : goal.returns-in-Stopped-clause-going
returns-in-Stopped-clause-going g c = let a = rw c.in-Stopped.is at c.in_ok-to.ensures.applied in
    going_after _ _ _ _ _ _ _ _ c.loop.invariant.0.0.1 c.loop.invariant.2 (still_going _ _ _ _ _ a.0)
