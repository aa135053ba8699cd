use Rattle.kt_seatlock.specs.Passes.{number, seen, part}
use Rattle.kt_serve.proofs.Applies.{flying_as, flying_still}
use Rattle.kt_serve.proofs.Rests.{upkeep_then}
use Rattle.kt_serve.proofs.Turns.{after_still}
use Rattle.kt_serve.proofs.rows.go_far.Goals as goal

-- it flies once its REPLICATE is durable
pub bring_home-requires-clause-flying : goal.bring_home-requires-clause-flying
bring_home-requires-clause-flying g c = let f = c.requires.flying in (
  f.0,
  flying_as (number c.args.pass.now) (number c.make_durable.new.pass) f.0 c.args.at c.args.write.now (part c.make_durable.new.pass) c.make_durable.ensures.pass.0.1
      (flying_still (number c.args.pass.now) f.0 c.args.at c.args.write.now (part c.args.pass.now) (part c.make_durable.new.pass) (seen c.args.pass.now) (seen c.make_durable.new.pass) c.make_durable.ensures.still f.1),
)

pub bring_on-requires-in-None-clause-flying : goal.bring_on-requires-in-None-clause-flying
bring_on-requires-in-None-clause-flying g c = let f = c.requires.flying in (
  f.0,
  flying_as (number c.args.pass.now) (number c.make_durable.new.pass) f.0 c.args.at c.args.write.now (part c.make_durable.new.pass) c.make_durable.ensures.pass.0.1
      (flying_still (number c.args.pass.now) f.0 c.args.at c.args.write.now (part c.args.pass.now) (part c.make_durable.new.pass) (seen c.args.pass.now) (seen c.make_durable.new.pass) c.make_durable.ensures.still f.1),
)

pub returns-in-Some-clause-upkeep : goal.returns-in-Some-clause-upkeep
returns-in-Some-clause-upkeep g c = upkeep_then _ _ _ c.make_durable.ensures.upkeep c.bring_home.ensures.upkeep

pub returns-in-Some-clause-applied : goal.returns-in-Some-clause-applied
returns-in-Some-clause-applied g c = after_still (number c.args.pass.now) (number c.make_durable.new.pass) (part c.args.pass.now) (part c.make_durable.new.pass) (part c.bring_home.new.pass) (seen c.args.pass.now) (seen c.make_durable.new.pass) (seen c.bring_home.new.pass)
    c.args.write.now c.args.at c.bring_home.result c.make_durable.ensures.pass.0.1 c.make_durable.ensures.still c.bring_home.ensures.applied

pub returns-in-None-clause-upkeep : goal.returns-in-None-clause-upkeep
returns-in-None-clause-upkeep g c = upkeep_then _ _ _ c.make_durable.ensures.upkeep c.bring_on-in-None.ensures.upkeep

pub returns-in-None-clause-applied : goal.returns-in-None-clause-applied
returns-in-None-clause-applied g c = after_still (number c.args.pass.now) (number c.make_durable.new.pass) (part c.args.pass.now) (part c.make_durable.new.pass) (part c.bring_on-in-None.new.pass) (seen c.args.pass.now) (seen c.make_durable.new.pass) (seen c.bring_on-in-None.new.pass)
    c.args.write.now c.args.at c.bring_on-in-None.result c.make_durable.ensures.pass.0.1 c.make_durable.ensures.still c.bring_on-in-None.ensures.applied
