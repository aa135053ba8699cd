use Rattle.std.proofs.Common.{rules, ap}
use Rattle.kt_history.specs.declared.command.Command.TheVariants as command
use Rattle.kt_seatlock.specs.Passes.{number, part, seen}
use Rattle.kt_serve.proofs.Commands.{command_after, going_rests, going_on, after_going}
use Rattle.kt_serve.proofs.Scans.{scan_at, look_rests, going_lacks, snapped_lacks, snapped_answers}
use Rattle.kt_serve.proofs.Open.{open_before}
use Rattle.kt_serve.proofs.Rests.{upkeep_same, upkeep_then}
use Rattle.kt_serve.proofs.scan.read_rows.Goals as goal

pub read_once-requires-clause-scan : goal.read_once-requires-clause-scan
read_once-requires-clause-scan g c = scan_at _ _ c.args.index c.args.scan.now
    (command_after _ _ c.args.index (command.Scan c.args.scan.now) c.requires.next.part _ _ c.requires.next.is c.loop.invariant.0.0.1 c.loop.invariant.2.root c.requires.command)

pub returns-in_err-rows-in-Read-clause-root : goal.returns-in_err-rows-in-Read-clause-root
returns-in_err-rows-in-Read-clause-root g c = λ root h. c.read_once.ensures.root root (c.loop.invariant.2.root root h)

pub returns-in_err-rows-in-Read-clause-memory : goal.returns-in_err-rows-in-Read-clause-memory
returns-in_err-rows-in-Read-clause-memory g c =
    let lacks = snapped_lacks (number c.args.pass.now) (number c.loop.pass) c.args.index (part c.args.pass.now) (part c.loop.pass) (part c.read_once.new.pass) (seen c.args.pass.now) (seen c.loop.pass) (seen c.read_once.new.pass) c.in-Read.snap
    c.loop.invariant.0.0.1 c.loop.invariant.2 c.read_once.ensures.root c.in-Read.ensures.read.1 in
    search (rules, lacks)

pub returns-in-Read-clause-root : goal.returns-in-Read-clause-root
returns-in-Read-clause-root g c = λ root h. c.read_once.ensures.root root (c.loop.invariant.2.root root h)

pub returns-in-Read-clause-reply : goal.returns-in-Read-clause-reply
returns-in-Read-clause-reply g c = (
  c.in-Read.ensures.read.0,
  snapped_answers (number c.args.pass.now) (number c.loop.pass) c.args.index (part c.args.pass.now) (part c.loop.pass) (seen c.args.pass.now) (seen c.loop.pass) (seen c.read_once.new.pass) c.in-Read.snap c.args.schema.now c.args.scan.now _
      c.loop.invariant.0.0.1 c.loop.invariant.2 c.in-Read.ensures.read.1 c.requires.command c.requires.on c.in_ok-rows-in-Read.ensures.rows,
)

pub returns-in-Told-clause-root : goal.returns-in-Told-clause-root
returns-in-Told-clause-root g c = λ root h. c.read_once.ensures.root root (c.loop.invariant.2.root root h)

pub returns-in-Told-clause-reply : goal.returns-in-Told-clause-reply
returns-in-Told-clause-reply g c = after_going (number c.args.pass.now) (number c.loop.pass) c.args.index c.in-Told.reply (part c.args.pass.now) (part c.loop.pass) (part c.read_once.new.pass) (seen c.args.pass.now) (seen c.loop.pass) (seen c.read_once.new.pass)
    c.loop.invariant.0.0.1 c.loop.invariant.2 c.in-Told.ensures.read

pub loop-preserved : goal.loop-preserved
loop-preserved g c = let b = rw c.in-Wait.is at c.read_once.ensures.read in (
  search rules,
  look_rests _ _ _ _ (ap (λ m. m.0.part) c.rest.ensures.2) b.0,
  going_rests _ _ _ _ _ _ _ (ap (λ m. m.0.part) c.rest.ensures.2) (ap (λ m. m.0.seen) c.rest.ensures.2) (going_on _ _ _ _ _ _ _ _ c.loop.invariant.0.0.1 c.loop.invariant.2 c.read_once.ensures.root b.1),
  upkeep_then _ _ _ (upkeep_then _ _ _ c.loop.invariant.3 c.read_once.ensures.upkeep) (upkeep_same _ _ (ap (λ m. m.0.part) c.rest.ensures.2)),
)

pub returns-in-Memory-clause-root : goal.returns-in-Memory-clause-root
returns-in-Memory-clause-root g c = λ root h. c.read_once.ensures.root root (c.loop.invariant.2.root root h)

pub returns-in-Memory-clause-memory : goal.returns-in-Memory-clause-memory
returns-in-Memory-clause-memory g c = let b = rw c.in-Memory.is at c.read_once.ensures.read in
    going_lacks _ _ _ _ _ _ (going_on (number c.args.pass.now) (number c.loop.pass) (part c.args.pass.now) (part c.loop.pass) (part c.read_once.new.pass) (seen c.args.pass.now) (seen c.loop.pass) (seen c.read_once.new.pass) c.loop.invariant.0.0.1 c.loop.invariant.2 c.read_once.ensures.root b)

pub returns-in-Read-clause-open : goal.returns-in-Read-clause-open
returns-in-Read-clause-open g c = open_before (number c.args.pass.now) (number c.loop.pass) c.args.index (part c.args.pass.now) (part c.loop.pass) (seen c.args.pass.now) (seen c.loop.pass) c.loop.invariant.0.0.1 c.loop.invariant.2 c.read_once.ensures.open

pub returns-in-Told-clause-open : goal.returns-in-Told-clause-open
returns-in-Told-clause-open g c = open_before (number c.args.pass.now) (number c.loop.pass) c.args.index (part c.args.pass.now) (part c.loop.pass) (seen c.args.pass.now) (seen c.loop.pass) c.loop.invariant.0.0.1 c.loop.invariant.2 c.read_once.ensures.open

pub returns-in_err-rows-in-Read-clause-upkeep : goal.returns-in_err-rows-in-Read-clause-upkeep
returns-in_err-rows-in-Read-clause-upkeep g c = upkeep_then _ _ _ c.loop.invariant.3 c.read_once.ensures.upkeep

pub returns-in-Read-clause-upkeep : goal.returns-in-Read-clause-upkeep
returns-in-Read-clause-upkeep g c = upkeep_then _ _ _ c.loop.invariant.3 c.read_once.ensures.upkeep

pub returns-in-Told-clause-upkeep : goal.returns-in-Told-clause-upkeep
returns-in-Told-clause-upkeep g c = upkeep_then _ _ _ c.loop.invariant.3 c.read_once.ensures.upkeep

pub returns-in-Memory-clause-upkeep : goal.returns-in-Memory-clause-upkeep
returns-in-Memory-clause-upkeep g c = upkeep_then _ _ _ c.loop.invariant.3 c.read_once.ensures.upkeep
