use Rattle.std.proofs.Common.{◌≡◌, ◌-◌, length, subst, arith}
use Rattle.kt_baseset.specs.Reading.{IsLookupFault}
use Rattle.kt_baseset.proofs.Whole.{checks_of, not_shorter, longer_stop, not_differs, differs_stop}
use Rattle.kt_baseset.proofs.decoding.read_lookup.Goals as goal

pub returns-in-Ok-check-clause-only : goal.returns-in-Ok-check-clause-only
returns-in-Ok-check-clause-only c =
    let checks = checks_of c.args.list.now c.in-Ok.lookup c.args.bytes.now c.check.result c.in-Ok.ensures (c.check.ensures.found, c.check.ensures.only, c.check.ensures.exact) in
    λ e. absurd (not_shorter c.args.list.now c.args.bytes.now c.check.result c.in-Ok-check.used checks c.in-Ok-check.is c.if-used-bytes.true e)

pub returns-in-Ok-check-clause-stop : goal.returns-in-Ok-check-clause-stop
returns-in-Ok-check-clause-stop c =
    let checks = checks_of c.args.list.now c.in-Ok.lookup c.args.bytes.now c.check.result c.in-Ok.ensures (c.check.ensures.found, c.check.ensures.only, c.check.ensures.exact) in
    longer_stop c.args.list.now c.args.bytes.now c.check.result c.in-Ok-check.used checks c.in-Ok-check.is c.if-used-bytes.true

pub returns-in-Err-clause-only : goal.returns-in-Err-clause-only
returns-in-Err-clause-only c =
    let checks = checks_of c.args.list.now c.in-Ok.lookup c.args.bytes.now c.check.result c.in-Ok.ensures (c.check.ensures.found, c.check.ensures.only, c.check.ensures.exact) in
    λ e. absurd (not_differs c.args.list.now c.args.bytes.now c.check.result c.in-Err.differs checks c.in-Err.is e)

pub returns-in-Err-clause-stop : goal.returns-in-Err-clause-stop
returns-in-Err-clause-stop c =
    let checks = checks_of c.args.list.now c.in-Ok.lookup c.args.bytes.now c.check.result c.in-Ok.ensures (c.check.ensures.found, c.check.ensures.only, c.check.ensures.exact) in
    let left : length c.args.bytes.now - c.in-Err.differs.offset ≡ c.saturating_sub.result = omega (arith, c.saturating_sub.ensures) in
    subst (IsLookupFault c.args.list.now c.args.bytes.now) left (differs_stop c.args.list.now c.args.bytes.now c.check.result c.in-Err.differs checks c.in-Err.is)
