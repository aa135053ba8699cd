use Rattle.std.proofs.Common.{◌≡◌, ◌+◌, ◌-◌, refl, arith}
use Rattle.std.proofs.lemmas.List.{drop-set}
use Rattle.kt_script.proofs.WrittenNumbers.{digits_fit}
use Rattle.kt_script.proofs.number.write_spaced.Goals as goal

pub write_digits-start-requires : goal.write_digits-start-requires
write_digits-start-requires c = (omega (arith, digits_fit c.args.number c.ranges.number.fits, c.requires.room), c.requires.within)

pub overflow_sub-start : goal.overflow_sub-start
overflow_sub-start c = omega (arith, digits_fit c.args.number c.ranges.number.fits, c.requires.room, c.write_digits-start.ensures.start)

pub returns-clause-start : goal.returns-clause-start
returns-clause-start c = omega (arith, digits_fit c.args.number c.ranges.number.fits, c.requires.room, c.write_digits-start.ensures.start)

pub returns-clause-written : goal.returns-clause-written
returns-clause-written c =
    let start = c.write_digits-start.result in
    let next : start - 1 + 1 ≡ start = omega (arith, digits_fit c.args.number c.ranges.number.fits, c.requires.room, c.write_digits-start.ensures.start) in
    rw (drop-set c.write_digits-start.new.buf (start - 1) 32 (omega (arith, next)), next, c.write_digits-start.ensures.written) refl
