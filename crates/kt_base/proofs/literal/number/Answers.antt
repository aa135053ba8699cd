use Rattle.std.proofs.Common.{◌∙◌, sym}
use Rattle.std.specs.Int.{w64}
use Rattle.std.proofs.lemmas.Int.{to_z-of_z}
use Rattle.kt_base.proofs.Values.{no_kind, read_number, read_unfit}
use Rattle.kt_base.proofs.literal.number.Goals as goal

pub returns-in_default : goal.returns-in_default
returns-in_default c = no_kind c.args.kind c.args.text.now c.requires c.in_default.ensures.none

pub returns-then-in_range : goal.returns-then-in_range
returns-then-in_range c =
    read_number c.args.kind c.args.text.now c.in-Some.number _ c.in-Some.ensures.fits c.in-Some.ensures.spelled (to_z-of_z w64 c.in-Some.number c.in-Some.ensures.fits) (sym c.in_range.ensures ∙ c.if-in_range.true)

pub returns-else-in_range : goal.returns-else-in_range
returns-else-in_range c =
    read_unfit c.args.kind c.args.text.now c.in-Some.number _ c.in-Some.ensures.fits c.in-Some.ensures.spelled (to_z-of_z w64 c.in-Some.number c.in-Some.ensures.fits) (sym c.in_range.ensures ∙ c.if-in_range.false)
