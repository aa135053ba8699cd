use Rattle.std.proofs.Common.{◌∙◌, sym}
use Rattle.kt_script.proofs.TimeWords.{named, late_number, long_number}
use Rattle.kt_script.proofs.times.read_time.Goals as goal

pub returns-in_default : goal.returns-in_default
returns-in_default c = long_number c.args.word.now (sym c.is_count.ensures ∙ c.if-not-is_count.false) (sym c.read_number.ensures ∙ c.in_default.is)

pub returns-then-t-le-TIME_MOST : goal.returns-then-t-le-TIME_MOST
returns-then-t-le-TIME_MOST c = named c.args.word.now c.in-Some.t (sym c.read_number.ensures ∙ c.in-Some.is) c.if-t-le-TIME_MOST.true

pub returns-else-t-le-TIME_MOST : goal.returns-else-t-le-TIME_MOST
returns-else-t-le-TIME_MOST c = late_number c.args.word.now c.in-Some.t (sym c.is_count.ensures ∙ c.if-not-is_count.false) (sym c.read_number.ensures ∙ c.in-Some.is) c.if-t-le-TIME_MOST.false
