use Rattle.std.proofs.Common.{arith}
use Rattle.kt_column.specs.declared.form.Form.TheVariants.{Keys}
use Rattle.kt_column.specs.declared.form.Encoding.TheVariants.{Prefix}
use Rattle.kt_front.proofs.Falls.{fall_place}
use Rattle.kt_column.proofs.Heads.{no_head_stop}
use Rattle.kt_column.proofs.rising.fall_in.Goals as goal

pub returns-in-Err : goal.returns-in-Err
returns-in-Err c = λ len rest h. absurd (no_head_stop Keys c.args.bytes.now Prefix len rest c.in-Err.field-0 h c.in-Err.ensures.stop)

pub overflow_add-result : goal.overflow_add-result
overflow_add-result c =
    let fall = rw c.in-Some.is at c.in_ok-at.ensures in
    let within = fall_place _ _ _ _ _ fall in
    omega (arith, within, c.in-Ok.ensures.long)
