use Rattle.std.proofs.Common.{◌∙◌, ◌<◌, length, arith}
use Rattle.std.proofs.lemmas.Grind.{common_steps}
use Rattle.kt_column.proofs.NullBits.{put_step}
use Rattle.kt_column.proofs.nulls.put_bits.Goals as goal

pub loop-rest-preserved : goal.loop-rest-preserved
loop-rest-preserved c =
    let some : 0 < length c.loop-rest.rest.now = grind (arith, common_steps) in
    put_step c.loop-rest.out.items _ c.loop-rest.rest.now c.split_at.result.0.now c.split_at.result.1.now c.min.result c.bits_value.result some c.min.ensures c.split_at.ensures.front c.split_at.ensures.back c.bits_value.ensures.value c.in_ok-push.ensures.items ∙ c.loop-rest.invariant
