use Rattle.kt_host.proofs.Streams.{kept, kept_still, read_after, read_failed}
use Rattle.kt_host.proofs.edges.read_through.Goals as goal

pub loop-init : goal.loop-init
loop-init g c = kept _

pub returns-then-not-is_interrupted-clause-bytes :
    goal.returns-then-not-is_interrupted-clause-bytes
returns-then-not-is_interrupted-clause-bytes g c = read_after _ _ _ _ _ c.loop.invariant c.read-answer.ensures.bytes

pub loop-preserved : goal.loop-preserved
loop-preserved g c =
    let failed = read_failed _ _ _ _ c.read-answer.ensures.bytes (c.is_interrupted.ensures c.if-not-is_interrupted.false) in
    kept_still _ _ _ c.loop.invariant failed

pub returns-clause-bytes : goal.returns-clause-bytes
returns-clause-bytes g c = read_after _ _ _ _ _ c.loop.invariant c.read.ensures.bytes
