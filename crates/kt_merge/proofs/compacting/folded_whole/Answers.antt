use Rattle.std.proofs.lemmas.Result.{IfOk-weaker}
use Rattle.kt_merge.proofs.ToldInOrder.{rewritten_twice}
use Rattle.kt_merge.proofs.compacting.folded_whole.Goals as goal

pub with_folded-requires : goal.with_folded-requires
with_folded-requires c = record { none = c.in_ok-rowset.ensures.same.fresh }

pub returns-clause-same : goal.returns-clause-same
returns-clause-same c = IfOk-weaker c.with_folded.result _ _ (λ d two. rewritten_twice c.args.rowset c.in_ok-rowset.rowset d c.in_ok-rowset.ensures.same two) c.with_folded.ensures.same
