use Rattle.std.proofs.lemmas.Bool.{OnTrue_at}
use Rattle.kt_merge.specs.Rewriting.{AreAbove}
use Rattle.kt_merge.proofs.InTurn.{in_turn, at_end}
use Rattle.kt_merge.proofs.rewrite.are_above.Goals as goal

pub records-preserved : goal.records-preserved
records-preserved c = in_turn (AreAbove c.args.files.now) c.args.records.now c.records.record-index c.record-item.result (AreAbove c.args.files.now c.args.records.now) c.records-test.true c.record-item.is (λ rest h. (OnTrue_at c.if-not-is_above.false c.is_above.ensures, h)) c.records.invariant

pub returns : goal.returns
returns c = at_end (AreAbove c.args.files.now) c.args.records.now c.records.record-index (AreAbove c.args.files.now c.args.records.now) c.records-test.false tt c.records.invariant
