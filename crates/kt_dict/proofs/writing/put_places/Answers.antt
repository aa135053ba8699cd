use Rattle.std.proofs.lemmas.List.{take_more}
use Rattle.kt_dict.specs.Spelling.{short}
use Rattle.kt_dict.proofs.Sums.{written_more}
use Rattle.kt_dict.proofs.writing.put_places.Goals as goal

pub loop-code-preserved : goal.loop-code-preserved
loop-code-preserved c = written_more short _ _ _ _ _ _ (take_more c.args.codes.now c.loop-code.code-index 0 c.loop-code-test.true) c.loop-code.invariant c.in-Ok.ensures
