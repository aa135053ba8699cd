use Rattle.std.proofs.lemmas.Bool.{OnTrue_at}
use Rattle.kt_outputs.specs.Outputs.{AreOfWay}
use Rattle.kt_outputs.proofs.WholeFiles.{in_turn, at_end}
use Rattle.kt_outputs.proofs.whole.are_of_way.Goals as goal

pub files-preserved : goal.files-preserved
files-preserved c =
    in_turn (AreOfWay c.args.way c.args.rows) c.args.files.now c.files.file-index c.file-item.result (AreOfWay c.args.way c.args.rows c.args.files.now) c.files-test.true c.file-item.is
    (λ rest h. (OnTrue_at c.if-not-is_of_way.false c.is_of_way.ensures, h)) c.files.invariant

pub returns : goal.returns
returns c = at_end (AreOfWay c.args.way c.args.rows) c.args.files.now c.files.file-index (AreOfWay c.args.way c.args.rows c.args.files.now) c.files-test.false tt c.files.invariant
