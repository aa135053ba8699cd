use Rattle.std.proofs.Common.{◌∙◌, arith}
use Rattle.kt_script.specs.Writes.{names_now, op_in}
use Rattle.kt_script.proofs.NamedWords.{least_named, names_more, cells_more}
use Rattle.kt_script.proofs.named.take_names.Goals as goal

pub words-preserved : goal.words-preserved
words-preserved c =
    let cut = c.in-Some.ensures.some in
    let step = c.in_ok-read_named.ensures in
    record {
      names = λ h. names_more (names_now c.words.names.items) (names_now c.read_named.new.names.items) (op_in c.words.left) _ c.in-Some.word.now (op_in c.in-Some.behind) cut.0 (step.names h) (c.words.invariant.names (omega (arith, h, step.least)));
      cells = λ h. cells_more c.args.others.now c.words.cells.items c.read_named.new.cells.items (op_in c.words.left) _ c.in-Some.word.now (op_in c.in-Some.behind) cut.0 (step.cells h) (c.words.invariant.cells (omega (arith, h, step.least)));
      later = cut.1 ∙ c.words.invariant.later;
      least = least_named c.args.others.now (names_now c.words.names.items) (names_now c.read_named.new.names.items) (op_in c.words.left) c.in-Some.word.now (op_in c.in-Some.behind) _ _ cut.0 step.least step.names ∙ c.words.invariant.least;
    }
