use Rattle.std.proofs.Common.{◌≡◌, sym, ◌∙◌, true}
use Rattle.std.specs.Prelude.{codes}
use Rattle.kt_base.specs.Literals.{same}
use Rattle.kt_script.specs.Pieces.{words_in}
use Rattle.kt_script.specs.Scans.{taken_view}
use Rattle.kt_script.proofs.Preds.{none_read, all_read, more_read}
use Rattle.kt_script.proofs.scans.read_preds.Goals as goal

pub tests-init : goal.tests-init
tests-init c = rw c.new-preds.ensures.items (none_read c.args.columns.now (words_in c.args.line) c.args.no.now c.requires)

pub returns-in_default-next_word : goal.returns-in_default-next_word
returns-in_default-next_word c =
    all_read (taken_view c.in-Some.taken) c.tests.invariant (sym c.in-Some.ensures) c.in_default-next_word.ensures.none (c.of.ensures ∙ c.in_ok-read_pred.ensures.preds) c.in_ok-read_pred.ensures.least

pub tests-preserved : goal.tests-preserved
tests-preserved c =
    let joined : same c.in-Some-next_word.word.now (codes "and") ≡ true = sym c.is_word.ensures ∙ c.if-not-is_word.false in
    more_read (taken_view c.in-Some.taken) c.in-Some-next_word.word.now (words_in c.in-Some-next_word.behind) c.tests.invariant (sym c.in-Some.ensures) c.in-Some-next_word.ensures.some joined c.in_ok-read_pred.ensures.preds c.in_ok-read_pred.ensures.least
