use Rattle.std.proofs.Common.{sym, ◌∙◌}
use Rattle.kt_scan.proofs.Asking.{fails_line, no_line}
use Rattle.kt_scan.proofs.scanning.fails.Goals as goal

pub returns-then-not-found : goal.returns-then-not-found
returns-then-not-found g c = λ _. no_line c.args.asked.now.schema.now c.args.asked.now.scan.now c.args.key.now c.args.asked.now.tested.now _ (rw c.if-not-found.true at c.in_ok-found.ensures)

pub returns-then-not-kept : goal.returns-then-not-kept
returns-then-not-kept g c = λ _.
    fails_line c.args.asked.now.schema.now c.args.asked.now.scan.now c.args.key.now _ _ c.columns_into.new.row
    (sym c.args.asked.now.tests ∙ c.may_test_first.ensures c.if-not-may_test_first.false)
    (rw (c.args.asked.now.in_tests, c.if-not-found.false) at c.in_ok-found.ensures)
    (sym (rw (c.as_slice-preds.ensures, c.key_columns-columns.ensures) at c.kept.ensures) ∙ c.if-not-kept.true)
