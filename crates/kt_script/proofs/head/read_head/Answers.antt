use Rattle.std.proofs.Common.{◌≡◌, sym, true, false}
use Rattle.std.specs.Prelude.{codes}
use Rattle.kt_base.specs.Literals.{same}
use Rattle.kt_script.proofs.Faults.{not_table, behind_table}
use Rattle.kt_script.proofs.head.read_head.Goals as goal

pub returns-then-is_word : goal.returns-then-is_word
returns-then-is_word c =
    let is : same c.in-Some.line.now (codes "table") ≡ true = sym c.if-is_word.ensures in
    behind_table c.args.text.now c.in-Some.line.now c.in-Some.behind.now c.read_columns.result c.in-Some.ensures.0 c.in-Some.ensures.1 is c.read_columns.ensures

pub returns-else-is_word : goal.returns-else-is_word
returns-else-is_word c =
    let is : same c.in-Some.line.now (codes "table") ≡ false = sym c.if-is_word.ensures in
    not_table c.args.text.now c.in-Some.line.now c.in-Some.behind.now c.in-Some.ensures.0 is
