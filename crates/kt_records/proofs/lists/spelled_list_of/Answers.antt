use Rattle.std.proofs.Common.{sym, subst, ◌∙◌}
use Rattle.kt_bytes.specs.Reading.{Gives}
use Rattle.kt_cells.specs.Reading.{cells_behind}
use Rattle.kt_records.proofs.Listed.{listed_is}
use Rattle.kt_records.proofs.lists.spelled_list_of.Goals as goal

pub returns-clause-cells : goal.returns-clause-cells
returns-clause-cells c =
    subst (λ read. Gives (λ x. (cells_behind x.0.now, x.1.now)) c.spelled_cells_of.result read) (sym (listed_is c.args.kind c.args.bytes.now c.in_ok-count.count c.in_ok-count.field-0-1.now c.in_ok-count.ensures (sym c.lists.ensures ∙ c.if-not-lists.false))) c.spelled_cells_of.ensures.cells
