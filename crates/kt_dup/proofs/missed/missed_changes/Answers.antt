use Rattle.std.proofs.Common.{ap, ◌∙◌}
use Rattle.std.specs.List.{filter}
use Rattle.kt_dup.specs.Missed.{is_missed}
use Rattle.kt_dup.proofs.Told.{list_told}
use Rattle.kt_dup.proofs.missed.missed_changes.Goals as goal

pub returns-clause-split : goal.returns-clause-split
returns-clause-split g c = λ j missed le sorted s.
    c.in_ok-places.ensures.picked ∙ ap (filter (is_missed c.args.bound (g.O.RowStore.store c.args.output.now c.args.pool.now))) c.in_ok-changes.ensures
    ∙ list_told j c.args.bound missed (g.I.RowStore.store c.args.input.now c.args.pool.now) (g.O.RowStore.store c.args.output.now c.args.pool.now) le sorted s
