use Rattle.kt_rowfiles.specs.Reading.{steps_in}
use Rattle.kt_merge.proofs.Going.{row_is}
use Rattle.kt_merge.proofs.row.row_of.Goals as goal

pub returns-in-Some-clause-row : goal.returns-in-Some-clause-row
returns-in-Some-clause-row c =
    row_is c.args.mark (steps_in c.args.steps.now) c.args.first c.go_over_all.new.row c.args.deleted c.in-Some.base c.new-undos.result.items c.go_over_all.new.undos.items c.reverse.new.self.items c.in-Some.is c.in_ok-go_over_all.ensures.row c.new-undos.ensures.items c.in_ok-go_over_all.ensures.undos c.reverse.ensures.items
