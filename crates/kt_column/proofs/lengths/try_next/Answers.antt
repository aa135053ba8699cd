use Rattle.kt_column.proofs.Chosen.{still_best}
use Rattle.kt_column.proofs.lengths.try_next.Goals as goal

pub returns-in-Some : goal.returns-in-Some
returns-in-Some c =
    still_best c.args.form c.args.items.now c.args.best (record { encoding = c.args.encoding; len = c.in-Some.len }) c.shorter.result c.requires.before (rw c.in-Some.is at c.in-Ok.ensures) c.shorter.ensures
