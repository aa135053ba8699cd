use Rattle.std.proofs.Common.{length, subst}
use Rattle.kt_rle.specs.Spelling.{Spells}
use Rattle.kt_column.specs.Values.{run_width}
use Rattle.kt_column.proofs.HeldValues.{runs_chosen}
use Rattle.kt_column.proofs.values.spell_values.Goals as goal

pub returns-in-Ok : goal.returns-in-Ok
returns-in-Ok c =
    let zs = c.in-Runs.runs in
    let bytes = c.in-Ok.value.items in
    runs_chosen c.args.form c.args.values.now zs bytes c.in-Runs.is c.requires.chosen (subst (λ w. Spells (run_width w) (length zs) zs bytes) c.width.ensures c.in-Ok.ensures)
