use Rattle.std.proofs.Common.{sym, ◌∙◌}
use Rattle.kt_judge.proofs.Viewed.{parts_behind}
use Rattle.kt_judge.proofs.view.count_from.Goals as goal

pub returns-then-is_at : goal.returns-then-is_at
returns-then-is_at c =
    let behind = parts_behind c.args.key.now c.args.entries.now c.args.hint c.requires.rising (sym c.is_at.ensures ∙ c.if-is_at.true) in
    record { bound = behind.0; parts = behind.1 }
