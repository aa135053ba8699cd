use Rattle.std.proofs.Common.{sym, ap, ◌∙◌}
use Rattle.std.specs.Option.{option_copied}
use Rattle.kt_judge.proofs.Placed.{ordered_of}
use Rattle.kt_judge.proofs.table.row_at.Goals as goal

pub row_at-requires : goal.row_at-requires
row_at-requires c = ordered_of c.args.key.now c.args.entries.now c.in-Some.versions.now c.requires (ap option_copied (sym c.in-Some.is) ∙ c.versions_of.ensures)
