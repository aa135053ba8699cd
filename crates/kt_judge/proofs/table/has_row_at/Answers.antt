use Rattle.std.proofs.Common.{sym, ap, ◌∙◌}
use Rattle.std.specs.Option.{option_copied}
use Rattle.kt_judge.proofs.Placed.{ordered_of}
use Rattle.kt_judge.proofs.table.has_row_at.Goals as goal

pub has_row_at-requires : goal.has_row_at-requires
has_row_at-requires c = ordered_of c.args.key.now c.args.entries.now c.in-Some.versions.now c.requires (ap option_copied (sym c.in-Some.is) ∙ c.versions_of.ensures)
