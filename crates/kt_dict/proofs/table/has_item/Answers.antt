use Rattle.std.proofs.Common.{◌∙◌}
use Rattle.kt_dict.proofs.Words.{any_now}
use Rattle.kt_dict.proofs.table.has_item.Goals as goal

pub returns : goal.returns
returns c = c.contains.ensures ∙ any_now c.args.entries.now.keys c.args.item.now
