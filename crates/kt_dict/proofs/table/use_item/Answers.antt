use Rattle.std.proofs.Common.{◌∙◌, ap, not}
use Rattle.kt_dict.proofs.Words.{any_now, keys_now, nows}
use Rattle.kt_dict.proofs.table.use_item.Goals as goal

pub returns-clause-new : goal.returns-clause-new
returns-clause-new c = c.in_ok-new.ensures.added ∙ ap not (any_now c.args.entries.now.keys c.args.item.now)

pub returns-clause-entries : goal.returns-clause-entries
returns-clause-entries c = ap nows c.in_ok-new.ensures.keys ∙ keys_now c.args.entries.now.keys c.args.item
