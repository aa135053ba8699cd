use Rattle.std.proofs.Common.{◌∙◌, sym}
use Rattle.kt_dict.proofs.Words.{found_at, not_found}
use Rattle.kt_dict.proofs.table.place_of.Goals as goal

pub returns-in-Some : goal.returns-in-Some
returns-in-Some c = found_at c.args.item.now c.args.entries.now.keys c.in-Some.at (sym c.in-Some.is ∙ c.get_index_of.ensures.index)

pub returns-in-None : goal.returns-in-None
returns-in-None c = c.len.ensures.len ∙ sym (not_found c.args.item.now c.args.entries.now.keys (sym c.in-None.is ∙ c.get_index_of.ensures.index))
