use Rattle.kt_front.proofs.Places.{fields_spell}
use Rattle.kt_front.proofs.laws.fields_spell.Goals as goal

pub returns : goal.returns
returns c = fields_spell
