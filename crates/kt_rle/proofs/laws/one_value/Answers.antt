use Rattle.kt_rle.proofs.Decoded.{spells_one}
use Rattle.kt_rle.proofs.laws.one_value.Goals as goal

pub returns : goal.returns
returns c = spells_one
