use Rattle.kt_key.proofs.Kept.{spellings-differ}
use Rattle.kt_key.proofs.laws.spelling_law.Goals as goal

pub returns : goal.returns
returns c = spellings-differ
