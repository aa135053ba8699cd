use Rattle.kt_lookup.proofs.OneFilter.{filter_has}
use Rattle.kt_lookup.proofs.laws.bits_law.Goals as goal

pub returns : goal.returns
returns c = λ keys. filter_has keys
