use Rattle.kt_lookup.proofs.OneFilter.{is_filter_of}
use Rattle.kt_lookup.proofs.laws.bytes_law.Goals as goal

pub returns : goal.returns
returns c = λ keys filter is fits. is_filter_of keys filter is fits
