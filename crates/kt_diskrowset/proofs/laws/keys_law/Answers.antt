use Rattle.kt_diskrowset.proofs.Bounds.{other_keys}
use Rattle.kt_diskrowset.proofs.laws.keys_law.Goals as goal

pub returns : goal.returns
returns c = other_keys
