use Rattle.kt_rle.proofs.Once.{spelled_once}
use Rattle.kt_rle.proofs.laws.one_spelling.Goals as goal

pub returns : goal.returns
returns c = spelled_once
