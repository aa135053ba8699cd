use Rattle.kt_rle.proofs.Told.{told_once}
use Rattle.kt_rle.proofs.laws.one_place.Goals as goal

pub returns : goal.returns
returns c = told_once
