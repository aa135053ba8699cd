use Rattle.kt_reopen.proofs.Held.{found_shows}
use Rattle.kt_reopen.proofs.laws.found_law.Goals as goal

pub returns : goal.returns
returns c = found_shows
