use Rattle.kt_rowfiles.proofs.Places.{row_found_at, row_missed}
use Rattle.kt_rowfiles.proofs.laws.place_law.Goals as goal

pub returns-clause-found : goal.returns-clause-found
returns-clause-found c = row_found_at

pub returns-clause-missed : goal.returns-clause-missed
returns-clause-missed c = row_missed
