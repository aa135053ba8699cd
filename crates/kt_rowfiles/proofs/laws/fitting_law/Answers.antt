use Rattle.kt_rowfiles.proofs.Fitting.{fit_by_row}
use Rattle.kt_rowfiles.proofs.laws.fitting_law.Goals as goal

pub returns : goal.returns
returns c = fit_by_row
