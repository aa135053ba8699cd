use Rattle.kt_rowfiles.proofs.Flushing.{fit_is_undone}
use Rattle.kt_rowfiles.proofs.writing.undone_law.Goals as goal

pub returns : goal.returns
returns c = fit_is_undone
