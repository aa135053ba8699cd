use Rattle.kt_deltafile.proofs.Files.{file_again}
use Rattle.kt_deltafile.proofs.laws.spelling_law.Goals as goal

pub returns : goal.returns
returns c = λ way rows list fits. file_again rows (record { way = way; list = list }) fits
