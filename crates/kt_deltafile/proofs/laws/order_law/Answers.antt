use Rattle.kt_deltafile.proofs.Sorted.{is_sorted}
use Rattle.kt_deltafile.proofs.laws.order_law.Goals as goal

pub returns : goal.returns
returns c = λ way list fits. is_sorted way 4294967296 list fits.each
