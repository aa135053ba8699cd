use Rattle.kt_key.proofs.KeyReads.{keys_again}
use Rattle.kt_scan.proofs.laws.key_cells_law.Goals as goal

pub returns : goal.returns
returns c = keys_again
