use Rattle.kt_cells.proofs.Spelled.{read_back, spelled}
use Rattle.kt_cells.proofs.laws.spelled_law.Goals as goal

pub returns-clause-again : goal.returns-clause-again
returns-clause-again c = read_back

pub returns-clause-spells : goal.returns-clause-spells
returns-clause-spells c = spelled
