use Rattle.std.proofs.Common.{◌≤◌}
use Rattle.kt_scan.proofs.LiveRows.{table_live}
use Rattle.kt_scan.proofs.laws.table_law.Goals as goal

pub returns : goal.returns
returns g c = table_live g.V.View.keys g.V.View.row_of c.args._t (λ v. g.V.View.mark v ≤ c.args._t) (λ v key told some. g.met.V.View.rows_have_keys v key c.args._t told some) c.args._view.now c.requires
