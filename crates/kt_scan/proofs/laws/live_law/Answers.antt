use Rattle.std.proofs.Common.{◌≤◌}
use Rattle.kt_scan.proofs.LiveRows.{found_live, sorted_live, only_live}
use Rattle.kt_scan.proofs.laws.live_law.Goals as goal

pub returns : goal.returns
returns g c = record {
  rising = sorted_live g.V.View.keys g.V.View.row_of c.args._views.now c.args._t;
  rows = λ key. found_live key g.V.View.keys g.V.View.row_of c.args._t (λ v. g.V.View.mark v ≤ c.args._t) (λ v told some. g.met.V.View.rows_have_keys v key c.args._t told some) c.args._views.now c.requires;
  only = only_live g.V.View.keys g.V.View.row_of c.args._t (λ v. g.V.View.mark v ≤ c.args._t) (λ v key told some. g.met.V.View.rows_have_keys v key c.args._t told some) c.args._views.now c.requires;
}
