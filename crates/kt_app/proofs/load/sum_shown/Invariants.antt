use Rattle.std.proofs.Common.{◌≡◌, ◌*◌, ◌^◌, drop, pos, ◌+ℤ◌, neg_ℤ, ◌≤ℤ◌}
use Rattle.kt_app.specs.Loaded.{sum_shown}
use Rattle.kt_app.proofs.load.sum_shown.Given as goal

abbrev pub invariant-rows : goal.invariant-rows
invariant-rows l = record {
  sum : l.sum +ℤ sum_shown (drop l.at l.rows) ≡ sum_shown l.rows;
  low : neg_ℤ (pos (2 ^ 63 * l.at)) ≤ℤ l.sum;
  high : l.sum ≤ℤ pos (2 ^ 63 * l.at);
}
