use Rattle.std.proofs.Common.{◌≡◌, ℕ, ◌<◌, get_or, false}
use Rattle.kt_stores.specs.Shelf.{has_live}
use Rattle.kt_stores.proofs.range_tree.first_among.Given as goal

abbrev pub invariant-loop-place : goal.invariant-loop-place
invariant-loop-place g l = (i : ℕ) (d : g.row.R.Denot) → i < l.place-index → has_live l.key (g.R.RowStore.store (get_or l.rowsets (get_or l.places i 0) d) l.pool) ≡ false
