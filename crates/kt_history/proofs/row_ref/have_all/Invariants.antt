use Rattle.std.proofs.Common.{◌≡◌, drop}
use Rattle.std.specs.List.{list_all}
use Rattle.kt_history.proofs.Covering.{has}
use Rattle.kt_history.proofs.row_ref.have_all.Given as goal

abbrev pub invariant-loop-id : goal.invariant-loop-id
invariant-loop-id l = list_all (λ n. has n l.cells) (drop l.id-index l.ids) ≡ list_all (λ n. has n l.cells) l.ids
