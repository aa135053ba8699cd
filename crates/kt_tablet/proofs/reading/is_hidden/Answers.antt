use Rattle.std.proofs.Common.{◌≡◌, arith, subst}
use Rattle.kt_cells.specs.Borrowed.{cells_in_ref}
use Rattle.kt_history.specs.Rows.{Row, with_cells}
use Rattle.kt_history.proofs.Covering.{has_at, all_hidden}
use Rattle.kt_tablet.proofs.reading.is_hidden.Goals as goal

pub returns-then-first-id : goal.returns-then-first-id
returns-then-first-id c = λ _ old.
    let id = c.in-Some.id in
    let own = c.as_slice-own.result.now in
    subst (λ (row : Row). with_cells row (with_cells (cells_in_ref c.args.cells) old) ≡ with_cells row old) c.as_slice-own.ensures
    (all_hidden id own (cells_in_ref c.args.cells) old c.in-Some.ensures (has_at id 0 own _ (omega arith) c.if-first-id.true))
