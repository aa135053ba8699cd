use Rattle.std.proofs.Common.{◌∙◌, ap}
use Rattle.kt_history.specs.declared.operation.OpKind.{OpKind}
use Rattle.kt_history.specs.Operations.{outcome_of}
use Rattle.kt_history.specs.Stores.{change_by, with_change}
use Rattle.kt_histlaws.specs.Histories.{on_nth}
use Rattle.kt_stores.specs.Shelf.{StoresView, stores_of, names_of, place_of}
use Rattle.kt_tablet.specs.Rows.{recorded}
use Rattle.kt_tablet.proofs.Several.{place_low, recorded_of, same_names}
use Rattle.kt_tablet.proofs.tablet.rows.apply_op.Goals as goal

pub returns-clause-bound : goal.returns-clause-bound
returns-clause-bound g c = place_low c.args.op.now.key c.args.stores.now.shelf c.standing.ensures.first

pub returns-clause-changed : goal.returns-clause-changed
returns-clause-changed g c = λ under.
    let old = stores_of c.args.stores.now in
    let i = place_of c.args.op.now.key old in
    ap stores_of c.release.ensures ∙ c.take-taken.ensures.changed under ∙ ap (λ b. on_nth i (with_change c.args.op.now.key c.args.ts (change_by c.args.op.now b)) old) c.take-taken.ensures.there

pub returns-clause-outcome : goal.returns-clause-outcome
returns-clause-outcome g c =
    ap (λ r. r.outcome) c.recorded.ensures ∙ ap (λ (k : OpKind). outcome_of k c.take-taken.result.there) c.kind.ensures ∙ ap (outcome_of c.args.op.now.kind) c.take-taken.ensures.there

pub returns-clause-row : goal.returns-clause-row
returns-clause-row g c =
    recorded_of c.args.op.now.kind c.take-taken.result c.recorded.result (place_of c.args.op.now.key (stores_of c.args.stores.now)) c.args.stores.now.shelf
    (c.recorded.ensures ∙ ap (λ (k : OpKind). recorded k c.take-taken.result) c.kind.ensures)
    (place_low c.args.op.now.key c.args.stores.now.shelf c.standing.ensures.first) c.take-taken.ensures.named

pub returns-clause-names : goal.returns-clause-names
returns-clause-names g c =
    let t = c.take-taken.ensures.others in
    ap (λ (v : StoresView). names_of v.shelf) c.release.ensures ∙ same_names (place_of c.args.op.now.key (stores_of c.args.stores.now)) t.holds t.takes.cells c.args.stores.now.shelf _ t.shelf

pub returns-clause-frozen : goal.returns-clause-frozen
returns-clause-frozen g c = ap (λ (v : StoresView). v.frozen) c.release.ensures ∙ c.take-taken.ensures.others.frozen

pub returns-clause-files : goal.returns-clause-files
returns-clause-files g c = ap (λ (v : StoresView). v.files) c.release.ensures ∙ c.take-taken.ensures.others.files
