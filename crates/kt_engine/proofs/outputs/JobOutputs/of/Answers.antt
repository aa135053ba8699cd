use Rattle.std.proofs.Common.{List, map, sym, ap, ◌∙◌, subst}
use Rattle.kt_super.specs.declared.meta.MetaRowset.{MetaRowset}
use Rattle.kt_diskrowset.specs.declared.data.RowSetData.{RowSetData}
use Rattle.kt_diskrowset.specs.declared.rowset.DiskRowSet.{DiskRowSet}
use Rattle.kt_engine.specs.Outputs.{AreOutputs, AreMade}
use Rattle.kt_engine.proofs.NewRowsets.{made_held, made_outputs}
use Rattle.kt_engine.proofs.outputs.JobOutputs.of.Goals as goal

pub invariant_of-result : goal.invariant_of-result
invariant_of-result c =
    let made = subst (λ (xs : List RowSetData). AreMade xs c.in_ok-all.all.items) c.into_vec.ensures c.in_ok-all.ensures.made in
    let listed = subst (λ (rs : List DiskRowSet). AreMade c.args.outputs.rowsets rs) (sym c.in_ok-rowsets.ensures) made in
    (subst (λ (ms : List MetaRowset). AreOutputs ms c.in_ok-rowsets.rowsets.items) (sym (c.in_ok-metas.ensures ∙ ap (map _) c.as_slice.ensures)) (made_outputs c.args.outputs.rowsets c.in_ok-rowsets.rowsets.items listed), c.in_ok-room.ensures.none)

pub returns-clause-held : goal.returns-clause-held
returns-clause-held c =
    let made = subst (λ (xs : List RowSetData). AreMade xs c.in_ok-all.all.items) c.into_vec.ensures c.in_ok-all.ensures.made in
    let listed = subst (λ (rs : List DiskRowSet). AreMade c.args.outputs.rowsets rs) (sym c.in_ok-rowsets.ensures) made in
    made_held c.args.outputs.rowsets c.in_ok-rowsets.rowsets.items listed
