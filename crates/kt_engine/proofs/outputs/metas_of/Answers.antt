use Rattle.std.proofs.Common.{◌<◌, ◌∙◌, ◌++◌, ◌∷◌, [], List, length, map, take, get_or, sym, ap, arith}
use Rattle.std.proofs.lemmas.List.{take_all, take_more, map_push}
use Rattle.kt_diskrowset.specs.declared.data.RowSetData.{RowSetData}
use Rattle.kt_super.specs.declared.meta.MetaRowset.{MetaRowset}
use Rattle.kt_outputs.specs.Outputs.{meta_in}
use Rattle.kt_engine.proofs.outputs.metas_of.Goals as goal

pub rowsets-preserved : goal.rowsets-preserved
rowsets-preserved c =
    let xs : List RowSetData = c.args.rowsets.now in
    let k = c.rowsets.rowset-index in
    let x = c.rowset-item.result in
    let lt : k < length xs = c.rowsets-test.true in
    record {
      long = (let a = c.push_reserved.ensures.len in let b = c.rowsets.invariant.long in omega arith);
      room = (let a = c.push_reserved.ensures.capacity in let b = c.rowsets.invariant.room in omega arith);
      made = c.push_reserved.ensures.items ∙ ap (λ (m : MetaRowset). c.rowsets.metas.items ++ m ∷ []) c.in_ok-named_rowset.ensures ∙ ap (λ (l : List MetaRowset). l ++ (meta_in 0) x ∷ []) c.rowsets.invariant.made ∙ ap (λ (e : RowSetData). map (meta_in 0) (take k xs) ++ (meta_in 0) e ∷ []) c.rowset-item.is
          ∙ sym (ap (map (meta_in 0)) (take_more xs k x lt) ∙ map_push (meta_in 0) (take k xs) (get_or xs k x));
    }

pub returns : goal.returns
returns c = c.rowsets.invariant.made ∙ ap (map (meta_in 0)) (take_all c.rowsets.rowset-index c.args.rowsets.now (omega arith))
