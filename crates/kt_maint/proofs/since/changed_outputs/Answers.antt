use Rattle.std.proofs.Common.{◌≡◌, ◌++◌, ◌∷◌, [], List, length, sym, ap, ◌∙◌, subst, arith, append_assoc, length-append}
use Rattle.std.specs.List.{AllByRecursion}
use Rattle.std.specs.Vec.Iter.{into_iter_items}
use Rattle.kt_diskrowset.specs.declared.data.RowSetData.{RowSetData}
use Rattle.kt_merge.specs.Late.{AllTellChanges}
use Rattle.kt_outputs.specs.Again.{AllAddLate}
use Rattle.kt_outputs.specs.Outputs.{AreWhole}
use Rattle.kt_maint.proofs.ChangeLists.{change_more}
use Rattle.kt_maint.proofs.LateLists.{adds_none, add_more, whole_more}
use Rattle.kt_maint.proofs.since.changed_outputs.Goals as goal

pub changed_output-requires : goal.changed_output-requires
changed_output-requires c = record { fresh = (subst (AllByRecursion (λ (d : RowSetData). d.fresh ≡ [])) c.in-Some.ensures.items c.rest.invariant.fresh).0 }

pub rest-preserved : goal.rest-preserved
rest-preserved c =
    let x = c.in-Some.output in
    let after = into_iter_items c.next.new.self in
    let items = c.in-Some.ensures.items in
    let was = c.rest.invariant in
    let made = c.in_ok-changed_output.ensures in
    let d = c.in_ok-changed_output.field-0 in
    let pushed = c.push_reserved.ensures.items in
    record {
      fresh = (subst (AllByRecursion (λ (d : RowSetData). d.fresh ≡ [])) items was.fresh).1;
      room = (let a = ap length pushed in let n = length-append c.rest.late.items (d ∷ []) in let b = ap length items in let r = was.room in let k = c.push_reserved.ensures.capacity in omega arith);
      front = was.front ++ x ∷ [];
      are = was.are ∙ ap (λ (l : List RowSetData). was.front ++ l) items ∙ sym (append_assoc was.front (x ∷ []) after);
      tells = subst (AllTellChanges c.args.bound c.args.lists.now (was.front ++ x ∷ [])) (sym pushed) (change_more c.args.bound c.args.lists.now was.front c.rest.late.items x d was.tells made.tells);
      adds = subst (AllAddLate (was.front ++ x ∷ [])) (sym pushed) (add_more was.front c.rest.late.items x d was.adds (adds_none x d made.number made.files));
      whole = subst AreWhole (sym pushed) (whole_more c.rest.late.items d was.whole made.whole);
    }
