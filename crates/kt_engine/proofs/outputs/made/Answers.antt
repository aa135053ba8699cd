use Rattle.std.proofs.Common.{◌≡◌, ◌++◌, ◌∷◌, [], List, length, sym, ap, ◌∙◌, subst, arith, append_assoc, length-append}
use Rattle.std.specs.List.{AllByRecursion}
use Rattle.std.specs.Vec.Iter.{into_iter_items}
use Rattle.kt_diskrowset.specs.declared.data.RowSetData.{RowSetData}
use Rattle.kt_diskrowset.specs.Data.{files_in}
use Rattle.kt_diskrowset.specs.Rows.{UndosLeadBack}
use Rattle.kt_engine.specs.Outputs.{AreMade}
use Rattle.kt_engine.proofs.NewRowsets.{made_bare, made_more}
use Rattle.kt_engine.proofs.outputs.made.Goals as goal

pub of-requires : goal.of-requires
of-requires c =
    let items = c.in-Some.ensures.items in
    record { lead = (subst (AllByRecursion (λ d. UndosLeadBack (files_in d))) items c.rest.invariant.lead).0; none = (subst (AllByRecursion (λ (d : RowSetData). d.fresh ≡ [])) items c.rest.invariant.fresh).0 }

pub rest-preserved : goal.rest-preserved
rest-preserved c =
    let x = c.in-Some.rowset in
    let after = into_iter_items c.next.new.self in
    let items = c.in-Some.ensures.items in
    let lead = subst (AllByRecursion (λ d. UndosLeadBack (files_in d))) items c.rest.invariant.lead in
    let fresh = subst (AllByRecursion (λ (d : RowSetData). d.fresh ≡ [])) items c.rest.invariant.fresh in
    let was = c.rest.invariant.made in
    record {
      lead = lead.1;
      fresh = fresh.1;
      room = (let a = ap length c.push_reserved.ensures.items in let n = length-append c.rest.made.items (c.of.result ∷ []) in let b = ap length items in let r = c.rest.invariant.room in let k = c.push_reserved.ensures.capacity in omega arith);
      made = (
        was.0 ++ x ∷ [],
        was.1 ∙ ap (λ (l : List RowSetData). was.0 ++ l) items ∙ sym (append_assoc was.0 (x ∷ []) after),
        subst (AreMade (was.0 ++ x ∷ [])) (sym c.push_reserved.ensures.items) (made_more was.0 x c.rest.made.items c.of.result was.2 c.of.ensures.held (made_bare x c.of.result fresh.0 c.of.ensures.held c.of.ensures.stands c.of.ensures.store c.of.ensures.bare c.of.ensures.none c.of.ensures.name)),
      );
    }
