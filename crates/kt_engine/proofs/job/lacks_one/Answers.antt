use Rattle.std.proofs.Common.{◌≡◌, ℕ, List, true, false, None, take, get_or, refl, sym, ◌∙◌, subst, arith}
use Rattle.std.proofs.lemmas.List.{take_all, take_more}
use Rattle.kt_engine.proofs.DeltaToDo.{absent, lacking}
use Rattle.kt_engine.proofs.ToDo.{AreThere, asked_at, some_dms, no_dms, rowset_there, there_more}
use Rattle.kt_engine.proofs.job.lacks_one.Goals as goal

pub taken-preserved : goal.taken-preserved
taken-preserved g c =
    let taken = c.args.taken.now in
    let k = c.taken.rowset-index in
    let at = some_dms c.dms_of.result c.is_none.result c.is_none.ensures c.if-is_none.false in
    let own = rowset_there (get_or taken k 0) at.0 c.args.tablet.now.names (sym c.dms_of.ensures ∙ at.1) in
    subst (λ (l : List ℕ). AreThere l c.args.tablet.now.names) (sym (take_more taken k 0 c.taken-test.true)) (there_more (take k taken) (get_or taken k 0) c.args.tablet.now.names own c.taken.invariant)

pub returns-then-is_none : goal.returns-then-is_none
returns-then-is_none g c =
    let taken = c.args.taken.now in
    let k = c.taken.rowset-index in
    let none : c.dms_of.result ≡ None = no_dms c.dms_of.result c.is_none.result c.is_none.ensures c.if-is_none.true in
    ((λ so. record { r = get_or taken k 0; asked = asked_at taken k 0 c.taken-test.true; lacks = lacking (get_or taken k 0) c.args.tablet.now.names (absent (get_or taken k 0) c.args.tablet.now.names (sym c.dms_of.ensures ∙ none)) }), (λ one. refl))

pub returns : goal.returns
returns g c =
    let are : AreThere c.args.taken.now c.args.tablet.now.names = subst (λ (l : List ℕ). AreThere l c.args.tablet.now.names) (take_all c.taken.rowset-index c.args.taken.now (omega arith)) c.taken.invariant in
    ((λ no. absurd (let e : false ≡ true = no in cc)), (λ one. absurd (one.lacks (are one.r one.asked))))
