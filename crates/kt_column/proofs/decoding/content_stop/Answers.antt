use Rattle.std.proofs.Common.{◌≡◌, ◌∙◌, List, take, arith, inl, inr, refl, sym, subst}
use Rattle.kt_base.specs.declared.cell.Cell.{Cell}
use Rattle.kt_column.specs.declared.errors.Stop.TheVariants.{Memory, Fault}
use Rattle.kt_column.specs.Faults.{ReadsContent, IsContentStop}
use Rattle.kt_column.proofs.Faulty.{content_within, all_content, not_all, other_content}
use Rattle.kt_column.proofs.decoding.content_stop.Goals as goal

pub returns-in-Ok : goal.returns-in-Ok
returns-in-Ok c =
    let r = c.in-Ok.ensures.found in
    inr (inl (all_content c.args.form c.args.encoding c.args.n c.args.len c.args.rest.now r.0 r.1 (not_all c.args.form c.args.encoding c.args.n c.args.len c.args.rest.now r.0 r.1 c.requires.none), refl))

pub overflow_add-result : goal.overflow_add-result
overflow_add-result c =
    let within = content_within c.args.form c.args.encoding c.args.n c.args.rest.now c.in-Err-Fault.at (subst (IsContentStop c.args.form c.args.encoding c.args.n c.args.rest.now) c.in-Err-Fault.field-0-is c.in-Err-Fault.ensures.stop) in
    omega (arith, within, c.requires.room)

pub returns-in-Ok-check_content : goal.returns-in-Ok-check_content
returns-in-Ok-check_content c =
    let r = c.in-Ok-check_content.ensures.found in
    let within = content_within c.args.form c.args.encoding c.args.n c.args.rest.now c.in-Err-Fault.at (subst (IsContentStop c.args.form c.args.encoding c.args.n c.args.rest.now) c.in-Err-Fault.field-0-is c.in-Err-Fault.ensures.stop) in
    let content : ReadsContent c.args.form c.args.encoding c.args.n (take c.in-Err-Fault.at c.args.rest.now) r.0 = subst (λ p. ReadsContent c.args.form c.args.encoding c.args.n p r.0) c.front_of.ensures r.1 in
    inr (inl (other_content c.args.form c.args.encoding c.args.n c.args.len c.in-Err-Fault.at c.args.rest.now r.0 within content c.requires.none, refl))

pub returns-in-Err-Fault-check_content : goal.returns-in-Err-Fault-check_content
returns-in-Err-Fault-check_content c =
    let fault = subst (IsContentStop c.args.form c.args.encoding c.args.n c.args.rest.now) c.in-Err-Fault.field-0-is c.in-Err-Fault.ensures.stop in
    let open_ : (cs : List Cell) → ReadsContent c.args.form c.args.encoding c.args.n (take c.in-Err-Fault.at c.args.rest.now) cs → ⊥ = λ cs r.
    let here : ReadsContent c.args.form c.args.encoding c.args.n c.front_of.result.now cs = subst (λ p. ReadsContent c.args.form c.args.encoding c.args.n p cs) (sym c.front_of.ensures) r in
    let never : Fault c.in-Err-Fault-check_content.field-0-0 ≡ Memory = sym c.in-Err-Fault-check_content.field-0-is ∙ c.in-Err-Fault-check_content.ensures.only cs here in
    cc in
    inl (c.in-Err-Fault.at, record { fault = fault; open_ = open_ }, refl)
