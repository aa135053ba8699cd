use Rattle.std.proofs.Common.{Bool, List, ap, subst, ◌∙◌}
use Rattle.std.proofs.lemmas.Result.{IfOk-weaker}
use Rattle.kt_history.specs.declared.target.Target.{Target}
use Rattle.kt_content.specs.Places.{needed_in}
use Rattle.kt_reopen.specs.Bare.{bare, PlacesApart}
use Rattle.kt_reopen.proofs.Taking.{TakesIf, first_room, first_late, second_may, second_in, second_room, both_done, second_late}
use Rattle.kt_reopen.proofs.replaying.take_named.Goals as goal

pub needed_of-needed-requires-clause-apart : goal.needed_of-needed-requires-clause-apart
needed_of-needed-requires-clause-apart c = subst PlacesApart c.requires.places c.requires.may.apart

pub take_if-requires-clause-reserved : goal.take_if-requires-clause-reserved
take_if-requires-clause-reserved c =
    let needed = c.needed_of-needed.result in
    first_room c.args.stores.now c.args.meta.now c.args.ts c.args.op.now c.args.row.now c.requires.may c.requires.places c.requires.room needed.first needed.second (c.needed_of-needed.ensures.places ∙ ap (λ (targets : List Target). needed_in (bare c.args.meta.now) targets) c.as_slice.ensures)

pub returns-then-not-branch-clause-not_ : goal.returns-then-not-branch-clause-not_
returns-then-not-branch-clause-not_ c = λ _.
    let needed = c.needed_of-needed.result in
    first_late c.args.stores.now c.args.meta.now c.args.ts c.args.op.now c.args.row.now c.requires.may c.requires.places c.requires.room c.take_if.new.stores needed.first needed.second (c.needed_of-needed.ensures.places ∙ ap (λ (targets : List Target). needed_in (bare c.args.meta.now) targets) c.as_slice.ensures) c.needed_of-needed.ensures.first
    c.in_ok-take_if.field-0 c.if-not-branch.true c.in_ok-take_if.ensures

pub take_if-requires-2-clause-may : goal.take_if-requires-2-clause-may
take_if-requires-2-clause-may c =
    let o = c.args.stores.now in
    let needed = c.needed_of-needed.result in
    let first = subst (λ (b : Bool). TakesIf o c.take_if.new.stores needed.first c.args.ts c.args.op.now b) c.if-not-branch.false c.in_ok-take_if.ensures in
    second_may o c.args.meta.now c.args.ts c.args.op.now c.args.row.now c.requires.may c.requires.places c.requires.room c.take_if.new.stores needed.first needed.second c.needed_of-needed.ensures.apart first

pub take_if-requires-2-clause-there : goal.take_if-requires-2-clause-there
take_if-requires-2-clause-there c =
    let o = c.args.stores.now in
    let needed = c.needed_of-needed.result in
    let first = subst (λ (b : Bool). TakesIf o c.take_if.new.stores needed.first c.args.ts c.args.op.now b) c.if-not-branch.false c.in_ok-take_if.ensures in
    second_in o c.args.meta.now c.args.ts c.args.op.now c.args.row.now c.requires.may c.requires.places c.requires.room c.take_if.new.stores needed.first needed.second c.needed_of-needed.ensures.second first

pub take_if-requires-2-clause-reserved : goal.take_if-requires-2-clause-reserved
take_if-requires-2-clause-reserved c =
    let o = c.args.stores.now in
    let needed = c.needed_of-needed.result in
    let first = subst (λ (b : Bool). TakesIf o c.take_if.new.stores needed.first c.args.ts c.args.op.now b) c.if-not-branch.false c.in_ok-take_if.ensures in
    second_room o c.args.meta.now c.args.ts c.args.op.now c.args.row.now c.requires.may c.requires.places c.requires.room c.take_if.new.stores needed.first needed.second (c.needed_of-needed.ensures.places ∙ ap (λ (targets : List Target). needed_in (bare c.args.meta.now) targets) c.as_slice.ensures) first

pub returns-clause-does : goal.returns-clause-does
returns-clause-does c =
    let o = c.args.stores.now in
    let needed = c.needed_of-needed.result in
    let first = subst (λ (b : Bool). TakesIf o c.take_if.new.stores needed.first c.args.ts c.args.op.now b) c.if-not-branch.false c.in_ok-take_if.ensures in
    IfOk-weaker c.take_if-2.result _ _
    (λ takes second yes. both_done o c.args.meta.now c.args.ts c.args.op.now c.args.row.now c.requires.may c.requires.places c.requires.room c.take_if.new.stores c.take_if-2.new.stores needed.first needed.second (c.needed_of-needed.ensures.places ∙ ap (λ (targets : List Target). needed_in (bare c.args.meta.now) targets) c.as_slice.ensures)
    c.needed_of-needed.ensures.first c.needed_of-needed.ensures.second c.needed_of-needed.ensures.apart first (subst (λ (b : Bool). TakesIf c.take_if.new.stores c.take_if-2.new.stores needed.second c.args.ts c.args.op.now b) yes second))
    c.take_if-2.ensures

pub returns-clause-not_ : goal.returns-clause-not_
returns-clause-not_ c =
    let o = c.args.stores.now in
    let needed = c.needed_of-needed.result in
    let first = subst (λ (b : Bool). TakesIf o c.take_if.new.stores needed.first c.args.ts c.args.op.now b) c.if-not-branch.false c.in_ok-take_if.ensures in
    IfOk-weaker c.take_if-2.result _ _
    (λ takes second no. second_late o c.args.meta.now c.args.ts c.args.op.now c.args.row.now c.requires.may c.requires.places c.requires.room c.take_if.new.stores c.take_if-2.new.stores needed.first needed.second (c.needed_of-needed.ensures.places ∙ ap (λ (targets : List Target). needed_in (bare c.args.meta.now) targets) c.as_slice.ensures)
    c.needed_of-needed.ensures.first c.needed_of-needed.ensures.second c.needed_of-needed.ensures.apart first takes no second)
    c.take_if-2.ensures
