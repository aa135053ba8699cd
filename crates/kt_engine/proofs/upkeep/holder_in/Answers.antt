use Rattle.std.proofs.Common.{List, map, sym, ap, ◌∙◌, arith}
use Rattle.std.specs.Prelude.{is_some}
use Rattle.std.proofs.lemmas.List.{drop_all}
use Rattle.kt_engine.specs.declared.upkeep.Upkeep.{Upkeep}
use Rattle.kt_engine.specs.JobSteps.{first_holder}
use Rattle.kt_engine.specs.Upkeeps.{upkeep_of}
use Rattle.kt_engine.proofs.Passes.{holder_from, holder_here, holder_other}
use Rattle.kt_engine.proofs.upkeep.holder_in.Goals as goal

pub returns-then-is_some : goal.returns-then-is_some
returns-then-is_some c =
    let some = sym (c.if-is_some.ensures ∙ ap is_some c.held_by-holder.ensures) in
    c.held_by-holder.ensures ∙ sym (c.passes.invariant ∙ holder_from c.args.want.now c.args.passes.now c.passes.upkeep-index c.upkeep-item.result c.passes-test.true c.upkeep-item.is ∙ holder_here c.args.want.now (upkeep_of c.upkeep-item.result).1.job _ some)

pub passes-preserved : goal.passes-preserved
passes-preserved c =
    let none = sym (c.if-is_some.ensures ∙ ap is_some c.held_by-holder.ensures) in
    c.passes.invariant ∙ holder_from c.args.want.now c.args.passes.now c.passes.upkeep-index c.upkeep-item.result c.passes-test.true c.upkeep-item.is ∙ holder_other c.args.want.now (upkeep_of c.upkeep-item.result).1.job _ none

pub returns : goal.returns
returns c = sym (c.passes.invariant ∙ ap (λ (l : List Upkeep). first_holder c.args.want.now (map upkeep_of l)) (drop_all c.passes.upkeep-index c.args.passes.now (omega arith)))
