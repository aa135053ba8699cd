use Rattle.std.proofs.Common.{◌≡◌, ◌∙◌, rules, tests}
use Rattle.std.specs.List.{list_any}
use Rattle.std.proofs.lemmas.Iterator.{YieldsList-from_slice}
use Rattle.std.proofs.lemmas.Iterator.Search.{any_from_yields_List}
use Rattle.kt_engine.specs.declared.upkeep.Upkeep.{Upkeep}
use Rattle.kt_engine.specs.Outside.{is_outside}
use Rattle.kt_engine.specs.Upkeeps.{upkeep_of}
use Rattle.kt_engine.proofs.Outsiders.{outside_named}
use Rattle.kt_engine.proofs.upkeep.outside_in.Goals as goal

pub returns : goal.returns
returns c =
    let found : c.any.result ≡ list_any (λ (u : Upkeep). is_outside (upkeep_of u).1.job) c.args.passes.now =
    any_from_yields_List (λ (u : Upkeep). is_outside (upkeep_of u).1.job) _ _ c.any.result c.any.ensures.ran (YieldsList-from_slice c.args.passes.now cc) (λ x b q k. search (rules, tests)) in
    found ∙ outside_named c.args.passes.now
