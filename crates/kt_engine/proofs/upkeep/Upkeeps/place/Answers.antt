use Rattle.std.proofs.Common.{sym, ◌∙◌, rules, tests}
use Rattle.std.specs.Prelude.{◌==◌}
use Rattle.std.proofs.lemmas.Iterator.{YieldsList-from_slice}
use Rattle.std.proofs.lemmas.Iterator.Search.{position_from_yields_List}
use Rattle.std.proofs.lemmas.Iterator.Adapters.{position_from-zero}
use Rattle.kt_engine.specs.declared.upkeep.Upkeep.{Upkeep}
use Rattle.kt_engine.proofs.Passes.{place_found}
use Rattle.kt_engine.proofs.upkeep.Upkeeps.place.Goals as goal

pub returns : goal.returns
returns c =
    let us = c.self.inside.passes.items in
    let found = position_from_yields_List (λ (u : Upkeep). u.pass == c.args.pass) _ _ c.position.result c.position.ensures.ran (YieldsList-from_slice us cc) (λ x b q k. search (rules, tests)) in
    rw (sym c.self.view_is) (place_found us c.args.pass c.position.result (found ∙ position_from-zero (λ (u : Upkeep). u.pass == c.args.pass) us))
